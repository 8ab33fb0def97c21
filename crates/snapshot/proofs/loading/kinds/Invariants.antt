use Rattle.std.proofs.Common.{◌≡◌, map, take}
use Rattle.kernel_abi.specs.Devices.{DeviceData}
use Rattle.snapshot.proofs.loading.kinds.Given as goal

-- those of the devices so far
abbrev pub invariant-loop-k : goal.invariant-loop-k
invariant-loop-k g l = l.kinds.items ≡ map (λ (d : DeviceData). d.kind) (take l.k (map (λ b. (goal.Device-dyn g (b.vtable, b.value)).shown b.value) l.devices.items))
