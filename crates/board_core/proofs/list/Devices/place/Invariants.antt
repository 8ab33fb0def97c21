use Rattle.std.proofs.Common.{◌≡◌, ◌<◌, ◌-◌, ℕ, length, map, false}
use Rattle.kernel_abi.specs.Devices.{is_behind, device_at}
use Rattle.board_core.proofs.list.Devices.place.Given as goal

abbrev pub invariant-loop-k : goal.invariant-loop-k
invariant-loop-k g l =
    let ds = map (λ b. (goal.Device-dyn g (b.vtable, b.value)).shown b.value) l.self.list.items in
    record { inside : l.len ≡ length ds; before : (j : ℕ) → j < l.k → is_behind l.addr (device_at ds j) ≡ false }

-- proposed from the loop's first test
abbrev pub decreases-loop-k : goal.decreases-loop-k
decreases-loop-k g l = l.len - l.k
