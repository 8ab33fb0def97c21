use Rattle.std.proofs.Common.{◌≡◌, ◌∙◌, ◌<◌, ℕ, length, refl, sym, ap, subst, add-one, arith}
use Rattle.kernel_abi.specs.declared.Kind.{Kind}
use Rattle.kernel_abi.specs.Devices.{DeviceData, device_at}
use Rattle.task_table.specs.model.State.{State}
use Rattle.board_core.specs.Data.{boxed}
use Rattle.board_core.specs.Stands.{Holds}
use Rattle.snapshot.specs.Records.{device_in}
use Rattle.snapshot.specs.Accepted.{IsGoodDevice}
use Rattle.snapshot.specs.Loaded.{with_devices}
use Rattle.snapshot.proofs.Loads.{devices_length, devices_left}
use Rattle.snapshot.proofs.loading.set_devices.Goals as goal

pub loop-k-init : goal.loop-k-init
unfolding with_devices
loop-k-init g c = record { holds = λ x s h. h; count = refl }

pub set_device-requires : goal.set_device-requires
set_device-requires g c =
    let x = c.requires.fit.0 in
    let s = c.requires.fit.1 in
    let k = c.loop-k.k in
    let bytes = c.args.bytes.now in
    let tasks = c.args.tasks in
    let u : State = record s { devices = with_devices bytes tasks k s.devices } in
    let many = c.requires.fit.3 in
    let long = devices_length bytes tasks k s.devices in
    let there : k < length u.devices = omega arith in
    let kind : (device_at s.devices k).kind ≡ (device_at u.devices k).kind = ap (λ (d : DeviceData). d.kind) (sym (devices_left bytes tasks k k s.devices _ (omega arith))) in
    let good = subst (λ (y : Kind). IsGoodDevice y (device_in bytes tasks k)) kind (c.requires.fit.4 k c.loop-k-test.true) in
    (x, u, c.loop-k.invariant.holds x s c.requires.fit.2, there, rw c.device_record.ensures good)

pub loop-k-preserved : goal.loop-k-preserved
unfolding with_devices
loop-k-preserved g c = record {
  holds = λ x s h. rw add-one (rw c.device_record.ensures at (c.set_device.ensures.holds x _ (c.loop-k.invariant.holds x s h)));
  count = c.set_device.ensures.count ∙ c.loop-k.invariant.count;
}

pub returns-clause-holds : goal.returns-clause-holds
returns-clause-holds g c =
    let shown = boxed (λ p. (goal.Device-dyn g p).shown p.1) in
    let last : c.loop-k.k ≡ c.args.devices = omega arith in
    λ x s h.
    let P : ℕ → Type 0 = λ n. Holds shown x c.loop-k.board record s { devices = with_devices c.args.bytes.now c.args.tasks n s.devices } in
    subst P last (c.loop-k.invariant.holds x s h)

pub returns-clause-count : goal.returns-clause-count
returns-clause-count g c = c.loop-k.invariant.count
