use Rattle.std.proofs.Common.{◌≡◌, ◌+◌, ◌*◌, ◌++◌, length, take, map}
use Rattle.std.specs.List.{flat_map, range_with_len}
use Rattle.kernel_abi.specs.Devices.{device_at}
use Rattle.task_table.specs.model.State.{State}
use Rattle.board_model.specs.Script.{Scenario}
use Rattle.board_core.specs.Data.{boxed}
use Rattle.board_core.specs.Stands.{Stands}
use Rattle.snapshot.specs.Records.{device_bytes}
use Rattle.snapshot.specs.Saved.{device_told}
use Rattle.snapshot.proofs.saving.save_devices.Given as goal

abbrev pub invariant-loop-k : goal.invariant-loop-k
invariant-loop-k boxes l =
    let shown = boxed (λ p. (goal.Device-dyn boxes p).shown p.1) in
    record {
      front : (x : Scenario) (s : State) → Stands shown x l.board s → take l.end l.out ≡ take l.at l.fn.out ++ flat_map device_bytes (map (λ k. device_told (device_at s.devices k)) (range_with_len 0 l.k));
      place : l.end ≡ l.at + 72 * l.k;
      len : length l.out ≡ length l.fn.out;
    }
