use Rattle.std.proofs.Common.{◌≡◌, ◌+◌, ◌*◌, ◌++◌, length, take, map}
use Rattle.std.specs.List.{flat_map, range_with_len}
use Rattle.task_table.specs.model.State.{State}
use Rattle.board_model.specs.Alike.{reduced}
use Rattle.board_model.specs.Script.{Scenario}
use Rattle.board_core.specs.Data.{boxed}
use Rattle.board_core.specs.Stands.{Stands}
use Rattle.snapshot.specs.Records.{task_bytes}
use Rattle.snapshot.specs.Saved.{record_of}
use Rattle.snapshot.proofs.saving.save_tasks.Given as goal

abbrev pub invariant-loop-i : goal.invariant-loop-i
invariant-loop-i boxes l =
    let shown = boxed (λ p. (goal.Device-dyn boxes p).shown p.1) in
    record {
      front : (x : Scenario) (s : State) → Stands shown x l.board s → take l.end l.out ≡ take l.at l.fn.out ++ flat_map task_bytes (map (record_of (reduced s)) (range_with_len 0 l.i));
      place : l.end ≡ l.at + 132 * l.i;
      len : length l.out ≡ length l.fn.out;
    }
