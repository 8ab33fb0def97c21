use Rattle.std.proofs.Common.{◌≡◌}
use Rattle.task_table.specs.model.State.{State}
use Rattle.board_model.specs.Script.{Scenario}
use Rattle.board_core.specs.Data.{boxed}
use Rattle.board_core.specs.Stands.{Holds, count_of}
use Rattle.snapshot.specs.Loaded.{with_tasks}
use Rattle.snapshot.proofs.loading.set_tasks.Given as goal

-- the tasks so far
abbrev pub invariant-loop-i : goal.invariant-loop-i
invariant-loop-i g l =
    let shown = boxed (λ p. (goal.Device-dyn g p).shown p.1) in
    record {
      holds : (x : Scenario) (s : State) → Holds shown x l.fn.board s → Holds shown x l.board (with_tasks l.bytes l.i s);
      count : count_of l.board ≡ count_of l.fn.board;
    }
