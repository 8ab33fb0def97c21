use Rattle.std.proofs.Common.{◌≡◌, length}
use Rattle.task_table.specs.model.State.{State}
use Rattle.board_model.specs.Script.{Scenario}
use Rattle.board_core.specs.Data.{boxed}
use Rattle.board_core.specs.Stands.{Stands}
use Rattle.debug_core.proofs.Bytes.{AreRead}
use Rattle.debug_core.proofs.debugger.bytes.Given as goal

abbrev pub invariant-loop-k : goal.invariant-loop-k
invariant-loop-k boxes l =
    let shown = boxed (λ p. (goal.Device-dyn boxes p).shown p.1) in
    record {
      count : length l.bytes.items ≡ l.k;
      read : (x : Scenario) (s : State) → Stands shown x l.board s → AreRead s.memory l.at l.k l.bytes.items;
    }
