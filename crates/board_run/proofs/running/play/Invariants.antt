use Rattle.std.proofs.Common.{◌-◌, ◌<◌, ◌≤◌}
use Rattle.task_table.specs.model.State.{State}
use Rattle.board_model.specs.Script.{Scenario}
use Rattle.board_core.specs.Data.{boxed}
use Rattle.board_core.specs.Stands.{Stands, StandsForSome, turns_of}
use Rattle.board_run.specs.Midway.{Midway}
use Rattle.board_run.proofs.running.play.Given as goal

abbrev pub invariant-turns : goal.invariant-turns
invariant-turns g l =
    let shown = boxed (λ p. (goal.Device-dyn g p).shown p.1) in
    record {
      midway : (x : Scenario) (s : State) → Stands shown x l.fn.board s → Midway shown g.T.Observer.heard l.level x l.fn.observer l.observer s l.board;
      stood : StandsForSome shown l.board;
      turns : turns_of l.board ≤ l.limit;
      due : l.due ≤ l.limit;
      later : turns_of l.board < l.limit → turns_of l.board < l.due;
    }

abbrev pub decreases-turns : goal.decreases-turns
decreases-turns g l = l.limit - turns_of l.board
