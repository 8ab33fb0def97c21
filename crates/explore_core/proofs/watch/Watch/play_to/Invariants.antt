use Rattle.std.proofs.Common.{◌-◌, ◌≤◌}
use Rattle.task_table.specs.model.State.{State}
use Rattle.board_model.specs.Script.{Scenario}
use Rattle.board_core.specs.Data.{boxed}
use Rattle.board_core.specs.Stands.{Stands, StandsForSome, turns_of}
use Rattle.explore_core.specs.Watching.{AllThere, watched_of}
use Rattle.explore_core.proofs.Played.{HasPlayedSoFar}
use Rattle.explore_core.proofs.watch.Watch.play_to.Given as goal

abbrev pub invariant-turns : goal.invariant-turns
invariant-turns g l =
    let shown = boxed (λ p. (goal.Device-dyn g p).shown p.1) in
    record {
      stood : StandsForSome shown l.board;
      within : turns_of l.board ≤ l.to;
      played : (x : Scenario) (s : State) → Stands shown x l.fn.board s → AllThere s (watched_of l.fn.self) → HasPlayedSoFar shown x s (watched_of l.fn.self) (watched_of l.self) l.board;
    }

abbrev pub decreases-turns : goal.decreases-turns
decreases-turns g l = l.to - turns_of l.board
