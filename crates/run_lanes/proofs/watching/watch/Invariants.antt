use Rattle.std.proofs.Common.{◌≡◌, ◌-◌, ◌≤◌, length, None, true}
use Rattle.task_table.specs.model.State.{State}
use Rattle.board_model.specs.Script.{Scenario}
use Rattle.board_core.specs.Data.{boxed}
use Rattle.board_core.specs.Stands.{Stands, StandsForSome, turns_of}
use Rattle.run_lanes.specs.Seen.{Paired, HasWatched}
use Rattle.run_lanes.proofs.watching.watch.Given as goal

abbrev pub invariant-turns : goal.invariant-turns
invariant-turns g l =
    let shown = boxed (λ p. (goal.Device-dyn g p).shown p.1) in
    record {
      seen : (x : Scenario) (s : State) → Stands shown x l.fn.board s → HasWatched shown (Paired g.W.Watcher.saw) x (l.fn.watcher, l.fn.out) (l.watcher, l.out) s l.board;
      stood : StandsForSome shown l.board;
      turns : turns_of l.board ≤ l.limit;
      one_each : (x : Scenario) (s : State) → Stands shown x l.fn.board s → length l.activities ≡ length x.setup.tasks;
      none : l.idle ≡ true → l.board.choice.next ≡ None;
    }

abbrev pub decreases-turns : goal.decreases-turns
decreases-turns g l = l.limit - turns_of l.board
