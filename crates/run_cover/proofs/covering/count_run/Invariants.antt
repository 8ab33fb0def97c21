use Rattle.std.proofs.Common.{◌≡◌, ◌-◌, ◌≤◌, None, true}
use Rattle.task_table.specs.model.State.{State}
use Rattle.board_model.specs.declared.outcomes.Level.TheVariants.{All}
use Rattle.board_model.specs.Script.{Scenario}
use Rattle.board_core.specs.Data.{boxed}
use Rattle.board_core.specs.Stands.{Stands, StandsForSome, turns_of}
use Rattle.board_run.specs.Midway.{Midway}
use Rattle.run_cover.specs.Counted.{Heard}
use Rattle.run_cover.proofs.covering.count_run.Given as goal

abbrev pub invariant-turns : goal.invariant-turns
invariant-turns boxes l =
    let shown = boxed (λ p. (goal.Device-dyn boxes p).shown p.1) in
    record {
      midway : (x : Scenario) (s : State) → Stands shown x l.fn.board s → Midway shown Heard All x l.fn.counts l.counts s l.board;
      stood : StandsForSome shown l.board;
      turns : turns_of l.board ≤ l.limit;
      none : l.idle ≡ true → l.board.choice.next ≡ None;
    }

abbrev pub decreases-turns : goal.decreases-turns
decreases-turns boxes l = l.limit - turns_of l.board
