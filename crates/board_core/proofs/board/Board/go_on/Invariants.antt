use Rattle.std.proofs.Common.{◌-◌, ◌<◌, ◌≤◌, length}
use Rattle.task_table.specs.kept.Limits.{turn_notes}
use Rattle.task_table.specs.model.State.{State}
use Rattle.board_model.specs.declared.outcomes.Level.TheVariants.{Calls}
use Rattle.board_model.specs.Script.{Scenario}
use Rattle.board_core.specs.Stands.{Stands, notes_of, turns_of}
use Rattle.board_core.specs.fast.Advanced.{IsAdvanced}
use Rattle.board_core.specs.Data.{boxed}
use Rattle.board_core.proofs.board.Board.go_on.Given as goal

abbrev pub invariant-on : goal.invariant-on
invariant-on boxes l =
    let shown = boxed (λ p. (goal.Device-dyn boxes p).shown p.1) in
    record {
      advanced : (x : Scenario) (s : State) → Stands shown x l.fn.self s → IsAdvanced shown Calls x (turns_of l.self - turns_of l.fn.self - 1) s l.self;
      more : turns_of l.fn.self < turns_of l.self;
      within : turns_of l.self ≤ l.limit;
      noted : length (notes_of l.self) ≤ turn_notes;
    }

abbrev pub decreases-on : goal.decreases-on
decreases-on boxes l = l.limit - turns_of l.self
