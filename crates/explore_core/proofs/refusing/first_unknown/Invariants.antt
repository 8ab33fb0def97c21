use Rattle.std.proofs.Common.{◌≡◌, true, take}
use Rattle.std.specs.List.{All}
use Rattle.task_table.specs.model.State.{State}
use Rattle.run_question.specs.declared.question.Stated.{Stated}
use Rattle.board_model.specs.Script.{Scenario}
use Rattle.board_core.specs.Data.{boxed}
use Rattle.board_core.specs.Stands.{Stands}
use Rattle.explore_core.specs.Refusals.{has_all_of}
use Rattle.explore_core.proofs.refusing.first_unknown.Given as goal

abbrev pub invariant-loop-stated : goal.invariant-loop-stated
invariant-loop-stated g l =
    let shown = boxed (λ p. (goal.Device-dyn g p).shown p.1) in
    (x : Scenario) (s : State) → Stands shown x l.board s → All (λ (w : Stated). has_all_of s w.property ≡ true) (take l.stated-index l.properties)
