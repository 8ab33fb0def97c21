-- What a run that goes on makes of a property: it is still looked for, with what is kept for it; or it was broken.
use Rattle.std.specs.Prelude.{ℕ, Option, Some}
use Rattle.task_table.specs.model.State.{State}
use Rattle.board_model.specs.declared.outcomes.End.{End}
use Rattle.board_model.specs.declared.outcomes.Level.TheVariants.{Calls}
use Rattle.board_model.specs.Script.{Scenario}
use Rattle.board_model.specs.Turn.{turn}
use Rattle.run_question.specs.declared.asked.Property.{Property}
use Rattle.explore_core.specs.declared.standing.Standing.{Standing}
use Rattle.explore_core.specs.declared.standing.Standing.TheVariants as standing
use Rattle.explore_core.specs.declared.verdict.Verdict.{Verdict}
use Rattle.explore_core.specs.declared.verdict.Verdict.TheVariants.{Open, Broken}
use Rattle.explore_core.specs.Kept.{broken_from, by_turn, found_at_end, on_state}

-- in which turn it is broken, of a run that has come to a state and has so many turns left
abbrev pub broken_by : Property → Scenario → ℕ → Verdict → State → Option ℕ
broken_by p x left (Open kept) s = broken_from p x left kept s
broken_by p x left (Broken turn) s = Some turn

-- broken in this turn, or else as it goes on
abbrev pub unless_broken : ℕ → Standing → (ℕ → Verdict) → Verdict
unless_broken turn standing.Broken more = Broken turn
unless_broken turn (standing.Kept kept) more = more kept

-- the verdict after the turn from a state
abbrev pub stepped : Property → Scenario → Verdict → State → Verdict
stepped p x (Broken turn) s = Broken turn
stepped p x (Open kept) s =
    let next = (turn Calls x s).state in
    unless_broken s.turn (by_turn p kept x s) (λ later. unless_broken next.turn (on_state p later next) (λ now. Open now))

-- in which turn it is broken, of a run that ends so in a state
abbrev pub ended : Property → Verdict → End → State → Option ℕ
ended p (Broken turn) end s = Some turn
ended p (Open kept) end s = found_at_end p kept end s
