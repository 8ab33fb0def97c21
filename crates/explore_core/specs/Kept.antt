-- What is kept of a run for a property while it goes on: a number. Of a condition, of how many states on end it has held up to this one; of an answer
-- that is owed, in how many turns it may still come; else 0.
use Rattle.std.specs.Prelude.{ℕ, zero, suc, ◌+◌, ◌==◌, ◌&&◌, nat_lt, Bool, false, not, if◌then◌else◌, List, Option, Some, None}
use Rattle.std.specs.List.{list_any}
use Rattle.kernel_abi.specs.declared.Note.{Note}
use Rattle.task_table.specs.model.State.{State}
use Rattle.board_model.specs.declared.outcomes.End.{End}
use Rattle.board_model.specs.declared.outcomes.End.TheVariants.{Bound, Still, Supervisor}
use Rattle.board_model.specs.declared.outcomes.Level.TheVariants.{Calls}
use Rattle.board_model.specs.Run.{ending}
use Rattle.board_model.specs.Script.{Scenario, start_of}
use Rattle.board_model.specs.Turn.{turn}
use Rattle.board_core.specs.Changes.{change_in}
use Rattle.trace_text.specs.Kinds.{is_sought}
use Rattle.run_question.specs.declared.asked.Condition.{Condition}
use Rattle.run_question.specs.declared.asked.Line.{Line}
use Rattle.run_question.specs.declared.asked.Property.{Property}
use Rattle.run_question.specs.declared.asked.Property.TheVariants as property
use Rattle.explore_core.specs.declared.standing.Standing.{Standing}
use Rattle.explore_core.specs.declared.standing.Standing.TheVariants.{Kept, Broken}
use Rattle.explore_core.specs.Asked.{holds, is_some_other, is_still}

-- ## at a state that a run comes to

abbrev pub held_by : Bool → ℕ → ℕ → Standing
held_by holds turns kept = if not holds then Kept 0 else (if nat_lt turns (kept + 1) then Broken else Kept (kept + 1))

abbrev pub held_on : Condition → ℕ → ℕ → State → Standing
held_on c turns kept s = held_by (holds c s) turns kept

abbrev pub on_state : Property → ℕ → State → Standing
on_state (property.NeverSo c turns) kept s = held_on c turns kept s
on_state _ kept s = Kept kept

-- ## by a turn

abbrev pub tells_such : Line → List Note → Bool
tells_such line notes = list_any (is_sought line.kind line.number) notes

abbrev pub broken_if : Bool → ℕ → Standing
broken_if broken kept = if broken then Broken else Kept kept

-- an answer comes; or one turn less is left for it; or it is owed from here on
abbrev pub owed_on : Bool → Bool → ℕ → ℕ → Standing
owed_on told answered turns zero = if told && not answered then broken_if (turns == 0) turns else Kept 0
owed_on told answered turns (suc left) = if answered then Kept 0 else broken_if (left == 0) left

abbrev pub by_turn : Property → ℕ → Scenario → State → Standing
by_turn (property.NeverTold line) kept x s = broken_if (tells_such line (turn Calls x s).notes) kept
by_turn (property.NeverChanged at but) kept x s = broken_if (is_some_other but (change_in x at s)) kept
by_turn (property.Answered line answer turns) kept x s = owed_on (tells_such line (turn Calls x s).notes) (tells_such answer (turn Calls x s).notes) turns kept
by_turn _ kept x s = Kept kept

-- ## at the end

abbrev pub owes_at : End → ℕ → Bool
owes_at Bound kept = false
owes_at Still kept = nat_lt 0 kept
owes_at Supervisor kept = nat_lt 0 kept

abbrev pub breaks_at_end : Property → ℕ → End → State → Bool
breaks_at_end (property.EndsSo c) kept end s = not (holds c s)
breaks_at_end property.EndsStill kept end s = not (is_still end)
breaks_at_end (property.Answered line answer turns) kept end s = owes_at end kept
breaks_at_end _ kept end s = false

-- ## the turn in which it is broken, by what is kept

abbrev pub found_at_end : Property → ℕ → End → State → Option ℕ
found_at_end p kept end s = if breaks_at_end p kept end s then Some s.turn else None

-- at a state: broken there; or else as it goes on
abbrev pub from_standing : ℕ → Standing → (ℕ → Option ℕ) → Option ℕ
from_standing turn Broken more = Some turn
from_standing turn (Kept kept) more = more kept

abbrev pub unless_ended : Property → ℕ → State → Option End → Option ℕ → Option ℕ
unless_ended p kept s (Some end) more = found_at_end p kept end s
unless_ended p kept s None more = more

-- in the run of at most so many turns from a state that was looked at
unfoldable pub broken_from : Property → Scenario → ℕ → ℕ → State → Option ℕ
broken_from p x zero kept s = unless_ended p kept s (ending x 0 s) None
broken_from p x (suc left) kept s =
    let next = (turn Calls x s).state in
    unless_ended p kept s (ending x (suc left) s)
    (from_standing s.turn (by_turn p kept x s) (λ later. from_standing next.turn (on_state p later next) (λ now. broken_from p x left now next)))

-- in a run of at most so many turns from the start
abbrev pub broken_kept : Property → Scenario → ℕ → Option ℕ
broken_kept p x limit = from_standing 0 (on_state p 0 (start_of x)) (λ kept. broken_from p x limit kept (start_of x))
