-- A run breaks a property in the same turn with each script in which the same happens from there on.
use Rattle.std.proofs.Common.{◌≡◌, ◌∙◌, ℕ, zero, suc, ◌≤◌, Bool, true, false, Option, None, refl, ap, arith}
use Rattle.std.specs.Prelude.{◌&&◌, not, is_none}
use Rattle.run_script.specs.Scripts.{ScriptData, lasts}
use Rattle.task_table.specs.model.State.{State}
use Rattle.task_table.specs.model.Reading.{chosen}
use Rattle.task_table.specs.model.Sane.{Sane}
use Rattle.board_model.specs.declared.outcomes.End.{End}
use Rattle.board_model.specs.declared.outcomes.Level.TheVariants.{Calls}
use Rattle.board_model.specs.Laid.{with_script}
use Rattle.board_model.specs.Run.{end_by, ending, is_down, is_still}
use Rattle.board_model.specs.SameScripts.{AgreeFor}
use Rattle.board_model.specs.Script.{Scenario}
use Rattle.board_model.specs.Turn.{turn}
use Rattle.board_model.proofs.Counts.{turn_more}
use Rattle.board_model.proofs.SameScripts.{same_turn}
use Rattle.board_model.proofs.TurnChains.{sane-after}
use Rattle.run_question.specs.declared.asked.Property.{Property}
use Rattle.explore_core.specs.Kept.{broken_from, by_turn, from_standing, on_state, unless_ended}
use Rattle.explore_core.specs.Over.{AreSameFrom}
use Rattle.explore_core.specs.Schedules.{Schedule, scheduled}
use Rattle.explore_core.proofs.Over.{agree_from}
use Rattle.explore_core.proofs.Played.{same_by_turn}

pub same_end : (x : Scenario) (other : ScriptData) (left : ℕ) (s : State) → lasts other s.turn ≡ lasts x.script s.turn → ending (with_script x other) left s ≡ ending x left s
unfolding ending
same_end x other left s e = ap (λ (b : Bool). end_by (is_down s) left (is_none (chosen x.setup s) && not b)) e

none_left : (down a b : Bool) → end_by down 0 a ≡ end_by down 0 b
none_left true a b = refl
none_left false a b = refl

same_bound : (x : Scenario) (other : ScriptData) (s : State) → ending (with_script x other) 0 s ≡ ending x 0 s
unfolding ending
same_bound x other s = none_left (is_down s) (is_still (with_script x other) s) (is_still x s)

pub same_broken : (p : Property) (x : Scenario) (other : ScriptData) (n kept : ℕ) (s : State) → Sane x.setup s → AgreeFor x.script other s.turn n →
    broken_from p (with_script x other) n kept s ≡ broken_from p x n kept s
unfolding broken_from
same_broken p x other zero kept s h agree = ap (λ (o : Option End). unless_ended p kept s o None) (same_bound x other s)
same_broken p x other (suc n) kept s h agree =
    let y = with_script x other in
    let u = (turn Calls x s).state in
    let same = agree.events s.turn (omega arith) (omega arith) in
    let here : turn Calls y s ≡ turn Calls x s = same_turn Calls x other s same in
    let by = same_by_turn x other s same p kept in
    let end = same_end x other (suc n) s (agree.last s.turn (omega arith) (omega arith)) in
    let next = turn_more Calls x s h in
    let fewer : AgreeFor x.script other u.turn n = record {
      events = λ turn le lt. agree.events turn (omega (arith, le, next)) (omega (arith, lt, next));
      last = λ turn le lt. agree.last turn (omega (arith, le, next)) (omega (arith, lt, next));
    } in
    let rest = λ (now : ℕ). same_broken p x other n now u (sane-after Calls x s h) fewer in
    (λ i. unless_ended p kept s (end i) (from_standing s.turn (by i) (λ later. from_standing (here i).state.turn (on_state p later (here i).state) (λ now. broken_from p y n now (here i).state))))
    ∙ (λ i. unless_ended p kept s (ending x (suc n) s) (from_standing s.turn (by_turn p kept x s) (λ later. from_standing u.turn (on_state p later u) (λ now. rest now i))))

-- where what came is over, it does not matter that it came
pub over_breaks : (p : Property) (x : Scenario) (one other : Schedule) (turn n kept : ℕ) (s : State) → Sane x.setup s → turn ≤ s.turn → AreSameFrom turn one other → broken_from p (scheduled x one) n kept s ≡ broken_from p (scheduled x other) n kept s
over_breaks p x one other turn n kept s h le same = same_broken p (scheduled x other) (scheduled x one).script n kept s h (agree_from x one other turn s.turn n le same)
