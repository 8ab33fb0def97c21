-- A run goes by what happens in each turn of its script, and by whether the script lasts.
use Rattle.std.proofs.Common.{◌≡◌, ◌∙◌, ℕ, zero, suc, ◌+◌, Bool, true, false, List, Option, refl, sym, ap, arith}
use Rattle.std.specs.Prelude.{fold, not, ◌&&◌, is_none}
use Rattle.run_script.specs.declared.events.Event.{Event}
use Rattle.run_script.specs.Scripts.{ScriptData, events_of, lasts}
use Rattle.task_table.specs.model.State.{Setup, State, Turn}
use Rattle.task_table.specs.model.Reading.{chosen}
use Rattle.task_table.specs.model.Effects.{◌⨾◌}
use Rattle.task_table.specs.model.Start.{begun}
use Rattle.task_table.specs.model.Sane.{Sane}
use Rattle.board_model.specs.declared.outcomes.Level.{Level}
use Rattle.board_model.specs.declared.outcomes.End.{End}
use Rattle.board_model.specs.declared.outcomes.End.TheVariants.{Bound}
use Rattle.board_model.specs.Script.{Scenario}
use Rattle.board_model.specs.Turn.{turn, turn_of, ended, happened, after_events}
use Rattle.board_model.specs.Run.{Run, run, ending, end_by, is_down, is_still, unless, ended_at, with_front, at_turn}
use Rattle.board_model.proofs.Counts.{turn_more}
use Rattle.board_model.proofs.TurnChains.{sane-after}
use Rattle.board_model.specs.Laid.{with_script}
use Rattle.board_model.specs.SameScripts.{AgreeFor}

-- ## one turn

abbrev by_events : Level → Setup → State → List Event → Turn
by_events level g s events =
    let t = fold (happened g) (begun s) events in
    t ⨾ turn_of level g (chosen g t.state) ⨾ ended

turn_is : (level : Level) (x : Scenario) (s : State) → turn level x s ≡ by_events level x.setup s (events_of x.script s.turn)
unfolding turn after_events
turn_is level x s = refl

pub same_turn : (level : Level) (x : Scenario) (other : ScriptData) (s : State) → events_of other s.turn ≡ events_of x.script s.turn → turn level (with_script x other) s ≡ turn level x s
same_turn level x other s e = turn_is level (with_script x other) s ∙ ap (by_events level x.setup s) e ∙ sym (turn_is level x s)

-- ## the end

-- with no turn left the script does not count
none_left : (down a b : Bool) → end_by down 0 a ≡ end_by down 0 b
none_left true a b = refl
none_left false a b = refl

same_bound : (x : Scenario) (other : ScriptData) (s : State) → ending (with_script x other) 0 s ≡ ending x 0 s
unfolding ending
same_bound x other s = none_left (is_down s) (is_still (with_script x other) s) (is_still x s)

same_end : (x : Scenario) (other : ScriptData) (left : ℕ) (s : State) → lasts other s.turn ≡ lasts x.script s.turn → ending (with_script x other) left s ≡ ending x left s
unfolding ending
same_end x other left s e = ap (λ (b : Bool). end_by (is_down s) left (is_none (chosen x.setup s) && not b)) e

-- ## the run

fewer : (a b : ScriptData) (from next n : ℕ) → next ≡ from + 1 → AgreeFor a b from (suc n) → AgreeFor a b next n
fewer a b from next n is h = record {
  events = λ turn le lt. h.events turn (omega (arith, le, is)) (omega (arith, lt, is));
  last = λ turn le lt. h.last turn (omega (arith, le, is)) (omega (arith, lt, is));
}

abbrev by_first : Level → Scenario → State → Option End → Turn → Run → Run
by_first level x s o t rest = unless s o (with_front (at_turn s.turn t.notes) rest)

pub same_run : (level : Level) (x : Scenario) (other : ScriptData) (n : ℕ) (s : State) → Sane x.setup s → AgreeFor x.script other s.turn n → run level (with_script x other) n s ≡ run level x n s
unfolding run
same_run level x other zero s h agree = ap (λ (o : Option End). unless s o (ended_at s Bound)) (same_bound x other s)
same_run level x other (suc n) s h agree =
    let y = with_script x other in
    let t = turn level x s in
    let here : turn level y s ≡ t = same_turn level x other s (agree.events s.turn (omega arith) (omega arith)) in
    let end : ending y (suc n) s ≡ ending x (suc n) s = same_end x other (suc n) s (agree.last s.turn (omega arith) (omega arith)) in
    let rest : run level y n t.state ≡ run level x n t.state = same_run level x other n t.state (sane-after level x s h) (fewer x.script other s.turn t.state.turn n (turn_more level x s h) agree) in
    ap (λ (u : Turn). by_first level x s (ending y (suc n) s) u (run level y n u.state)) here
    ∙ ap (λ (o : Option End). by_first level x s o t (run level y n t.state)) end
    ∙ ap (by_first level x s (ending x (suc n) s) t) rest
