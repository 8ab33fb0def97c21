-- Between the turns of a run no enabled line is asked for.
use Rattle.std.proofs.Common.{◌≡◌, ◌<◌, inl, inr, ℕ, zero, suc, true, false, List, length, Option, Some, None, refl, sym, ◌∙◌, ap, arith, get_or, subst}
use Rattle.std.specs.Prelude.{Contains, replicate}
use Rattle.std.proofs.lemmas.Bool.{false≢true}
use Rattle.std.proofs.lemmas.List.{get_or_default}
use Rattle.kernel_abi.specs.Devices.{DeviceData}
use Rattle.kernel_abi.specs.declared.Note.TheVariants as note
use Rattle.task_table.specs.declared.Line.{Line}
use Rattle.task_table.specs.model.State.{Setup, LineSetup, State, Turn}
use Rattle.task_table.specs.model.Asking.{asks_at, is_asked}
use Rattle.task_table.specs.model.Reading.{line_at, no_line, chosen}
use Rattle.task_table.specs.model.Start.{start}
use Rattle.task_table.specs.model.Sane.{Sane}
use Rattle.board_model.specs.declared.outcomes.Level.{Level}
use Rattle.board_model.specs.Script.{Scenario, start_of}
use Rattle.board_model.specs.Asked.{AreAscending, AreAnswered}
use Rattle.board_model.specs.Turn.{after_events, with_current, stepped, turn_of, ended, turn}
use Rattle.board_model.specs.Run.{state_after}
use Rattle.board_model.proofs.Answered.{none_same, answered-after_events}
use Rattle.board_model.proofs.AskingLess.{AsksLess, reached_less}
use Rattle.board_model.proofs.Enabling.{EnablesUnasked, from_none, unasked_then, unasked-stepped}
use Rattle.board_model.proofs.LonerOwnTurns.{state-registers}
use Rattle.board_model.proofs.Reached.{reached_in, none_in}
use Rattle.board_model.proofs.RunKeeps.{state_turns}
use Rattle.board_model.proofs.TurnChains.{noted_state}

-- ## the start

no_lines : (n k : ℕ) → (get_or (replicate n no_line) k no_line).enabled ≡ true → ⊥
no_lines zero k on = false≢true on
no_lines (suc n) zero on = false≢true on
no_lines (suc n) (suc k) on = no_lines n k on

pub answered-start : (x : Scenario) → AreAnswered x.setup (start_of x)
unfolding line_at start
answered-start x o here on = absurd (no_lines x.setup.line_count o.line on)

-- ## a turn

-- an owner is known by its line
ascends : (g : Setup) (o p : LineSetup) (i j : ℕ) → AreAscending g → get_or g.lines i o ≡ o → get_or g.lines j p ≡ p → j < length g.lines → i < j → o.line < p.line
ascends g o p i j up is it inside lt =
    let line : LineSetup → ℕ = λ q. q.line in
    let less = up i j o lt inside in
    let first = ap line is in
    let second = ap line (get_or_default g.lines j o p inside ∙ it) in
    omega (arith, less, first, second)

same_owner : (g : Setup) (o p : LineSetup) → AreAscending g → Contains g.lines o → Contains g.lines p → o.line ≡ p.line → o ≡ p
same_owner g o p up (i, below, is) (j, inside, it) same =
    let up_to : i < j → o.line < p.line = ascends g o p i j up is it inside in
    let down_to : j < i → p.line < o.line = ascends g p o j i up it is below in
    let at : i ≡ j = grind (arith, up_to, down_to, same) in
    sym is ∙ get_or_default g.lines i o p below ∙ ap (λ (k : ℕ). get_or g.lines k p) at ∙ it

-- lines that are enabled where none is asked for, while devices ask less
answered_then : (g : Setup) (s u : State) → AreAscending g → EnablesUnasked g s u → AsksLess s.devices u.devices → AreAnswered g s → AreAnswered g u
answered_then g s u up h less answered o here on = elim (h.enabled o.line on) [
  | inl before ↦ less o.device (answered o here before)
  | inr (p, there, same, unasked) ↦ less o.device (subst (λ (q : LineSetup). is_asked s q ≡ false) (same_owner g p o up there here same) unasked)
]

current_unasked : (g : Setup) (c : ℕ) (t : Turn) (u : State) → EnablesUnasked g (with_current c t).state u → EnablesUnasked g t.state u
unfolding line_at
current_unasked g c t u h = record { enabled = λ k on. h.enabled k on }

ended_lines : (t : Turn) → (ended t).state.lines ≡ t.state.lines
unfolding ended
ended_lines t = refl

-- from the events to the end of the turn
unasked-turn : (level : Level) (x : Scenario) (s : State) → EnablesUnasked x.setup (after_events x s).state (turn level x s).state
unfolding turn
unasked-turn level x s = by_choice (chosen x.setup t.state)
  where
    t : Turn
    t = after_events x s

    lines_in : State → List Line
    lines_in y = y.lines

    by_choice : (o : Option ℕ) → EnablesUnasked x.setup t.state (ended (turn_of level x.setup o t)).state
    by_choice None = from_none x.setup t.state _ (none_same t.state _ (ended_lines _ ∙ ap lines_in (noted_state level note.Idle t)))
    by_choice (Some c) =
        let u = with_current c t in
        let v = stepped level x.setup c u in
        unasked_then x.setup t.state v.state _ (current_unasked x.setup c t v.state (unasked-stepped x.setup c level u))
        (none_same v.state _ (ended_lines _ ∙ ap lines_in (state-registers level c v)))

pub answered-turn : (level : Level) (x : Scenario) (s : State) → AreAscending x.setup → Sane x.setup s → AreAnswered x.setup s → AreAnswered x.setup (turn level x s).state
answered-turn level x s up h answered = by_choice (chosen x.setup (after_events x s).state) refl
  where
    then : AsksLess (after_events x s).state.devices (turn level x s).state.devices → AreAnswered x.setup (turn level x s).state
    then less = answered_then x.setup (after_events x s).state (turn level x s).state up (unasked-turn level x s) less (answered-after_events x s answered)

    by_choice : (o : Option ℕ) → chosen x.setup (after_events x s).state ≡ o → AreAnswered x.setup (turn level x s).state
    by_choice None e = then (λ addr quiet. ap (λ (ds : List DeviceData). asks_at ds addr) (none_in level x s e) ∙ quiet)
    by_choice (Some c) e = then (reached_less x.setup c _ _ (reached_in level x s c h e))

-- ## a run

pub answered-turns : (level : Level) (x : Scenario) (n : ℕ) → AreAscending x.setup → Sane x.setup (start_of x) → AreAnswered x.setup (state_after level x n (start_of x))
answered-turns level x n up h = state_turns level x (AreAnswered x.setup) (λ s sane answered. answered-turn level x s up sane answered) n (start_of x) h (answered-start x)
