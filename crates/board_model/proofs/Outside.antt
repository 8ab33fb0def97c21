-- The events of a turn: those that happen so far, and a turn without any.
use Rattle.std.proofs.Common.{◌≡◌, ◌≢◌, ◌+◌, ◌≤◌, ◌<◌, ℕ, zero, suc, List, [], ◌∷◌, length, take, Option, Some, None, refl, sym, ◌∙◌, ap, arith}
use Rattle.std.specs.Prelude.{fold, slice_get}
use Rattle.run_script.specs.declared.events.Event.{Event}
use Rattle.run_script.specs.Scripts.{ScriptData, IsNext, events_of}
use Rattle.task_table.specs.model.State.{Setup, State, Turn}
use Rattle.task_table.specs.model.Start.{begun}
use Rattle.board_model.specs.Script.{Scenario}
use Rattle.board_model.specs.Turn.{happened_next, happened, after_events}

-- one more event, where there is one
next_happened : (g : Setup) (t : Turn) (events : List Event) (k : ℕ) → fold (happened g) t (take (suc k) events) ≡ happened_next g (slice_get events k) (fold (happened g) t (take k events))
next_happened g t [] zero = refl
next_happened g t [] (suc k) = refl
next_happened g t (e ∷ es) zero = refl
next_happened g t (e ∷ es) (suc k) = next_happened g (happened g t e) es k

pub one_more : (g : Setup) (t : Turn) (events : List Event) (k : ℕ) → happened_next g (slice_get events k) (fold (happened g) t (take k events)) ≡ fold (happened g) t (take (k + 1) events)
one_more g t events k = let e : suc k ≡ k + 1 = omega arith in sym (next_happened g t events k) ∙ ap (λ n. fold (happened g) t (take n events)) e

pub take_whole : (events : List Event) (n : ℕ) → length events ≤ n → take n events ≡ events
take_whole [] zero h = refl
take_whole [] (suc n) h = refl
take_whole (x ∷ xs) zero h = absurd (omega arith)
take_whole (x ∷ xs) (suc n) h = ap (λ ys. x ∷ ys) (take_whole xs n (omega arith))

pub take_few : (events : List Event) (n : ℕ) → length (take n events) ≤ n
take_few events zero = omega arith
take_few [] (suc n) = omega arith
take_few (x ∷ xs) (suc n) = omega (arith, take_few xs n)

-- ## a turn without events

pub nothing_due : (script : ScriptData) (turn : ℕ) (due : Option ℕ) → turn < 1000000000 → IsNext script turn due → due ≢ Some turn → events_of script turn ≡ []
nothing_due script turn None small h ne = h turn (omega arith) small
nothing_due script turn (Some next) small h ne = h.3 turn (omega arith) (later next turn h.0 (λ same. ne (ap Some same)))
  where
    later : (next turn : ℕ) → turn ≤ next → next ≢ turn → turn < next
    later next turn le ne = grind arith

pub due_later : (script : ScriptData) (turn : ℕ) (due : Option ℕ) → IsNext script turn due → due ≢ Some turn → IsNext script (turn + 1) due
due_later script turn None h ne = λ n a b. h n (omega arith) b
due_later script turn (Some next) h ne = (later next turn h.0 (λ same. ne (ap Some same)), h.1, h.2, λ n a b. h.3 n (omega arith) b)
  where
    later : (next turn : ℕ) → turn ≤ next → next ≢ turn → turn + 1 ≤ next
    later next turn le ne = grind arith

pub no_event : (x : Scenario) (s : State) → events_of x.script s.turn ≡ [] → begun s ≡ after_events x s
unfolding after_events
no_event x s none = rw none refl

pub all_events : (x : Scenario) (s : State) → fold (happened x.setup) (begun s) (events_of x.script s.turn) ≡ after_events x s
unfolding after_events
all_events x s = refl

pub begun_state : (s : State) → (begun s).state ≡ s
unfolding begun
begun_state s = refl
