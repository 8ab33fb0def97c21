-- Idle turns on end: they note only that they are idle, which counts nothing, and the run goes on.
use Rattle.std.proofs.Common.{◌≡◌, ℕ, zero, suc, ◌+◌, ◌-◌, ◌<◌, ◌≤◌, Bool, true, false, not, ◌||◌, leb, eqb, cond, List, [], ◌∷◌, ◌++◌, map, Option, Some, None, refl, sym, ap, ◌∙◌, length-append, arith}
use Rattle.std.specs.Prelude.{filter, is_some}
use Rattle.std.specs.List.{list_any, range_with_len}
use Rattle.std.proofs.lemmas.Bool.{eq-eqb, leb-true, leb-false}
use Rattle.std.proofs.lemmas.List.FromFn.{length-map-range_with_len}
use Rattle.kernel_abi.specs.declared.Note.{Note}
use Rattle.kernel_abi.specs.declared.Note.TheVariants as note
use Rattle.run_script.specs.declared.events.Event.{Event}
use Rattle.run_script.specs.Scripts.{Listed, ScriptData, events_of, is_of, lasts, listed_of, ticks_of}
use Rattle.task_table.specs.model.State.{State, Turn}
use Rattle.task_table.specs.model.Start.{begun}
use Rattle.task_table.specs.model.Effects.{noted}
use Rattle.task_table.specs.model.Reading.{call_of, chosen, is_ready, listen_of, task_at}
use Rattle.board_model.specs.declared.outcomes.Level.TheVariants.{All, Calls}
use Rattle.board_model.specs.declared.outcomes.Turned.TheVariants.{Idle}
use Rattle.board_model.specs.Script.{Scenario}
use Rattle.board_model.specs.Turn.{after_events, ended, turn, turn_of, turned, turned_of}
use Rattle.board_model.specs.Run.{at_turn, end_by, ending, is_down, is_still, run, state_after, turn_after, with_front}
use Rattle.board_model.proofs.Further.{last_turn}
use Rattle.board_model.proofs.Outside.{no_event}
use Rattle.board_model.proofs.RunCuts.{fronts}
use Rattle.board_core.specs.declared.board.Board.{Board}
use Rattle.board_core.specs.Data.{Shows}
use Rattle.board_core.specs.Stands.{Stands, notes_of}
use Rattle.board_core.specs.fast.Advanced.{IsAdvanced}
use Rattle.board_core.specs.fast.Skipped.{IsIdleUntil}
use Rattle.board_core.proofs.fast.Skipping.{goes_then, none_then, turn_then}
use Rattle.board_run.specs.Midway.{Midway}
use Rattle.board_run.proofs.Going.{goes_on, run_goes}
use Rattle.run_cover.specs.declared.counts.Begun.{Begun}
use Rattle.run_cover.specs.declared.counts.Count.{Count}
use Rattle.run_cover.specs.declared.counts.PlaceCounts.{PlaceCounts}
use Rattle.run_cover.specs.Counted.{Heard, HeardNote, begun_after, counted_in, item_at}
use Rattle.run_cover.specs.Places.{address_of}
use Rattle.run_cover.proofs.Growing.{heard_more, heard_none, heard_note}

-- ## what is to come stays to come while nothing happens

no_tail : (a b : List Event) → a ++ b ≡ [] → b ≡ []
no_tail [] b is = is
no_tail (e ∷ a) b is = absurd (cc)

abbrev happens : List Listed → List Event
happens es = map (λ (listed : Listed). listed.1) es

tail_of : (b : Bool) (e : Listed) (es : List Listed) → happens (cond b (e ∷ es) es) ≡ [] → happens es ≡ []
tail_of true e es is = absurd (cc)
tail_of false e es is = is

head_of : (b : Bool) (e : Listed) (es : List Listed) → b ≡ true → happens (cond b (e ∷ es) es) ≡ [] → ⊥
head_of true e es so is = cc
head_of false e es so is = cc

any_on : (events : List Listed) (from to : ℕ) → ((turn : ℕ) → from ≤ turn → turn < to → listed_of turn events ≡ []) → list_any (λ listed. leb from listed.0) events ≡ true → list_any (λ listed. leb to listed.0) events ≡ true
any_on [] from to none more = more
any_on (e ∷ es) from to none more =
    by_first (leb to e.0) refl (leb from e.0) refl (any_on es from to (λ turn ge lt. tail_of (eqb e.0 turn) e (filter (is_of turn) es) (none turn ge lt)))
  where
    by_first : (b : Bool) → leb to e.0 ≡ b → (c : Bool) → leb from e.0 ≡ c → (list_any (λ listed. leb from listed.0) es ≡ true → list_any (λ listed. leb to listed.0) es ≡ true) → list_any (λ listed. leb to listed.0) (e ∷ es) ≡ true
    by_first true is c from_is rest = rw is refl
    by_first false is true from_is rest = absurd (head_of (eqb e.0 e.0) e (filter (is_of e.0) es) (eq-eqb e.0 e.0 refl) (none e.0 (leb-true from e.0 from_is) (leb-false to e.0 is)))
    by_first false is false from_is rest = ap (λ (b : Bool). b || list_any (λ listed. leb to listed.0) es) is ∙ rest (rw from_is at more)

lasts_on : (script : ScriptData) (from to : ℕ) → ((turn : ℕ) → from ≤ turn → turn < to → events_of script turn ≡ []) → lasts script from ≡ true → lasts script to ≡ true
lasts_on script from to none more = by_every (is_some script.every) refl
  where
    by_every : (b : Bool) → is_some script.every ≡ b → lasts script to ≡ true
    by_every true is = rw is refl
    by_every false is = rw is (any_on script.events from to (λ turn ge lt. no_tail (ticks_of script.every turn) (listed_of turn script.events) (none turn ge lt)) (rw is at more))

-- ## a run that goes on although no task is ready

goes_by : (down still : Bool) → end_by down 1 still ≡ None → (down ≡ false) × (still ≡ false)
goes_by true still is = absurd (cc)
goes_by false true is = absurd (cc)
goes_by false false is = (refl, refl)

not_so : (b : Bool) → not b ≡ false → b ≡ true
not_so true is = refl
not_so false is = absurd (cc)

pub idle_until : (x : Scenario) (s : State) (to : ℕ) → chosen x.setup s ≡ None → ending x 1 s ≡ None → ((turn : ℕ) → s.turn ≤ turn → turn < to → events_of x.script turn ≡ []) → IsIdleUntil x s to
unfolding ending
idle_until x s to none goes nothing = record { none = none; up = (goes_by (is_down s) (is_still x s) goes).0; nothing = nothing }

still_lasts : (x : Scenario) (s : State) → chosen x.setup s ≡ None → ending x 1 s ≡ None → lasts x.script s.turn ≡ true
unfolding ending
still_lasts x s none goes = let still = (goes_by (is_down s) (is_still x s) goes).1 in not_so (lasts x.script s.turn) (rw none at still)

-- after an idle turn no task is ready
at : State → ℕ → State
at s n = record s { turn = n }

chosen_at : (x : Scenario) (s : State) (n : ℕ) → chosen x.setup (at s n) ≡ chosen x.setup s
unfolding chosen is_ready task_at call_of listen_of at
chosen_at x s n = refl

none_by : (x : Scenario) (t : Turn) (o : Option ℕ) → chosen x.setup t.state ≡ o → turned_of t.state o ≡ Idle → chosen x.setup (ended (turn_of All x.setup o t)).state ≡ None
unfolding ended noted at
none_by x t None is idle = chosen_at x t.state (t.state.turn + 1) ∙ is
none_by x t (Some c) is idle = absurd (cc)

pub none_after : (x : Scenario) (s : State) → turned x s ≡ Idle → chosen x.setup (turn All x s).state ≡ None
unfolding turn turned
none_after x s idle = none_by x (after_events x s) (chosen x.setup (after_events x s).state) refl idle

-- ## what they note

idle_turn : (x : Scenario) (s : State) → chosen x.setup s ≡ None → events_of x.script s.turn ≡ [] → ((turn All x s).state ≡ (turn Calls x s).state) × ((turn All x s).notes ≡ note.Idle ∷ [])
unfolding turn ended begun noted
idle_turn x s none nothing =
    let e : after_events x s ≡ begun s = sym (no_event x s nothing) in
    rw (e, none) (refl, refl)

abbrev idle_at : ℕ → ℕ × Note
idle_at turn = (turn, note.Idle)

abbrev idle_notes : ℕ → ℕ → List (ℕ × Note)
idle_notes turn n = map idle_at (range_with_len turn n)

idle_more : (turn n : ℕ) → idle_notes turn (suc n) ≡ idle_notes turn n ++ (idle_at (turn + n) ∷ [])
idle_more turn zero = let e : turn ≡ turn + 0 = omega arith in ap (λ (k : ℕ). idle_at k ∷ []) e
idle_more turn (suc n) =
    let e : turn + 1 + n ≡ turn + suc n = omega arith in
    ap (λ (l : List (ℕ × Note)). idle_at turn ∷ l) (idle_more (turn + 1) n ∙ ap (λ (k : ℕ). idle_notes (turn + 1) n ++ (idle_at k ∷ [])) e)

begun_still : (o : Option Begun) → begun_after o note.Idle ≡ o
begun_still None = refl
begun_still (Some b) = refl

same_count : (o : Option Begun) (a : ℕ) (c : Count) → c ≡ counted_in o note.Idle a c
same_count None a c = refl
same_count (Some b) a c = refl

heard_one : (t : PlaceCounts) → HeardNote t note.Idle t
heard_one t = record { begun = sym (begun_still t.begun); as_many = refl; counts = λ k lt few. same_count t.begun (address_of k) (item_at t k) }

heard_idle : (t : PlaceCounts) (turn n : ℕ) → Heard t (idle_notes turn n) t
heard_idle t turn zero = heard_none t
heard_idle t turn (suc n) = heard_more t t t (idle_at turn ∷ []) (idle_notes (turn + 1) n) (heard_note t t turn note.Idle (heard_one t)) (heard_idle t (turn + 1) n)

module _ (x : Scenario) (s : State) (to : ℕ) (idle : IsIdleUntil x s to) where
  goes_there : (k : ℕ) → s.turn + k < to → ending x 1 s ≡ None → ending x 1 (state_after Calls x k s) ≡ None
  goes_there k lt goes =
      goes_then x s to idle k (omega (arith, lt)) (lasts_on x.script s.turn (s.turn + k) (λ turn ge less. idle.nothing turn ge (omega (arith, less, lt))) (still_lasts x s idle.none goes))

  run_then : (k : ℕ) → s.turn + k ≤ to → ending x 1 s ≡ None → (left : ℕ) → run All x (k + left) s ≡ with_front (idle_notes s.turn k) (run All x left (state_after Calls x k s))
  unfolding state_after
  run_then zero le goes left = let e : 0 + left ≡ left = omega arith in ap (λ (n : ℕ). run All x n s) e
  run_then (suc k) le goes left =
      let u : State = state_after Calls x k s in
      let here = turn_then x s to idle k (omega (arith, le)) in
      let one = idle_turn x u (none_then x s to idle k (omega (arith, le))) (ap (events_of x.script) here ∙ idle.nothing (s.turn + k) (omega arith) (omega (arith, le))) in
      let front = idle_notes s.turn k in
      let e : suc k + left ≡ k + suc left = omega arith in
      let next : (turn All x u).state ≡ state_after Calls x (suc k) s = one.0 ∙ ap (λ (t : Turn). t.state) (sym (last_turn Calls x k s)) in
      ap (λ (n : ℕ). run All x n s) e ∙ run_then k (omega (arith, le)) goes (suc left)
      ∙ ap (with_front front) (run_goes All x left u (goes_on x u 1 left (goes_there k (omega (arith, le)) goes))
      ∙ ap (λ (ns : List Note). with_front (at_turn u.turn ns) (run All x left (turn All x u).state)) one.1
      ∙ ap (λ (n : ℕ). with_front (idle_at n ∷ []) (run All x left (turn All x u).state)) here
      ∙ ap (λ (v : State). with_front (idle_at (s.turn + k) ∷ []) (run All x left v)) next)
      ∙ fronts front (idle_at (s.turn + k) ∷ []) (run All x left (state_after Calls x (suc k) s))
      ∙ ap (λ (l : List (ℕ × Note)). with_front l (run All x left (state_after Calls x (suc k) s))) (sym (idle_more s.turn k))

-- ## midway

pub midway_idle : {X : Type 0} {H : X → Type 0} (shown : Shows X H) (x : Scenario) (t now : PlaceCounts) (s : State) (b b' : Board X H) (to : ℕ) → (m : Midway shown Heard All x t now s b) → IsIdleUntil x m.here to → ending x 1 m.here ≡ None → m.here.turn ≤ to →
    Stands shown x b' (state_after Calls x (to - m.here.turn) m.here) → Midway shown Heard All x t now s b'
midway_idle shown x t now s b b' to m idle goes from st =
    let here = m.here in
    let n : ℕ = to - here.turn in
    let within : here.turn + n ≤ to = omega (arith, from) in
    let next = state_after Calls x n here in
    let them = idle_notes here.turn n in
    let there = turn_then x here to idle n within in
    let many = length-map-range_with_len idle_at here.turn n in
    record {
      front = m.front ++ them;
      here = next;
      stands = st;
      after = omega (arith, m.after, there);
      told = heard_more t now now m.front them m.told (heard_idle now here.turn n);
      few = omega (arith, m.few, there, many, length-append m.front them);
      rest = λ left.
          let e : next.turn - s.turn + left ≡ here.turn - s.turn + (n + left) = omega (arith, there, m.after) in
          ap (λ (j : ℕ). run All x j s) e ∙ m.rest (n + left) ∙ ap (with_front m.front) (run_then x here to idle n within goes left) ∙ fronts m.front them (run All x left next);
    }

-- one whole turn
pub one_more : {X : Type 0} {H : X → Type 0} (shown : Shows X H) (x : Scenario) (s : State) (b : Board X H) → Stands shown x b (turn All x s).state → notes_of b ≡ (turn All x s).notes → IsAdvanced shown All x 0 s b
unfolding turn_after
one_more shown x s b st noted = record { nothing = λ k lt. absurd (omega arith); goes_on = λ k lt. absurd (omega arith); stands = st; notes = noted }
