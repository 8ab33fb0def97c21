-- Idle turns on end, as they are seen.
use Rattle.std.proofs.Common.{◌≡◌, ℕ, zero, suc, ◌+◌, ◌<◌, ◌≤◌, Bool, true, false, not, ◌||◌, leb, eqb, cond, List, [], ◌∷◌, ◌++◌, length, map, Option, Some, None, refl, sym, ap, ◌∙◌, append_assoc, arith}
use Rattle.std.specs.Prelude.{filter, is_some}
use Rattle.std.specs.List.{list_any, range_with_len}
use Rattle.std.proofs.lemmas.Bool.{eq-eqb, leb-true, leb-false}
use Rattle.run_script.specs.declared.events.Event.{Event}
use Rattle.run_script.specs.Scripts.{Listed, ScriptData, events_of, is_of as is_of_turn, lasts, listed_of, ticks_of}
use Rattle.task_table.specs.model.State.{State, Turn}
use Rattle.task_table.specs.model.Start.{begun}
use Rattle.task_table.specs.model.Reading.{call_of, chosen, is_ready, listen_of, task_at}
use Rattle.board_model.specs.declared.outcomes.Level.TheVariants.{Calls}
use Rattle.board_model.specs.declared.outcomes.Turned.{Turned}
use Rattle.board_model.specs.declared.outcomes.Turned.TheVariants.{Idle}
use Rattle.board_model.specs.Script.{Scenario}
use Rattle.board_model.specs.Turn.{after_events, ended, turn, turn_of, turned, turned_of}
use Rattle.board_model.specs.Run.{Run, end_by, ending, is_down, is_still, run, state_after}
use Rattle.board_model.proofs.Further.{last_turn}
use Rattle.board_model.proofs.Outside.{no_event}
use Rattle.board_core.specs.fast.Skipped.{IsIdleUntil}
use Rattle.board_core.proofs.fast.Skipping.{goes_then, idle_then, none_then, silent_then, turn_then}
use Rattle.board_run.proofs.Going.{goes_on, run_goes}
use Rattle.run_lanes.specs.declared.activity.Activity.{Activity}
use Rattle.run_lanes.specs.declared.activity.Activity.TheVariants as activity
use Rattle.run_lanes.specs.Seen.{EndsAlike}
use Rattle.run_lanes.specs.Activities.{TurnSight, activities_in, idle_turns, is_of, sight, sights, waiting}
use Rattle.run_lanes.proofs.Sights.{idle_parts, same_sight, seen_turn, sights_go}

-- ## what is to come stays to come while nothing happens

no_tail : (a b : List Event) → a ++ b ≡ [] → b ≡ []
no_tail [] b is = is
no_tail (e ∷ a) b is = absurd (cc)

abbrev happens : List Listed → List Event
happens es = map (λ (listed : Listed). listed.1) es

tail_of : (b : Bool) (e : Listed) (es : List Listed) → happens (cond b (e ∷ es) es) ≡ [] → happens es ≡ []
tail_of true e es is = absurd (cc)
tail_of false e es is = is

head_of : (b : Bool) (e : Listed) (es : List Listed) → b ≡ true → happens (cond b (e ∷ es) es) ≡ [] → ⊥
head_of true e es so is = cc
head_of false e es so is = cc

any_on : (events : List Listed) (from to : ℕ) → ((turn : ℕ) → from ≤ turn → turn < to → listed_of turn events ≡ []) → list_any (λ listed. leb from listed.0) events ≡ true → list_any (λ listed. leb to listed.0) events ≡ true
any_on [] from to none more = more
any_on (e ∷ es) from to none more =
    by_first (leb to e.0) refl (leb from e.0) refl (any_on es from to (λ turn ge lt. tail_of (eqb e.0 turn) e (filter (is_of_turn turn) es) (none turn ge lt)))
  where
    by_first : (b : Bool) → leb to e.0 ≡ b → (c : Bool) → leb from e.0 ≡ c → (list_any (λ listed. leb from listed.0) es ≡ true → list_any (λ listed. leb to listed.0) es ≡ true) → list_any (λ listed. leb to listed.0) (e ∷ es) ≡ true
    by_first true is c from_is rest = rw is refl
    by_first false is true from_is rest = absurd (head_of (eqb e.0 e.0) e (filter (is_of_turn e.0) es) (eq-eqb e.0 e.0 refl) (none e.0 (leb-true from e.0 from_is) (leb-false to e.0 is)))
    by_first false is false from_is rest = ap (λ (b : Bool). b || list_any (λ listed. leb to listed.0) es) is ∙ rest (rw from_is at more)

lasts_on : (script : ScriptData) (from to : ℕ) → ((turn : ℕ) → from ≤ turn → turn < to → events_of script turn ≡ []) → lasts script from ≡ true → lasts script to ≡ true
lasts_on script from to none more = by_every (is_some script.every) refl
  where
    by_every : (b : Bool) → is_some script.every ≡ b → lasts script to ≡ true
    by_every true is = rw is refl
    by_every false is = rw is (any_on script.events from to (λ turn ge lt. no_tail (ticks_of script.every turn) (listed_of turn script.events) (none turn ge lt)) (rw is at more))

-- ## a run that goes on although no task is ready

goes_by : (down still : Bool) → end_by down 1 still ≡ None → (down ≡ false) × (still ≡ false)
goes_by true still is = absurd (cc)
goes_by false true is = absurd (cc)
goes_by false false is = (refl, refl)

not_so : (b : Bool) → not b ≡ false → b ≡ true
not_so true is = refl
not_so false is = absurd (cc)

pub idle_until : (x : Scenario) (s : State) (to : ℕ) → chosen x.setup s ≡ None → ending x 1 s ≡ None → ((turn : ℕ) → s.turn ≤ turn → turn < to → events_of x.script turn ≡ []) → IsIdleUntil x s to
unfolding ending
idle_until x s to none goes nothing = record { none = none; up = (goes_by (is_down s) (is_still x s) goes).0; nothing = nothing }

still_lasts : (x : Scenario) (s : State) → chosen x.setup s ≡ None → ending x 1 s ≡ None → lasts x.script s.turn ≡ true
unfolding ending
still_lasts x s none goes = let still = (goes_by (is_down s) (is_still x s) goes).1 in not_so (lasts x.script s.turn) (rw none at still)

-- after an idle turn no task is ready
at : State → ℕ → State
at s n = record s { turn = n }

chosen_at : (x : Scenario) (s : State) (n : ℕ) → chosen x.setup (at s n) ≡ chosen x.setup s
unfolding chosen is_ready task_at call_of listen_of at
chosen_at x s n = refl

none_by : (x : Scenario) (t : Turn) (o : Option ℕ) → chosen x.setup t.state ≡ o → turned_of t.state o ≡ Idle → chosen x.setup (ended (turn_of Calls x.setup o t)).state ≡ None
unfolding ended at
none_by x t None is idle = chosen_at x t.state (t.state.turn + 1) ∙ is
none_by x t (Some c) is idle = absurd (cc)

pub none_after : (x : Scenario) (s : State) → turned x s ≡ Idle → chosen x.setup (turn Calls x s).state ≡ None
unfolding turn turned
none_after x s idle = none_by x (after_events x s) (chosen x.setup (after_events x s).state) refl idle

-- ## what the tasks do in them

pub between : State → List Activity
between s = map (waiting s) (range_with_len 0 (length s.tasks))

pub between_is : (s : State) → map (waiting s) (range_with_len 0 (length s.tasks)) ≡ between s
unfolding between
between_is s = refl

between_at : (s : State) (n : ℕ) → between (at s n) ≡ between s
unfolding between at task_at call_of listen_of
between_at s n = refl

idle_state : (x : Scenario) (s : State) → chosen x.setup s ≡ None → events_of x.script s.turn ≡ [] → (turn Calls x s).state ≡ at s (s.turn + 1)
unfolding turn ended begun at
idle_state x s none nothing =
    let e : after_events x s ≡ begun s = sym (no_event x s nothing) in
    rw (e, none) refl

idle_activities : (x : Scenario) (s : State) → turned x s ≡ Idle → between s ≡ activities_in x s
unfolding activities_in between
idle_activities x s is = sym (ap (λ (t : Turned). map (λ i. cond (is_of t i) activity.Runs (waiting s i)) (range_with_len 0 (length s.tasks))) is)

module _ (x : Scenario) (s : State) (to : ℕ) (idle : IsIdleUntil x s to) where
  pub between_then : (k : ℕ) → s.turn + k ≤ to → between (state_after Calls x k s) ≡ between s
  unfolding state_after
  between_then zero le = refl
  between_then (suc k) le =
      let u : State = state_after Calls x k s in
      let here = turn_then x s to idle k (omega (arith, le)) in
      let next = idle_state x u (none_then x s to idle k (omega (arith, le))) (ap (events_of x.script) here ∙ idle.nothing (s.turn + k) (omega arith) (omega (arith, le))) in
      ap (λ (t : Turn). between t.state) (last_turn Calls x k s) ∙ ap between next ∙ between_at u (u.turn + 1) ∙ between_then k (omega (arith, le))

  goes_there : (k : ℕ) → s.turn + k < to → ending x 1 s ≡ None → ending x 1 (state_after Calls x k s) ≡ None
  goes_there k lt goes =
      goes_then x s to idle k (omega (arith, lt)) (lasts_on x.script s.turn (s.turn + k) (λ turn ge less. idle.nothing turn ge (omega (arith, less, lt))) (still_lasts x s idle.none goes))

  sight_then : (k : ℕ) → s.turn + k < to → seen_turn (s.turn + k) (between s) [] ≡ sight x (state_after Calls x k s)
  sight_then k lt =
      let u : State = state_after Calls x k s in
      same_sight x u (s.turn + k) (between s) [] (sym (turn_then x s to idle k (omega (arith, lt))))
      (sym (between_then k (omega (arith, lt))) ∙ idle_activities x u (idle_then x s to idle k lt))
      (sym (ap (λ (t : Turn). t.notes) (sym (last_turn Calls x k s)) ∙ silent_then x s to idle k lt))

  -- the run goes on after them
  pub seen_then : (k : ℕ) → s.turn + k ≤ to → ending x 1 s ≡ None → (left : ℕ) → sights x (k + left) s ≡ idle_turns s.turn k (between s) ++ sights x left (state_after Calls x k s)
  unfolding state_after
  seen_then zero le goes left = let e : 0 + left ≡ left = omega arith in ap (λ (n : ℕ). sights x n s) e
  seen_then (suc k) le goes left =
      let u : State = state_after Calls x k s in
      let one : TurnSight = seen_turn (s.turn + k) (between s) [] in
      let front = idle_turns s.turn k (between s) in
      let e : suc k + left ≡ k + suc left = omega arith in
      let one_more : k + 1 ≡ suc k = omega arith in
      let here = goes_there k (omega (arith, le)) goes in
      ap (λ (n : ℕ). sights x n s) e ∙ seen_then k (omega (arith, le)) goes (suc left)
      ∙ ap (λ (l : List TurnSight). front ++ l) (sights_go x left u (goes_on x u 1 left here))
      ∙ ap (λ (t : TurnSight). front ++ (t ∷ sights x left (turn Calls x u).state)) (sym (sight_then k (omega (arith, le))))
      ∙ ap (λ (t : Turn). front ++ (one ∷ sights x left t.state)) (sym (last_turn Calls x k s))
      ∙ sym (append_assoc front (one ∷ []) (sights x left (state_after Calls x (suc k) s)))
      ∙ ap (λ (l : List TurnSight). l ++ sights x left (state_after Calls x (suc k) s)) (sym (idle_parts s.turn k 1 (between s)) ∙ ap (λ (n : ℕ). idle_turns s.turn n (between s)) one_more)

  pub ends_then : (k : ℕ) → s.turn + k ≤ to → ending x 1 s ≡ None → (left : ℕ) → EndsAlike (run Calls x (k + left) s) (run Calls x left (state_after Calls x k s))
  unfolding state_after
  ends_then zero le goes left = let e : 0 + left ≡ left = omega arith in record { last = ap (λ (n : ℕ). (run Calls x n s).last) e; end = ap (λ (n : ℕ). (run Calls x n s).end) e }
  ends_then (suc k) le goes left =
      let u : State = state_after Calls x k s in
      let e : suc k + left ≡ k + suc left = omega arith in
      let more = ends_then k (omega (arith, le)) goes (suc left) in
      let two = run_goes Calls x left u (goes_on x u 1 left (goes_there k (omega (arith, le)) goes)) in
      let next : (turn Calls x u).state ≡ state_after Calls x (suc k) s = ap (λ (t : Turn). t.state) (sym (last_turn Calls x k s)) in
      record {
        last = ap (λ (n : ℕ). (run Calls x n s).last) e ∙ more.last ∙ ap (λ (r : Run). r.last) two ∙ ap (λ (v : State). (run Calls x left v).last) next;
        end = ap (λ (n : ℕ). (run Calls x n s).end) e ∙ more.end ∙ ap (λ (r : Run). r.end) two ∙ ap (λ (v : State). (run Calls x left v).end) next;
      }
