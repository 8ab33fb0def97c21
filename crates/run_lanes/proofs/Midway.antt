-- A run that is watched goes on by one turn or by idle turns, and ends.
use Rattle.std.proofs.Common.{◌≡◌, ℕ, suc, ◌+◌, ◌-◌, ◌<◌, ◌≤◌, List, [], ◌∷◌, ◌++◌, length, Some, None, sym, ap, subst, ◌∙◌, append_assoc, length-append, arith}
use Rattle.std.proofs.lemmas.List.{append-nil}
use Rattle.kernel_abi.specs.declared.Note.{Note}
use Rattle.task_table.specs.model.State.{State}
use Rattle.board_core.specs.declared.board.Board.{Board}
use Rattle.board_core.specs.Data.{Shows}
use Rattle.board_core.specs.Stands.{Stands}
use Rattle.board_model.specs.declared.outcomes.End.{End}
use Rattle.board_model.specs.declared.outcomes.Level.TheVariants.{Calls}
use Rattle.board_model.specs.Script.{Scenario}
use Rattle.board_model.specs.Turn.{turn}
use Rattle.board_model.specs.Run.{Run, run, ending, state_after}
use Rattle.board_model.proofs.Counts.{turn_more}
use Rattle.board_core.specs.fast.Skipped.{IsIdleUntil}
use Rattle.board_core.proofs.fast.Skipping.{turn_then}
use Rattle.board_run.proofs.Going.{goes_on, run_ends, run_goes}
use Rattle.run_lanes.specs.declared.activity.Activity.{Activity}
use Rattle.run_lanes.specs.Activities.{TurnSight, activities_in, idle_turns, sight, sights}
use Rattle.run_lanes.specs.Seen.{BreaksSeeing, HasWatched}
use Rattle.run_lanes.proofs.Idling.{between, ends_then, seen_then}
use Rattle.run_lanes.proofs.Sights.{many_idle, same_sight, seen_turn, sights_end, sights_go}

-- ## midway

pub seen_start : {W : Type 0} {X : Type 0} {H : X → Type 0} (shown : Shows X H) (saw : W → List TurnSight → W → Type 0) (x : Scenario) (w : W) (s : State) (b : Board X H) → saw w [] w → Stands shown x b s → HasWatched shown saw x w w s b
seen_start shown saw x w s b none st = record {
  front = [];
  here = s;
  stands = st;
  at = omega arith;
  told = none;
  rest = λ left. ap (λ (n : ℕ). sights x n s) (omega arith);
  ends = λ left. let e : 0 + left ≡ left = omega arith in record { last = ap (λ (n : ℕ). (run Calls x n s).last) e; end = ap (λ (n : ℕ). (run Calls x n s).end) e };
}

pub seen_more : {W : Type 0} {X : Type 0} {H : X → Type 0} (shown : Shows X H) (saw : W → List TurnSight → W → Type 0) (x : Scenario) (w w' w'' : W) (s : State) (b b' : Board X H) (t : ℕ) (ws : List Activity) (ns : List Note) →
    ((u v z : W) (a c : List TurnSight) → saw u a v → saw v c z → saw u (a ++ c) z) → (m : HasWatched shown saw x w w' s b) → Stands shown x b' (turn Calls x m.here).state → ending x 1 m.here ≡ None →
    t ≡ m.here.turn → ws ≡ activities_in x m.here → ns ≡ (turn Calls x m.here).notes → saw w' (seen_turn t ws ns ∷ []) w'' → HasWatched shown saw x w w'' s b'
seen_more shown saw x w w' w'' s b b' t ws ns parts m st goes t_is ws_is ns_is saw_it =
    let here = m.here in
    let next = (turn Calls x here).state in
    let same = same_sight x here t ws ns t_is ws_is ns_is in
    let P : TurnSight → Type 0 = λ one. saw w' (one ∷ []) w'' in
    record {
      front = m.front ++ (sight x here ∷ []);
      here = next;
      stands = st;
      at = omega (arith, turn_more Calls x here m.stands.sane, m.at, length-append m.front (sight x here ∷ []));
      told = parts w w' w'' m.front (sight x here ∷ []) m.told (subst P same saw_it);
      rest = λ left.
          let e : length (m.front ++ (sight x here ∷ [])) + left ≡ length m.front + suc left = omega (arith, length-append m.front (sight x here ∷ [])) in
          ap (λ (n : ℕ). sights x n s) e ∙ m.rest (suc left) ∙ ap (λ (l : List TurnSight). m.front ++ l) (sights_go x left here (goes_on x here 1 left goes))
          ∙ sym (append_assoc m.front (sight x here ∷ []) (sights x left next));
      ends = λ left.
          let e : length (m.front ++ (sight x here ∷ [])) + left ≡ length m.front + suc left = omega (arith, length-append m.front (sight x here ∷ [])) in
          let one = m.ends (suc left) in
          let two = run_goes Calls x left here (goes_on x here 1 left goes) in
          record {
            last = ap (λ (n : ℕ). (run Calls x n s).last) e ∙ one.last ∙ ap (λ (r : Run). r.last) two;
            end = ap (λ (n : ℕ). (run Calls x n s).end) e ∙ one.end ∙ ap (λ (r : Run). r.end) two;
          };
    }

-- the seeing of the next turn failed
pub seen_breaks : {W : Type 0} {X : Type 0} {H : X → Type 0} (shown : Shows X H) (saw broke : W → List TurnSight → W → Type 0) (x : Scenario) (w w' w'' : W) (s : State) (b : Board X H) (limit t : ℕ) (ws : List Activity) (ns : List Note) →
    ((u v z : W) (a c : List TurnSight) → saw u a v → broke v c z → broke u (a ++ c) z) → (m : HasWatched shown saw x w w' s b) → ending x 1 m.here ≡ None → m.here.turn < limit →
    t ≡ m.here.turn → ws ≡ activities_in x m.here → ns ≡ (turn Calls x m.here).notes → broke w' (seen_turn t ws ns ∷ []) w'' → BreaksSeeing broke x (limit - s.turn) s w w''
seen_breaks shown saw broke x w w' w'' s b limit t ws ns fails m goes under t_is ws_is ns_is broke_it =
    let here = m.here in
    let left : ℕ = limit - here.turn - 1 in
    let all : limit - s.turn ≡ length m.front + suc left = omega (arith, m.at, under) in
    let same = same_sight x here t ws ns t_is ws_is ns_is in
    let P : TurnSight → Type 0 = λ one. broke w' (one ∷ []) w'' in
    record {
      front = m.front ++ (sight x here ∷ []);
      rest = sights x left (turn Calls x here).state;
      whole = ap (λ (n : ℕ). sights x n s) all ∙ m.rest (suc left) ∙ ap (λ (l : List TurnSight). m.front ++ l) (sights_go x left here (goes_on x here 1 left goes))
          ∙ sym (append_assoc m.front (sight x here ∷ []) (sights x left (turn Calls x here).state));
      broken = fails w w' w'' m.front (sight x here ∷ []) m.told (subst P same broke_it);
    }

-- ## idle turns on end

same_idle : (from turn n : ℕ) (ws vs : List Activity) → from ≡ turn → ws ≡ vs → idle_turns from n ws ≡ idle_turns turn n vs
same_idle from turn n ws vs at is = ap (λ (t : ℕ). idle_turns t n ws) at ∙ ap (λ (l : List Activity). idle_turns turn n l) is

pub seen_idle : {W : Type 0} {X : Type 0} {H : X → Type 0} (shown : Shows X H) (saw : W → List TurnSight → W → Type 0) (x : Scenario) (w w' w'' : W) (s : State) (b b' : Board X H) (from to n : ℕ) (ws : List Activity) →
    ((u v z : W) (a c : List TurnSight) → saw u a v → saw v c z → saw u (a ++ c) z) → (m : HasWatched shown saw x w w' s b) → IsIdleUntil x m.here to → ending x 1 m.here ≡ None → m.here.turn + n ≡ to →
    from ≡ m.here.turn → ws ≡ between m.here → Stands shown x b' (state_after Calls x (to - m.here.turn) m.here) → saw w' (idle_turns from n ws) w'' → HasWatched shown saw x w w'' s b'
seen_idle shown saw x w w' w'' s b b' from to n ws parts m idle goes upto from_is ws_is st saw_them =
    let here = m.here in
    let next = state_after Calls x n here in
    let them = idle_turns here.turn n (between here) in
    let many = many_idle here.turn n (between here) in
    let k : to - here.turn ≡ n = omega arith in
    let within : here.turn + n ≤ to = omega arith in
    let there = turn_then x here to idle n within in
    let P : List TurnSight → Type 0 = λ l. saw w' l w'' in
    let Q : ℕ → Type 0 = λ j. Stands shown x b' (state_after Calls x j here) in
    record {
      front = m.front ++ them;
      here = next;
      stands = subst Q k st;
      at = omega (arith, there, m.at, many, length-append m.front them);
      told = parts w w' w'' m.front them m.told (subst P (same_idle from here.turn n ws (between here) from_is ws_is) saw_them);
      rest = λ left.
          let e : length (m.front ++ them) + left ≡ length m.front + (n + left) = omega (arith, many, length-append m.front them) in
          ap (λ (j : ℕ). sights x j s) e ∙ m.rest (n + left) ∙ ap (λ (l : List TurnSight). m.front ++ l) (seen_then x here to idle n within goes left) ∙ sym (append_assoc m.front them (sights x left next));
      ends = λ left.
          let e : length (m.front ++ them) + left ≡ length m.front + (n + left) = omega (arith, many, length-append m.front them) in
          let one = m.ends (n + left) in
          let two = ends_then x here to idle n within goes left in
          record { last = ap (λ (j : ℕ). (run Calls x j s).last) e ∙ one.last ∙ two.last; end = ap (λ (j : ℕ). (run Calls x j s).end) e ∙ one.end ∙ two.end };
    }

pub idle_breaks : {W : Type 0} {X : Type 0} {H : X → Type 0} (shown : Shows X H) (saw broke : W → List TurnSight → W → Type 0) (x : Scenario) (w w' w'' : W) (s : State) (b : Board X H) (limit from to n : ℕ) (ws : List Activity) →
    ((u v z : W) (a c : List TurnSight) → saw u a v → broke v c z → broke u (a ++ c) z) → (m : HasWatched shown saw x w w' s b) → IsIdleUntil x m.here to → ending x 1 m.here ≡ None → m.here.turn + n ≡ to → to ≤ limit →
    from ≡ m.here.turn → ws ≡ between m.here → broke w' (idle_turns from n ws) w'' → BreaksSeeing broke x (limit - s.turn) s w w''
idle_breaks shown saw broke x w w' w'' s b limit from to n ws fails m idle goes upto under from_is ws_is broke_them =
    let here = m.here in
    let left : ℕ = limit - to in
    let next = state_after Calls x n here in
    let them = idle_turns here.turn n (between here) in
    let all : limit - s.turn ≡ length m.front + (n + left) = omega (arith, m.at, upto, under) in
    let within : here.turn + n ≤ to = omega arith in
    let P : List TurnSight → Type 0 = λ l. broke w' l w'' in
    record {
      front = m.front ++ them;
      rest = sights x left next;
      whole = ap (λ (j : ℕ). sights x j s) all ∙ m.rest (n + left) ∙ ap (λ (l : List TurnSight). m.front ++ l) (seen_then x here to idle n within goes left) ∙ sym (append_assoc m.front them (sights x left next));
      broken = fails w w' w'' m.front them m.told (subst P (same_idle from here.turn n ws (between here) from_is ws_is) broke_them);
    }

-- ## the end: with so many turns in all

whole_front : {W : Type 0} {X : Type 0} {H : X → Type 0} (shown : Shows X H) (saw : W → List TurnSight → W → Type 0) (x : Scenario) (w w' : W) (s : State) (b : Board X H) (limit : ℕ) (e : End) →
    (m : HasWatched shown saw x w w' s b) → m.here.turn ≤ limit → ending x (limit - m.here.turn) m.here ≡ Some e → sights x (limit - s.turn) s ≡ m.front
whole_front shown saw x w w' s b limit e m within is =
    let left = limit - m.here.turn in
    let all : limit - s.turn ≡ length m.front + left = omega (arith, m.at, within) in
    ap (λ (n : ℕ). sights x n s) all ∙ m.rest left ∙ ap (λ (l : List TurnSight). m.front ++ l) (sights_end x left m.here e is) ∙ append-nil m.front

pub whole_told : {W : Type 0} {X : Type 0} {H : X → Type 0} (shown : Shows X H) (saw : W → List TurnSight → W → Type 0) (x : Scenario) (w w' : W) (s : State) (b : Board X H) (limit : ℕ) (e : End) →
    (m : HasWatched shown saw x w w' s b) → m.here.turn ≤ limit → ending x (limit - m.here.turn) m.here ≡ Some e → saw w (sights x (limit - s.turn) s) w'
whole_told shown saw x w w' s b limit e m within is =
    let P : List TurnSight → Type 0 = λ l. saw w l w' in
    subst P (sym (whole_front shown saw x w w' s b limit e m within is)) m.told

-- as many turns were made
pub whole_turns : {W : Type 0} {X : Type 0} {H : X → Type 0} (shown : Shows X H) (saw : W → List TurnSight → W → Type 0) (x : Scenario) (w w' : W) (s : State) (b : Board X H) (limit : ℕ) (e : End) →
    (m : HasWatched shown saw x w w' s b) → m.here.turn ≤ limit → ending x (limit - m.here.turn) m.here ≡ Some e → m.here.turn ≡ s.turn + length (sights x (limit - s.turn) s)
whole_turns shown saw x w w' s b limit e m within is =
    m.at ∙ ap (λ (l : List TurnSight). s.turn + length l) (sym (whole_front shown saw x w w' s b limit e m within is))

pub whole_end : {W : Type 0} {X : Type 0} {H : X → Type 0} (shown : Shows X H) (saw : W → List TurnSight → W → Type 0) (x : Scenario) (w w' : W) (s : State) (b : Board X H) (limit : ℕ) (e : End) →
    (m : HasWatched shown saw x w w' s b) → m.here.turn ≤ limit → ending x (limit - m.here.turn) m.here ≡ Some e →
    (e ≡ (run Calls x (limit - s.turn) s).end) × Stands shown x b (run Calls x (limit - s.turn) s).last
whole_end shown saw x w w' s b limit e m within is =
    let left = limit - m.here.turn in
    let all : limit - s.turn ≡ length m.front + left = omega (arith, m.at, within) in
    let over = run_ends Calls x left m.here e is in
    let alike = m.ends left in
    let end : (run Calls x (limit - s.turn) s).end ≡ e = ap (λ (n : ℕ). (run Calls x n s).end) all ∙ alike.end ∙ ap (λ (r : Run). r.end) over in
    let last : (run Calls x (limit - s.turn) s).last ≡ m.here = ap (λ (n : ℕ). (run Calls x n s).last) all ∙ alike.last ∙ ap (λ (r : Run). r.last) over in
    let P : State → Type 0 = λ u. Stands shown x b u in
    (sym end, subst P (sym last) m.stands)
