-- What is made of a property, turn by turn, is what the run decides, with each script in which the same happens.
use Rattle.std.proofs.Common.{◌≡◌, ◌∙◌, ℕ, zero, suc, ◌+◌, ◌-◌, ◌<◌, ◌≤◌, ◌⊎◌, inl, inr, Bool, true, false, List, [], ◌∷◌, map, Some, None, refl, sym, ap, subst, arith}
use Rattle.std.specs.Prelude.{◌==◌, ◌&&◌, fold, not, cond, is_none}
use Rattle.std.specs.List.{AllZip}
use Rattle.std.proofs.lemmas.List.Elements.{All-map, All-weaker}
use Rattle.std.proofs.lemmas.Bool.{cases_eq, ne_eqb}
use Rattle.run_script.specs.declared.events.Event.{Event}
use Rattle.run_script.specs.Scripts.{ScriptData, events_of, lasts}
use Rattle.task_table.specs.model.State.{Setup, State, Turn}
use Rattle.task_table.specs.model.Reading.{chosen}
use Rattle.task_table.specs.model.Start.{begun as begun_turn}
use Rattle.task_table.specs.model.Sane.{Sane}
use Rattle.mem_banks.specs.Memory.{byte_at}
use Rattle.board_model.specs.declared.outcomes.End.TheVariants.{Bound}
use Rattle.board_model.specs.declared.outcomes.Level.TheVariants.{Calls}
use Rattle.board_model.specs.declared.outcomes.Turned.{Turned}
use Rattle.board_model.specs.Laid.{with_script}
use Rattle.board_model.specs.Run.{end_by, ending, is_down, is_still, state_after}
use Rattle.board_model.specs.SameScripts.{AgreeFor}
use Rattle.board_model.specs.Script.{Scenario}
use Rattle.board_model.specs.Turn.{after_events, happened, turn, turned, turned_of}
use Rattle.board_model.proofs.Counts.{turn_more}
use Rattle.board_model.proofs.Further.{last_turn}
use Rattle.board_model.proofs.RunKeeps.{sane_turns}
use Rattle.board_model.proofs.SameScripts.{same_turn}
use Rattle.board_core.specs.declared.board.Board.{Board}
use Rattle.board_core.specs.Data.{Shows}
use Rattle.board_core.specs.Stands.{Stands, turns_of}
use Rattle.board_core.specs.Changes.{change_by, change_in, runner_of}
use Rattle.run_question.specs.declared.asked.Property.{Property}
use Rattle.run_question.specs.declared.asked.Property.TheVariants as property
use Rattle.explore_core.specs.declared.verdict.Verdict.{Verdict}
use Rattle.explore_core.specs.declared.verdict.Verdict.TheVariants as verdict
use Rattle.explore_core.specs.Asked.{is_some_other}
use Rattle.explore_core.specs.Kept.{broken_if, by_turn, on_state, owed_on, tells_such}
use Rattle.explore_core.specs.Playing.{HasKept, HasPlayed, IsKept, IsPlaying, IsThrough, after_turns, stepped_after}
use Rattle.explore_core.specs.There.{AreThere}
use Rattle.explore_core.specs.Verdicts.{broken_by, stepped, unless_broken}
use Rattle.explore_core.specs.Watching.{AllThere, Judged, turned_on}
use Rattle.explore_core.proofs.OneTurn.{goes_on}
use Rattle.explore_core.proofs.Watched.{as_many_tasks, there_still}

-- ## one turn, with another script in which the same happens

by_what_happens : Setup → State → List Event → Turned
by_what_happens g s events = let u = (fold (happened g) (begun_turn s) events).state in turned_of u (chosen g u)

turned_is : (x : Scenario) (s : State) → turned x s ≡ by_what_happens x.setup s (events_of x.script s.turn)
unfolding turned after_events by_what_happens
turned_is x s = refl

module _ (x : Scenario) (other : ScriptData) (s : State) (same : events_of other s.turn ≡ events_of x.script s.turn) where
  abbrev y : Scenario
  y = with_script x other

  same_turned : turned y s ≡ turned x s
  same_turned = turned_is y s ∙ ap (by_what_happens x.setup s) same ∙ sym (turned_is x s)

  here : turn Calls y s ≡ turn Calls x s
  here = same_turn Calls x other s same

  same_change : (at : ℕ) → change_in y at s ≡ change_in x at s
  same_change at = λ i. change_by (runner_of (same_turned i)) (byte_at s.memory at) (byte_at (here i).state.memory at)

  pub same_by_turn : (p : Property) (kept : ℕ) → by_turn p kept y s ≡ by_turn p kept x s
  same_by_turn (property.NeverTold line) kept = ap (λ (t : Turn). broken_if (tells_such line t.notes) kept) here
  same_by_turn (property.NeverChanged at but) kept = ap (λ change. broken_if (is_some_other but change) kept) (same_change at)
  same_by_turn (property.NeverSo c turns) kept = refl
  same_by_turn (property.EndsSo c) kept = refl
  same_by_turn property.EndsStill kept = refl
  same_by_turn (property.Answered line answer turns) kept = ap (λ (t : Turn). owed_on (tells_such line t.notes) (tells_such answer t.notes) turns kept) here

  pub same_step : (p : Property) (v : Verdict) → stepped p y v s ≡ stepped p x v s
  same_step p (verdict.Broken t) = refl
  same_step p (verdict.Open kept) =
      λ i. unless_broken s.turn (same_by_turn p kept i) (λ later. unless_broken (here i).state.turn (on_state p later (here i).state) (λ now. verdict.Open now))

-- ## where a run ends

none_at_all : (down still : Bool) (left : ℕ) → end_by down 1 still ≡ None → end_by down (suc left) still ≡ None
none_at_all true still left e = cc
none_at_all false true left e = cc
none_at_all false false left e = let more : (suc left == 0) ≡ false = ne_eqb (suc left) 0 (λ z. omega (arith, z)) in ap (λ (b : Bool). cond b (Some Bound) None) more

pub goes_too : (x : Scenario) (other : ScriptData) (left : ℕ) (s : State) → lasts other s.turn ≡ lasts x.script s.turn → ending x 1 s ≡ None → ending (with_script x other) (suc left) s ≡ None
unfolding ending
goes_too x other left s same e = ap (λ (b : Bool). end_by (is_down s) (suc left) (is_none (chosen x.setup s) && not b)) same ∙ none_at_all (is_down s) (is_still x s) left e

-- ## a run

next_state : (x : Scenario) (n : ℕ) (s : State) → (turn Calls x (state_after Calls x n s)).state ≡ state_after Calls x (suc n) s
unfolding state_after
next_state x n s = ap (λ (t : Turn). t.state) (sym (last_turn Calls x n s))

pub turn_after_turns : (x : Scenario) (n : ℕ) (s : State) → Sane x.setup s → (state_after Calls x n s).turn ≡ s.turn + n
unfolding state_after
turn_after_turns x zero s h = omega arith
turn_after_turns x (suc n) s h =
    let more = turn_more Calls x (state_after Calls x n s) (sane_turns Calls x n s h) in
    let is = ap (λ (u : State). u.turn) (next_state x n s) in
    let before = turn_after_turns x n s h in
    omega (arith, more, is, before)

module _ (x : Scenario) (other : ScriptData) (s : State) (sane : Sane x.setup s) where
  pub kept_by : (n : ℕ) → AgreeFor x.script other s.turn n → ((k : ℕ) → k < n → ending x 1 (state_after Calls x k s) ≡ None) → (p : Property) (left : ℕ) (v : Verdict) → n ≤ left →
      broken_by p (with_script x other) left v s ≡ broken_by p (with_script x other) (left - n) (stepped_after p x n s v) (state_after Calls x n s)
  unfolding state_after stepped_after
  kept_by zero agree goes p left v le = let e : left ≡ left - 0 = omega arith in ap (λ (l : ℕ). broken_by p (with_script x other) l v s) e
  kept_by (suc n) agree goes p left v le =
      let y = with_script x other in
      let u = state_after Calls x n s in
      let at = turn_after_turns x n s sane in
      let more : left - n ≡ suc (left - suc n) = omega (arith, le) in
      let less : AgreeFor x.script other s.turn n = record {
        events = λ turn low high. agree.events turn low (omega (arith, high));
        last = λ turn low high. agree.last turn low (omega (arith, high));
      } in
      let same : events_of other u.turn ≡ events_of x.script u.turn = agree.events u.turn (omega (arith, at)) (omega (arith, at)) in
      let goes_here = goes_too x other (left - suc n) u (agree.last u.turn (omega (arith, at)) (omega (arith, at))) (goes n (omega arith)) in
      kept_by n less (λ k lt. goes k (omega (arith, lt))) p left v (omega (arith, le))
      ∙ ap (λ (l : ℕ). broken_by p y l (stepped_after p x n s v) u) more
      ∙ goes_on p y (left - suc n) (stepped_after p x n s v) u goes_here
      ∙ (λ i. broken_by p y (left - suc n) (same_step x other u same p (stepped_after p x n s v) i) (here x other u same i).state)
      ∙ ap (λ (w : State). broken_by p y (left - suc n) (stepped p x (stepped_after p x n s v) u) w) (next_state x n s)

pub all_zip_map : {A : Type 0} (R : A → A → Type 0) (f : A → A) → ((a : A) → R a (f a)) → (ws : List A) → AllZip R ws (map f ws)
all_zip_map R f each [] = tt
all_zip_map R f each (w ∷ ws) = (each w, all_zip_map R f each ws)

-- a property is kept, whatever the most turns of the run are
pub one_kept : (x : Scenario) (other : ScriptData) (s : State) (n to limit : ℕ) (w : Judged) → Sane x.setup s → AgreeFor x.script other s.turn (to - s.turn) → to ≤ limit →
    ((k : ℕ) → k < n → ending x 1 (state_after Calls x k s) ≡ None) → (state_after Calls x n s).turn ≤ to → IsKept (with_script x other) limit s (state_after Calls x n s) w (after_turns x n s w)
one_kept x other s n to limit w sane agree le goes within =
    let y = with_script x other in
    let u = state_after Calls x n s in
    let at = turn_after_turns x n s sane in
    let few : AgreeFor x.script other s.turn n = record {
      events = λ turn low high. agree.events turn low (omega (arith, high, at, within));
      last = λ turn low high. agree.last turn low (omega (arith, high, at, within));
    } in
    let left : limit - s.turn - n ≡ limit - u.turn = omega (arith, at) in
    record {
      property = refl;
      broken = kept_by x other s sane n few goes w.0 (limit - s.turn) w.1 (omega (arith, at, within, le)) ∙ ap (λ (l : ℕ). broken_by w.0 y l (stepped_after w.0 x n s w.1) u) left;
    }

pub all_kept : (x : Scenario) (other : ScriptData) (s : State) (n to limit : ℕ) (old new : List Judged) → Sane x.setup s → AgreeFor x.script other s.turn (to - s.turn) → to ≤ limit →
    ((k : ℕ) → k < n → ending x 1 (state_after Calls x k s) ≡ None) → (state_after Calls x n s).turn ≤ to → new ≡ map (after_turns x n s) old →
    AllZip (IsKept (with_script x other) limit s (state_after Calls x n s)) old new
all_kept x other s n to limit old new sane agree le goes within is =
    let R = IsKept (with_script x other) limit s (state_after Calls x n s) in
    subst (λ (l : List Judged). AllZip R old l) (sym is) (all_zip_map R (after_turns x n s) (λ w. one_kept x other s n to limit w sane agree le goes within) old)

-- ## the turns that were made, and one more

pub none_yet : (x : Scenario) (s : State) (old : List Judged) → old ≡ map (after_turns x 0 s) old
unfolding stepped_after
none_yet x s [] = refl
none_yet x s (w ∷ ws) = ap (λ (l : List Judged). w ∷ l) (none_yet x s ws)

one_more : (x : Scenario) (n : ℕ) (s : State) (ws : List Judged) → map (λ (w : Judged). (w.0, stepped w.0 x w.1 (state_after Calls x n s))) (map (after_turns x n s) ws) ≡ map (after_turns x (suc n) s) ws
unfolding stepped_after
one_more x n s [] = refl
one_more x n s (w ∷ ws) = ap (λ (l : List Judged). after_turns x (suc n) s w ∷ l) (one_more x n s ws)

pub one_more_as : (x : Scenario) (n : ℕ) (s : State) (ws mid new : List Judged) → mid ≡ map (after_turns x n s) ws → new ≡ map (λ (w : Judged). (w.0, stepped w.0 x w.1 (state_after Calls x n s))) mid → new ≡ map (after_turns x (suc n) s) ws
one_more_as x n s ws mid new is are = are ∙ ap (λ (l : List Judged). map (λ (w : Judged). (w.0, stepped w.0 x w.1 (state_after Calls x n s))) l) is ∙ one_more x n s ws

pub each_more : (n : ℕ) (P : ℕ → Type 0) → ((k : ℕ) → k < n → P k) → P n → (k : ℕ) → k < suc n → P k
each_more n P before here k lt = go (cases_eq k n)
  where
    go : (k ≡ n) ⊎ (k ≡ n → ⊥) → P k
    go (inl e) = subst P (sym e) here
    go (inr other) = before k (omega (arith, lt, other))

-- ## a board

abbrev AllPlaying : Scenario → State → List Judged → ℕ → Type 0
AllPlaying x s old n = (k : ℕ) → k < n → IsPlaying x (state_after Calls x k s) (map (after_turns x k s) old)

there_after : (x : Scenario) (n : ℕ) (s : State) (ws : List Judged) → Sane x.setup s → AllThere s ws → AllThere (state_after Calls x n s) (map (after_turns x n s) ws)
there_after x n s ws h all =
    let u = state_after Calls x n s in
    let many = as_many_tasks x s u h (sane_turns Calls x n s h) in
    All-map (λ (w : Judged). AreThere w.0 u) (after_turns x n s) ws (All-weaker (λ (w : Judged). AreThere w.0 s) (λ (w : Judged). AreThere w.0 u) (λ w there. there_still w.0 s u many there) ws all)

module _ {X : Type 0} {H : X → Type 0} (shown : Shows X H) (x : Scenario) (s : State) where
  -- it has made n turns, in each of which something was looked for
  pub record HasPlayedSoFar (old new : List Judged) (b : Board X H) : Type 0 where
    pub n : ℕ
    pub stands : Stands shown x b (state_after Calls x n s)
    pub judged : new ≡ map (after_turns x n s) old
    pub playing : AllPlaying x s old n
    pub sane : Sane x.setup s
    pub there : AllThere s old

  pub played_none : (old : List Judged) (b : Board X H) → Stands shown x b s → AllThere s old → HasPlayedSoFar old old b
  unfolding state_after
  played_none old b st all = record { n = 0; stands = st; judged = none_yet x s old; playing = λ k lt. absurd (omega (arith, lt)); sane = st.sane; there = all }

  pub one_turn_more : (old mid new : List Judged) (b b' : Board X H) → HasPlayedSoFar old mid b → ((u : State) → Stands shown x b u → IsPlaying x u mid) → ((u : State) → Stands shown x b u → Stands shown x b' (turn Calls x u).state) →
      ((u : State) → Stands shown x b u → AllThere u mid → new ≡ map (turned_on x u) mid) → HasPlayedSoFar old new b'
  one_turn_more old mid new b b' h plays made turned =
      let u = state_after Calls x h.n s in
      let there = subst (λ (l : List Judged). AllThere u l) (sym h.judged) (there_after x h.n s old h.sane h.there) in
      record {
        n = suc h.n;
        stands = subst (Stands shown x b') (next_state x h.n s) (made u h.stands);
        judged = one_more_as x h.n s old mid new h.judged (turned u h.stands there);
        playing = λ k lt. each_more h.n (λ j. IsPlaying x (state_after Calls x j s) (map (after_turns x j s) old)) h.playing (subst (λ (l : List Judged). IsPlaying x u l) h.judged (plays u h.stands)) k lt;
        sane = h.sane;
        there = h.there;
      }

  pub has_played : (to : ℕ) (old new : List Judged) (b : Board X H) → HasPlayedSoFar old new b → turns_of b ≤ to → ((u : State) → Stands shown x b u → IsThrough x to u new) → HasPlayed shown x s to old new b
  has_played to old new b h within through = record {
    n = h.n;
    stands = h.stands;
    judged = h.judged;
    playing = h.playing;
    within = let here = h.stands.holds.turns in omega (arith, here, within);
    through = through (state_after Calls x h.n s) h.stands;
  }

  pub kept_so : (to limit : ℕ) (script : ScriptData) (old new : List Judged) (b : Board X H) → HasPlayedSoFar old new b → turns_of b ≤ to → to ≤ limit → AgreeFor x.script script s.turn (to - s.turn) →
      HasKept shown x script limit s old new b
  kept_so to limit script old new b h within le agree =
      let u = state_after Calls x h.n s in
      let here = h.stands.holds.turns in
      record {
        state = u;
        stands = h.stands;
        kept = all_kept x script s h.n to limit old new h.sane agree le (λ k lt. (h.playing k lt).goes) (omega (arith, here, within)) h.judged;
      }
