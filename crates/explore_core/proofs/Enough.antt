-- What is kept of a run for a property decides in which turn it is broken.
use Rattle.std.proofs.Common.{◌≡◌, ◌∙◌, ℕ, zero, suc, ◌+◌, ◌-◌, ◌<◌, ◌≤◌, Bool, true, false, List, Option, Some, None, refl, sym, ap, arith, add-one, ◌⊎◌, inl, inr}
use Rattle.std.specs.Prelude.{◌==◌, ◌&&◌, ◌||◌, not, cond, nat_le, nat_lt, find, min}
use Rattle.std.specs.List.{list_any, list_all, range_with_len}
use Rattle.std.specs.Option.{option_map}
use Rattle.std.proofs.lemmas.Bool.{cases_lt, cases_eq, cases_Bool, eqb-true, eqb-false}
use Rattle.std.proofs.lemmas.Bool.Decides.{nat_tests}
use Rattle.task_table.specs.model.State.{State}
use Rattle.task_table.specs.model.Sane.{Sane}
use Rattle.task_table.specs.model.Start.{start}
use Rattle.board_model.specs.declared.outcomes.End.{End}
use Rattle.board_model.specs.declared.outcomes.End.TheVariants.{Bound, Still, Supervisor}
use Rattle.board_model.specs.declared.outcomes.Level.TheVariants.{Calls}
use Rattle.board_model.specs.Run.{Run, run, ending, end_by, is_down, is_still, unless, ended_at, with_front, at_turn, state_after, turn_after}
use Rattle.board_model.specs.Script.{Scenario, start_of}
use Rattle.board_model.specs.Turn.{turn}
use Rattle.board_model.proofs.Counts.{turn_more}
use Rattle.board_model.proofs.RunKeeps.{state_run, sane_turns}
use Rattle.run_question.specs.declared.asked.Condition.{Condition}
use Rattle.run_question.specs.declared.asked.Line.{Line}
use Rattle.run_question.specs.declared.asked.Property.{Property}
use Rattle.run_question.specs.declared.asked.Property.TheVariants as property
use Rattle.explore_core.specs.declared.standing.Standing.TheVariants.{Kept, Broken}
use Rattle.explore_core.specs.Asked.{broken_in, changes, due, ends_well, has_lasted, holds, is_left, is_owed, is_some_other, is_unanswered, run_of, state_at, tells, turns_in, unless_good}
use Rattle.explore_core.specs.Asked as asked
use Rattle.explore_core.specs.Kept.{breaks_at_end, broken_from, broken_if, broken_kept, by_turn, from_standing, held_by, on_state, owed_on, owes_at, unless_ended}

-- ## turns that are tested

and_true : (a : Bool) → (a && true) ≡ a
and_true true = refl
and_true false = refl

and_false : (a : Bool) → (a && false) ≡ false
and_false true = refl
and_false false = refl

and_assoc : (a b c : Bool) → (a && (b && c)) ≡ ((a && b) && c)
and_assoc true b c = refl
and_assoc false b c = refl

all_more : (q : ℕ → Bool) (from n : ℕ) → list_all q (range_with_len from (suc n)) ≡ (list_all q (range_with_len from n) && q (from + n))
all_more q from zero = and_true (q from) ∙ ap q (let e : from ≡ from + 0 = omega arith in e)
all_more q from (suc n) =
    let at : from + 1 + n ≡ from + suc n = omega arith in
    ap (λ b. q from && b) (all_more q (from + 1) n) ∙ and_assoc (q from) (list_all q (range_with_len (from + 1) n)) (q (from + 1 + n))
    ∙ ap (λ k. (q from && list_all q (range_with_len (from + 1) n)) && q k) at

any_at : (q : ℕ → Bool) (from n k : ℕ) → from ≤ k → k < from + n → q k ≡ true → list_any q (range_with_len from n) ≡ true
any_at q from zero k low high hit = absurd (omega (arith, low, high))
any_at q from (suc n) k low high hit = go (cases_eq from k) (λ le. any_at q (from + 1) n k le (omega (arith, high)) hit)
  where
    or_true : (a b : Bool) → b ≡ true → (a || b) ≡ true
    or_true true b e = refl
    or_true false b e = e

    go : (from ≡ k) ⊎ (from ≡ k → ⊥) → (from + 1 ≤ k → list_any q (range_with_len (from + 1) n) ≡ true) → (q from || list_any q (range_with_len (from + 1) n)) ≡ true
    go (inl e) more = ap (λ b. b || list_any q (range_with_len (from + 1) n)) (ap q e ∙ hit)
    go (inr other) more = or_true (q from) _ (more (omega (arith, low, other)))

none_of : (q : ℕ → Bool) (from n : ℕ) → ((k : ℕ) → from ≤ k → k < from + n → q k ≡ false) → list_any q (range_with_len from n) ≡ false
none_of q from zero none = refl
none_of q from (suc n) none =
    ap (λ b. b || list_any q (range_with_len (from + 1) n)) (none from (omega arith) (omega arith)) ∙ none_of q (from + 1) n (λ k low high. none k (omega (arith, low)) (omega (arith, high)))

skipped : (q : ℕ → Bool) (from d n : ℕ) → ((k : ℕ) → from ≤ k → k < from + d → q k ≡ false) → find q (range_with_len from (d + n)) ≡ find q (range_with_len (from + d) n)
skipped q from zero n none =
    let one : 0 + n ≡ n = omega arith in
    let two : from ≡ from + 0 = omega arith in
    ap (λ k. find q (range_with_len from k)) one ∙ ap (λ k. find q (range_with_len k n)) two
skipped q from (suc d) n none =
    let one : suc d + n ≡ suc (d + n) = omega arith in
    let two : from + 1 + d ≡ from + suc d = omega arith in
    ap (λ k. find q (range_with_len from k)) one
    ∙ ap (λ b. cond b (Some from) (find q (range_with_len (from + 1) (d + n)))) (none from (omega arith) (omega arith))
    ∙ skipped q (from + 1) d n (λ k low high. none k (omega (arith, low)) (omega (arith, high)))
    ∙ ap (λ k. find q (range_with_len k n)) two

none_found : (q : ℕ → Bool) (from n : ℕ) → ((k : ℕ) → from ≤ k → k < from + n → q k ≡ false) → find q (range_with_len from n) ≡ None
none_found q from zero none = refl
none_found q from (suc n) none =
    ap (λ b. cond b (Some from) (find q (range_with_len (from + 1) n))) (none from (omega arith) (omega arith)) ∙ none_found q (from + 1) n (λ k low high. none k (omega (arith, low)) (omega (arith, high)))

-- ## one state of a run after the other

cases_option : {A : Type 0} (o : Option A) → ((a : A) × (o ≡ Some a)) ⊎ (o ≡ None)
cases_option (Some a) = inl (a, refl)
cases_option None = inr refl

-- with no turn left it ends
ends_by_bound : (x : Scenario) (s : State) → (e : End) × (ending x 0 s ≡ Some e)
unfolding ending
ends_by_bound x s = go (is_down s)
  where
    go : (down : Bool) → (e : End) × (end_by down 0 (is_still x s) ≡ Some e)
    go true = (Supervisor, refl)
    go false = (Bound, refl)

run_ended : (x : Scenario) (n : ℕ) (s : State) (e : End) → ending x n s ≡ Some e → run Calls x n s ≡ ended_at s e
unfolding run
run_ended x zero s e h = ap (λ o. unless s o (ended_at s Bound)) h
run_ended x (suc n) s e h = ap (λ o. unless s o (with_front (at_turn s.turn (turn Calls x s).notes) (run Calls x n (turn Calls x s).state))) h

run_goes : (x : Scenario) (n : ℕ) (s : State) → ending x (suc n) s ≡ None → run Calls x (suc n) s ≡ with_front (at_turn s.turn (turn Calls x s).notes) (run Calls x n (turn Calls x s).state)
unfolding run
run_goes x n s h = ap (λ o. unless s o (with_front (at_turn s.turn (turn Calls x s).notes) (run Calls x n (turn Calls x s).state))) h

next_state : (x : Scenario) (k : ℕ) → (turn Calls x (state_at x k)).state ≡ state_at x (suc k)
unfolding state_after turn_after
next_state x zero = refl
next_state x (suc k) = refl

state_turn : (x : Scenario) → Sane x.setup (start_of x) → (k : ℕ) → (state_at x k).turn ≡ k
unfolding state_after start
state_turn x sane zero = refl
state_turn x sane (suc k) =
    ap (λ (s : State). s.turn) (sym (next_state x k)) ∙ turn_more Calls x (state_at x k) (sane_turns Calls x k (start_of x) sane) ∙ ap (λ n. n + 1) (state_turn x sane k) ∙ add-one k

-- n turns are left before turn k of a run
record IsAt (x : Scenario) (limit k n : ℕ) : Type 0 where
  last : (run Calls x n (state_at x k)).last ≡ (run_of x limit).last
  end : (run Calls x n (state_at x k)).end ≡ (run_of x limit).end

at_start : (x : Scenario) (limit : ℕ) → IsAt x limit 0 limit
unfolding state_after
at_start x limit = record { last = refl; end = refl }

-- it ends there
record IsOver (x : Scenario) (limit k : ℕ) (e : End) : Type 0 where
  last : (run_of x limit).last ≡ state_at x k
  turns : turns_in x limit ≡ k
  end : (run_of x limit).end ≡ e

module _ (x : Scenario) (limit : ℕ) (sane : Sane x.setup (start_of x)) where
  at_end : (k n : ℕ) (e : End) → IsAt x limit k n → ending x n (state_at x k) ≡ Some e → IsOver x limit k e
  at_end k n e a h =
      let ended = run_ended x n (state_at x k) e h in
      let last = sym a.last ∙ ap (λ (r : Run). r.last) ended in
      record { last = last; turns = ap (λ (s : State). s.turn) last ∙ state_turn x sane k; end = sym a.end ∙ ap (λ (r : Run). r.end) ended }

  at_more : (k n : ℕ) → IsAt x limit k (suc n) → ending x (suc n) (state_at x k) ≡ None → IsAt x limit (suc k) n
  at_more k n a h =
      let goes = run_goes x n (state_at x k) h in
      record {
        last = ap (λ s. (run Calls x n s).last) (sym (next_state x k)) ∙ ap (λ (r : Run). r.last) (sym goes) ∙ a.last;
        end = ap (λ s. (run Calls x n s).end) (sym (next_state x k)) ∙ ap (λ (r : Run). r.end) (sym goes) ∙ a.end;
      }

  made_more : (k n : ℕ) → IsAt x limit (suc k) n → k < turns_in x limit
  made_more k n a =
      let s = state_at x (suc k) in
      let here = sane_turns Calls x (suc k) (start_of x) sane in
      let le : s.turn ≤ (run Calls x n s).last.turn = state_run Calls x (λ (v : State). s.turn ≤ v.turn) (λ v good le. let more = turn_more Calls x v good in omega (arith, le, more)) n s here (omega arith) in
      let turn = state_turn x sane (suc k) in
      let same : (run Calls x n s).last.turn ≡ turns_in x limit = ap (λ (v : State). v.turn) a.last in
      omega (arith, le, turn, same)

  -- what is kept, at an end and by a turn

  stops : (p : Property) (k n kept : ℕ) (e : End) → ending x n (state_at x k) ≡ Some e → broken_from p x n kept (state_at x k) ≡ cond (breaks_at_end p kept e (state_at x k)) (Some k) None
  unfolding broken_from
  stops p k zero kept e h = ap (λ o. unless_ended p kept (state_at x k) o None) h ∙ ap (λ t. cond (breaks_at_end p kept e (state_at x k)) (Some t) None) (state_turn x sane k)
  stops p k (suc n) kept e h =
      ap (λ o. unless_ended p kept (state_at x k) o (from_standing (state_at x k).turn (by_turn p kept x (state_at x k)) (λ later. from_standing (turn Calls x (state_at x k)).state.turn (on_state p later (turn Calls x (state_at x k)).state) (λ now. broken_from p x n now (turn Calls x (state_at x k)).state)))) h ∙ ap (λ t. cond (breaks_at_end p kept e (state_at x k)) (Some t) None) (state_turn x sane k)

  goes : (p : Property) (k n kept : ℕ) → ending x (suc n) (state_at x k) ≡ None →
      broken_from p x (suc n) kept (state_at x k) ≡ from_standing k (by_turn p kept x (state_at x k)) (λ later. from_standing (suc k) (on_state p later (state_at x (suc k))) (λ now. broken_from p x n now (state_at x (suc k))))
  unfolding broken_from
  goes p k n kept h =
      ap (λ o. unless_ended p kept (state_at x k) o (from_standing (state_at x k).turn (by_turn p kept x (state_at x k)) (λ later. from_standing (turn Calls x (state_at x k)).state.turn (on_state p later (turn Calls x (state_at x k)).state) (λ now. broken_from p x n now (turn Calls x (state_at x k)).state)))) h
      ∙ (λ i. from_standing (state_turn x sane k i) (by_turn p kept x (state_at x k)) (λ later. from_standing (next_state x k i).turn (on_state p later (next_state x k i)) (λ now. broken_from p x n now (next_state x k i))))
      ∙ (λ i. from_standing k (by_turn p kept x (state_at x k)) (λ later. from_standing (state_turn x sane (suc k) i) (on_state p later (state_at x (suc k))) (λ now. broken_from p x n now (state_at x (suc k)))))

  nothing_more : (p : Property) (q : ℕ → Bool) (from k n kept : ℕ) (e : End) → IsAt x limit k n → ending x n (state_at x k) ≡ Some e → breaks_at_end p kept e (state_at x k) ≡ false →
      broken_from p x n kept (state_at x k) ≡ find q (range_with_len from (turns_in x limit - k))
  nothing_more p q from k n kept e a h good =
      let none : turns_in x limit - k ≡ 0 = let made = (at_end k n e a h).turns in omega (arith, made) in
      stops p k n kept e h ∙ ap (λ b. cond b (Some k) None) good ∙ sym (ap (λ l. find q (range_with_len from l)) none)

  -- ## a property that goes by turns alone

  module _ (p : Property) (q : ℕ → Bool) (by : (k kept : ℕ) → by_turn p kept x (state_at x k) ≡ broken_if (q k) kept) (on : (kept : ℕ) (s : State) → on_state p kept s ≡ Kept kept)
      (over : (kept : ℕ) (e : End) (s : State) → breaks_at_end p kept e s ≡ false) where
    none_left : (k n kept : ℕ) (e : End) → IsAt x limit k n → ending x n (state_at x k) ≡ Some e → broken_from p x n kept (state_at x k) ≡ find q (range_with_len k (turns_in x limit - k))
    none_left k n kept e a h = nothing_more p q k k n kept e a h (over kept e (state_at x k))

    by_turns : (n k kept : ℕ) → IsAt x limit k n → broken_from p x n kept (state_at x k) ≡ find q (range_with_len k (turns_in x limit - k))
    by_turns zero k kept a = let b = ends_by_bound x (state_at x k) in none_left k zero kept b.0 a b.1
    by_turns (suc n) k kept a = go (cases_option (ending x (suc n) (state_at x k))) (λ more. by_turns n (suc k) kept more)
      where
        there : ℕ → Option ℕ
        there now = broken_from p x n now (state_at x (suc k))

        turns : List ℕ
        turns = range_with_len (suc k) (turns_in x limit - suc k)

        one : (b : Bool) → there kept ≡ find q turns → from_standing k (broken_if b kept) (λ later. from_standing (suc k) (on_state p later (state_at x (suc k))) there) ≡ cond b (Some k) (find q turns)
        one true h = refl
        one false h = ap (λ s. from_standing (suc k) s there) (on kept (state_at x (suc k))) ∙ h

        go : ((e : End) × (ending x (suc n) (state_at x k) ≡ Some e)) ⊎ (ending x (suc n) (state_at x k) ≡ None) → (IsAt x limit (suc k) n → there kept ≡ find q turns) →
            broken_from p x (suc n) kept (state_at x k) ≡ find q (range_with_len k (turns_in x limit - k))
        go (inl ended) ih = none_left k (suc n) kept ended.0 a ended.1
        go (inr none) ih =
            let more = at_more k n a none in
            let made = made_more k n more in
            let left : turns_in x limit - k ≡ suc (turns_in x limit - suc k) = omega (arith, made) in
            goes p k n kept none ∙ ap (λ s. from_standing k s (λ later. from_standing (suc k) (on_state p later (state_at x (suc k))) there)) (by k kept)
            ∙ one (q k) (ih more)
            ∙ sym (ap (λ l. find q (range_with_len k l)) left ∙ ap (λ m. cond (q k) (Some k) (find q (range_with_len m (turns_in x limit - suc k)))) (add-one k))

  -- ## a property of the end

  module _ (p : Property) (good : End → State → Bool) (by : (kept : ℕ) (s : State) → by_turn p kept x s ≡ Kept kept) (on : (kept : ℕ) (s : State) → on_state p kept s ≡ Kept kept)
      (over : (kept : ℕ) (e : End) (s : State) → breaks_at_end p kept e s ≡ not (good e s)) where
    at_last : (k n kept : ℕ) (e : End) → IsAt x limit k n → ending x n (state_at x k) ≡ Some e → broken_from p x n kept (state_at x k) ≡ unless_good (good (run_of x limit).end (run_of x limit).last) (turns_in x limit)
    at_last k n kept e a h =
        let o = at_end k n e a h in
        stops p k n kept e h ∙ ap (λ b. cond b (Some k) None) (over kept e (state_at x k)) ∙ flip (good e (state_at x k))
        ∙ (λ i. unless_good (good (sym o.end i) (sym o.last i)) (sym o.turns i))
      where
        flip : (b : Bool) → cond (not b) (Some k) None ≡ unless_good b k
        flip true = refl
        flip false = refl

    by_end : (n k kept : ℕ) → IsAt x limit k n → broken_from p x n kept (state_at x k) ≡ unless_good (good (run_of x limit).end (run_of x limit).last) (turns_in x limit)
    by_end zero k kept a = let b = ends_by_bound x (state_at x k) in at_last k zero kept b.0 a b.1
    by_end (suc n) k kept a = go (cases_option (ending x (suc n) (state_at x k))) (λ more. by_end n (suc k) kept more)
      where
        there : ℕ → Option ℕ
        there now = broken_from p x n now (state_at x (suc k))

        whole : Option ℕ
        whole = unless_good (good (run_of x limit).end (run_of x limit).last) (turns_in x limit)

        go : ((e : End) × (ending x (suc n) (state_at x k) ≡ Some e)) ⊎ (ending x (suc n) (state_at x k) ≡ None) → (IsAt x limit (suc k) n → there kept ≡ whole) → broken_from p x (suc n) kept (state_at x k) ≡ whole
        go (inl ended) ih = at_last k (suc n) kept ended.0 a ended.1
        go (inr none) ih =
            goes p k n kept none
            ∙ ap (λ s. from_standing k s (λ later. from_standing (suc k) (on_state p later (state_at x (suc k))) there)) (by kept (state_at x k))
            ∙ ap (λ s. from_standing (suc k) s there) (on kept (state_at x (suc k)))
            ∙ ih (at_more k n a none)

-- ## for how many states on end a condition has held

streak : (ℕ → Bool) → ℕ → ℕ
streak h zero = cond (h 0) 1 0
streak h (suc k) = cond (h (suc k)) (streak h k + 1) 0

before : (ℕ → Bool) → ℕ → ℕ
before h zero = 0
before h (suc k) = streak h k

streak_is : (h : ℕ → Bool) (k : ℕ) → streak h k ≡ cond (h k) (before h k + 1) 0
unfolding streak before
streak_is h zero = refl
streak_is h (suc k) = refl

above : (h : ℕ → Bool) (n k : ℕ) → nat_lt (suc n) (streak h (suc k)) ≡ (nat_lt n (streak h k) && h (suc k))
unfolding streak
above h n k = go (h (suc k))
  where
    one : nat_lt (suc n) (streak h k + 1) ≡ nat_lt n (streak h k)
    one = grind (arith, nat_tests)

    none : nat_lt (suc n) 0 ≡ false
    none = grind (arith, nat_tests)

    go : (b : Bool) → nat_lt (suc n) (cond b (streak h k + 1) 0) ≡ (nat_lt n (streak h k) && b)
    go true = one ∙ sym (and_true (nat_lt n (streak h k)))
    go false = none ∙ sym (and_false (nat_lt n (streak h k)))

lasted : (h : ℕ → Bool) (n k : ℕ) → (nat_le n k && list_all h (range_with_len (k - n) (n + 1))) ≡ nat_lt n (streak h k)
unfolding before
lasted h zero k =
    let first : nat_le 0 k ≡ true = grind (arith, nat_tests) in
    let here : k - 0 ≡ k = omega arith in
    ap (λ b. b && (h (k - 0) && true)) first ∙ and_true (h (k - 0)) ∙ ap h here ∙ go (h k) ∙ sym (ap (λ m. nat_lt 0 m) (streak_is h k))
  where
    some : nat_lt 0 (before h k + 1) ≡ true
    some = grind (arith, nat_tests)

    go : (b : Bool) → b ≡ nat_lt 0 (cond b (before h k + 1) 0)
    go true = sym some
    go false = refl
lasted h (suc n) zero =
    let first : nat_le (suc n) 0 ≡ false = grind (arith, nat_tests) in
    ap (λ b. b && list_all h (range_with_len (0 - suc n) (suc n + 1))) first ∙ sym (ap (λ m. nat_lt (suc n) m) (streak_is h 0) ∙ go (h 0))
  where
    one : nat_lt (suc n) 1 ≡ false
    one = grind (arith, nat_tests)

    none : nat_lt (suc n) 0 ≡ false
    none = grind (arith, nat_tests)

    go : (b : Bool) → nat_lt (suc n) (cond b (before h 0 + 1) 0) ≡ false
    go true = one
    go false = none
lasted h (suc n) (suc k) =
    let less : nat_le (suc n) (suc k) ≡ nat_le n k = grind (arith, nat_tests) in
    let from : suc k - suc n ≡ k - n = omega arith in
    let count : suc n + 1 ≡ suc (suc n) = omega arith in
    ap (λ b. b && list_all h (range_with_len (suc k - suc n) (suc n + 1))) less
    ∙ (λ i. nat_le n k && list_all h (range_with_len (from i) (count i)))
    ∙ ap (λ b. nat_le n k && b) (all_more h (k - n) (suc n))
    ∙ and_assoc (nat_le n k) (list_all h (range_with_len (k - n) (suc n))) (h (k - n + suc n))
    ∙ go (cases_lt k n) (lasted h n k)
    ∙ sym (above h n k)
  where
    go : (k < n) ⊎ (n ≤ k) → (nat_le n k && list_all h (range_with_len (k - n) (n + 1))) ≡ nat_lt n (streak h k) →
        ((nat_le n k && list_all h (range_with_len (k - n) (suc n))) && h (k - n + suc n)) ≡ (nat_lt n (streak h k) && h (suc k))
    go (inr le) ih =
        let at : k - n + suc n ≡ suc k = omega (arith, le) in
        ap (λ m. (nat_le n k && list_all h (range_with_len (k - n) m)) && h (k - n + suc n)) (sym (add-one n))
        ∙ ap (λ b. b && h (k - n + suc n)) ih ∙ ap (λ m. nat_lt n (streak h k) && h m) at
    go (inl lt) ih =
        let no : nat_le n k ≡ false = grind (arith, nat_tests) in
        let none : false ≡ nat_lt n (streak h k) = sym (ap (λ b. b && list_all h (range_with_len (k - n) (n + 1))) no) ∙ ih in
        ap (λ b. (b && list_all h (range_with_len (k - n) (suc n))) && h (k - n + suc n)) no ∙ ap (λ b. b && h (suc k)) none

-- it is broken where it has held too long, and else so much is kept
held_is : (b : Bool) (turns m k : ℕ) (more : ℕ → Option ℕ) → from_standing k (held_by b turns m) more ≡ cond (nat_lt turns (cond b (m + 1) 0)) (Some k) (more (cond b (m + 1) 0))
held_is false turns m k more = let none : nat_lt turns 0 ≡ false = grind (arith, nat_tests) in sym (ap (λ b. cond b (Some k) (more 0)) none)
held_is true turns m k more = go (nat_lt turns (m + 1))
  where
    go : (b : Bool) → from_standing k (cond b Broken (Kept (m + 1))) more ≡ cond b (Some k) (more (m + 1))
    go true = refl
    go false = refl

module _ (x : Scenario) (limit : ℕ) (sane : Sane x.setup (start_of x)) (c : Condition) (turns : ℕ) where
  abbrev so : ℕ → Bool
  so k = holds c (state_at x k)

  stood : (k : ℕ) (more : ℕ → Option ℕ) → from_standing k (held_by (so k) turns (before so k)) more ≡ cond (has_lasted c turns x k) (Some k) (more (streak so k))
  stood k more =
      held_is (so k) turns (before so k) k more
      ∙ ap (λ m. cond (nat_lt turns m) (Some k) (more m)) (sym (streak_is so k))
      ∙ ap (λ b. cond b (Some k) (more (streak so k))) (sym (lasted so turns k))

  by_states : (n k : ℕ) → IsAt x limit k n → broken_from (property.NeverSo c turns) x n (streak so k) (state_at x k) ≡ find (has_lasted c turns x) (range_with_len (suc k) (turns_in x limit - k))
  unfolding before
  by_states zero k a = let b = ends_by_bound x (state_at x k) in nothing_more x limit sane (property.NeverSo c turns) (has_lasted c turns x) (suc k) k zero (streak so k) b.0 a b.1 refl
  by_states (suc n) k a = go (cases_option (ending x (suc n) (state_at x k))) (λ more. by_states n (suc k) more)
    where
      there : ℕ → Option ℕ
      there now = broken_from (property.NeverSo c turns) x n now (state_at x (suc k))

      go : ((e : End) × (ending x (suc n) (state_at x k) ≡ Some e)) ⊎ (ending x (suc n) (state_at x k) ≡ None) →
          (IsAt x limit (suc k) n → there (streak so (suc k)) ≡ find (has_lasted c turns x) (range_with_len (suc (suc k)) (turns_in x limit - suc k))) →
          broken_from (property.NeverSo c turns) x (suc n) (streak so k) (state_at x k) ≡ find (has_lasted c turns x) (range_with_len (suc k) (turns_in x limit - k))
      go (inl ended) ih = nothing_more x limit sane (property.NeverSo c turns) (has_lasted c turns x) (suc k) k (suc n) (streak so k) ended.0 a ended.1 refl
      go (inr none) ih =
          let more = at_more x limit sane k n a none in
          let made = made_more x limit sane k n more in
          let left : turns_in x limit - k ≡ suc (turns_in x limit - suc k) = omega (arith, made) in
          let q = has_lasted c turns x in
          goes x limit sane (property.NeverSo c turns) k n (streak so k) none
          ∙ stood (suc k) there
          ∙ ap (λ o. cond (q (suc k)) (Some (suc k)) o) (ih more)
          ∙ sym (ap (λ l. find q (range_with_len (suc k) l)) left ∙ ap (λ m. cond (q (suc k)) (Some (suc k)) (find q (range_with_len m (turns_in x limit - suc k)))) (add-one (suc k)))

  never_so : broken_in (property.NeverSo c turns) x limit ≡ broken_kept (property.NeverSo c turns) x limit
  unfolding broken_in state_after before
  never_so =
      let made : turns_in x limit + 1 ≡ suc (turns_in x limit) = add-one (turns_in x limit) in
      let all : turns_in x limit - 0 ≡ turns_in x limit = omega arith in
      let q = has_lasted c turns x in
      ap (λ l. find q (range_with_len 0 l)) made
      ∙ sym (stood 0 (λ kept. broken_from (property.NeverSo c turns) x limit kept (start_of x)) ∙ ap (λ o. cond (q 0) (Some 0) o) (by_states limit 0 (at_start x limit) ∙ ap (λ l. find q (range_with_len 1 l)) all))

-- ## an answer that is owed

module _ (x : Scenario) (limit : ℕ) (sane : Sane x.setup (start_of x)) (line answer : Line) (turns : ℕ) where
  abbrev made : ℕ
  made = turns_in x limit

  abbrev left_at : ℕ → Bool
  left_at k = is_left line answer turns x limit k

  -- from turn `from` on
  abbrev first_left : ℕ → Option ℕ
  first_left from = option_map (due turns made) (find left_at (range_with_len from (made - from)))

  abbrev rest : ℕ → ℕ → ℕ → Option ℕ
  rest n kept k = broken_from (property.Answered line answer turns) x n kept (state_at x k)

  untold : (i : ℕ) → tells line x i ≡ false → left_at i ≡ false
  untold i e = ap (λ t. (t && not (list_any (tells answer x) (range_with_len i (min (turns + 1) (made - i))))) && is_owed turns (run_of x limit).end made i) e

  -- an answer comes in time
  answered : (i k : ℕ) → i ≤ k → k < i + (turns + 1) → k < made → tells answer x k ≡ true → left_at i ≡ false
  answered i k low high inside e =
      let there = any_at (tells answer x) i (min (turns + 1) (made - i)) k low (omega (arith, high, inside, low)) e in
      ap (λ b. (tells line x i && not b) && is_owed turns (run_of x limit).end made i) there ∙ ap (λ b. b && is_owed turns (run_of x limit).end made i) (and_false (tells line x i))

  not_owed : (i : ℕ) → (run_of x limit).end ≡ Bound → made ≤ i + turns → left_at i ≡ false
  not_owed i e le =
      let no : nat_lt (i + turns) made ≡ false = grind (arith, nat_tests) in
      ap (λ o. is_unanswered line answer turns x made i && is_owed turns o made i) e ∙ ap (λ b. is_unanswered line answer turns x made i && b) no ∙ and_false (is_unanswered line answer turns x made i)

  stays_left : (i : ℕ) → tells line x i ≡ true → ((k : ℕ) → i ≤ k → k < i + min (turns + 1) (made - i) → tells answer x k ≡ false) → is_owed turns (run_of x limit).end made i ≡ true → left_at i ≡ true
  stays_left i told none owed =
      let silent = none_of (tells answer x) i (min (turns + 1) (made - i)) none in
      (λ j. (told j && not (silent j)) && owed j)

  owed_inside : (i : ℕ) (e : End) → i + turns < made → is_owed turns e made i ≡ true
  owed_inside i Bound lt = grind (arith, nat_tests)
  owed_inside i Still lt = refl
  owed_inside i Supervisor lt = refl

  -- the first one that is left
  found_left : (i k : ℕ) → i < made → left_at i ≡ true → min (i + turns) made ≡ k → first_left i ≡ Some k
  found_left i k lt e is =
      let some : made - i ≡ suc (made - suc i) = omega (arith, lt) in
      ap (λ l. option_map (due turns made) (find left_at (range_with_len i l))) some
      ∙ ap (λ b. option_map (due turns made) (cond b (Some i) (find left_at (range_with_len (i + 1) (made - suc i))))) e
      ∙ ap (λ m. Some m) is

  -- those of some turns are not
  none_till : (i k : ℕ) → i ≤ k → k ≤ made → ((j : ℕ) → i ≤ j → j < k → left_at j ≡ false) → first_left i ≡ first_left k
  none_till i k low high none =
      let parts : made - i ≡ (k - i) + (made - k) = omega (arith, low, high) in
      let at : i + (k - i) ≡ k = omega (arith, low) in
      ap (λ l. option_map (due turns made) (find left_at (range_with_len i l))) parts
      ∙ ap (option_map (due turns made)) (skipped left_at i (k - i) (made - k) (λ j le lt. none j le (omega (arith, lt, at))) ∙ ap (λ m. find left_at (range_with_len m (made - k))) at)

  -- with nothing owed; and with an answer owed since turn j, that may come in so many turns more
  abbrev IsRight : ℕ → ℕ → Type 0
  IsRight n k =
      (rest n 0 k ≡ first_left k)
      × ((left j : ℕ) → k + left ≡ j + turns → j < k → tells line x j ≡ true → ((i : ℕ) → j ≤ i → i < k → tells answer x i ≡ false) → rest n (suc left) k ≡ first_left j)

  right_at_end : (n k : ℕ) (e : End) → IsAt x limit k n → ending x n (state_at x k) ≡ Some e → IsRight n k
  right_at_end n k e a h = (stops x limit sane (property.Answered line answer turns) k n 0 e h ∙ nothing e ∙ sym none, λ left j is lt told silent. stops x limit sane (property.Answered line answer turns) k n (suc left) e h ∙ owed e o.end left j is lt told silent)
    where
      o : IsOver x limit k e
      o = at_end x limit sane k n e a h

      none : first_left k ≡ None
      none = let no : made - k ≡ 0 = let m = o.turns in omega (arith, m) in ap (λ l. option_map (due turns made) (find left_at (range_with_len k l))) no

      nothing : (f : End) → cond (owes_at f 0) (Some k) None ≡ None
      nothing Bound = refl
      nothing Still = refl
      nothing Supervisor = refl

      by_other : (left j : ℕ) → k + left ≡ j + turns → j < k → tells line x j ≡ true → ((i : ℕ) → j ≤ i → i < k → tells answer x i ≡ false) → is_owed turns (run_of x limit).end made j ≡ true → Some k ≡ first_left j
      by_other left j is lt told silent owed =
          let m = o.turns in
          sym (found_left j k (omega (arith, m, lt)) (stays_left j told (λ i low high. silent i low (omega (arith, high, m))) owed) (omega (arith, m, is)))

      some_left : (left : ℕ) → nat_lt 0 (suc left) ≡ true
      some_left left = grind (arith, nat_tests)

      owed : (f : End) → (run_of x limit).end ≡ f → (left j : ℕ) → k + left ≡ j + turns → j < k → tells line x j ≡ true → ((i : ℕ) → j ≤ i → i < k → tells answer x i ≡ false) → cond (owes_at f (suc left)) (Some k) None ≡ first_left j
      owed Bound e left j is lt told silent =
          let m = o.turns in
          sym (ap (option_map (due turns made)) (none_found left_at j (made - j) (λ i low high. not_owed i e (omega (arith, m, is, low)))))
      owed Still e left j is lt told silent = ap (λ b. cond b (Some k) None) (some_left left) ∙ by_other left j is lt told silent (ap (λ g. is_owed turns g made j) e)
      owed Supervisor e left j is lt told silent = ap (λ b. cond b (Some k) None) (some_left left) ∙ by_other left j is lt told silent (ap (λ g. is_owed turns g made j) e)

  module _ (n k : ℕ) (inside : k < made) (ih : IsRight n (suc k)) where
    there : ℕ → Option ℕ
    there now = rest n now (suc k)

    by_one : first_left k ≡ option_map (due turns made) (cond (left_at k) (Some k) (find left_at (range_with_len (suc k) (made - suc k))))
    by_one =
        let some : made - k ≡ suc (made - suc k) = omega (arith, inside) in
        ap (λ l. option_map (due turns made) (find left_at (range_with_len k l))) some
        ∙ ap (λ m. option_map (due turns made) (cond (left_at k) (Some k) (find left_at (range_with_len m (made - suc k))))) (add-one k)

    passed_over : left_at k ≡ false → there 0 ≡ first_left k
    unfolding there
    passed_over e = ih.0 ∙ sym (by_one ∙ ap (λ b. option_map (due turns made) (cond b (Some k) (find left_at (range_with_len (suc k) (made - suc k))))) e)

    nothing_owed : from_standing k (owed_on (tells line x k) (tells answer x k) turns 0) there ≡ first_left k
    unfolding there
    nothing_owed = go (cases_Bool (tells line x k)) (cases_Bool (tells answer x k))
      where
        go : (tells line x k ≡ true) ⊎ (tells line x k ≡ false) → (tells answer x k ≡ true) ⊎ (tells answer x k ≡ false) → from_standing k (owed_on (tells line x k) (tells answer x k) turns 0) there ≡ first_left k
        go (inr other) a = ap (λ t. from_standing k (owed_on t (tells answer x k) turns 0) there) other ∙ passed_over (untold k other)
        go (inl told) (inl comes) = (λ i. from_standing k (owed_on (told i) (comes i) turns 0) there) ∙ passed_over (answered k k (omega arith) (omega arith) inside comes)
        go (inl told) (inr silent_here) = (λ i. from_standing k (owed_on (told i) (silent_here i) turns 0) there) ∙ by_turns_left (cases_Bool (turns == 0))
          where
            silent : (i : ℕ) → k ≤ i → i < suc k → tells answer x i ≡ false
            silent i low high = let e : i ≡ k = omega (arith, low, high) in ap (tells answer x) e ∙ silent_here

            by_turns_left : ((turns == 0) ≡ true) ⊎ ((turns == 0) ≡ false) → from_standing k (broken_if (turns == 0) turns) there ≡ first_left k
            by_turns_left (inl zero_turns) =
                let none = eqb-true turns 0 zero_turns in
                let owed = owed_inside k (run_of x limit).end (omega (arith, none, inside)) in
                ap (λ b. from_standing k (broken_if b turns) there) zero_turns
                ∙ sym (found_left k k inside (stays_left k told (λ i low high. silent i low (omega (arith, high, none))) owed) (omega (arith, none, inside)))
            by_turns_left (inr more) =
                let some : turns ≡ suc (turns - 1) = let other = eqb-false turns 0 more in omega (arith, other) in
                ap (λ b. from_standing k (broken_if b turns) there) more ∙ ap there some
                ∙ ih.1 (turns - 1) k (omega (arith, some)) (omega arith) told silent

    one_owed : (left j : ℕ) → k + left ≡ j + turns → j < k → tells line x j ≡ true → ((i : ℕ) → j ≤ i → i < k → tells answer x i ≡ false) → from_standing k (owed_on (tells line x k) (tells answer x k) turns (suc left)) there ≡ first_left j
    unfolding there
    one_owed left j is lt told silent = go (cases_Bool (tells answer x k))
      where
        go : (tells answer x k ≡ true) ⊎ (tells answer x k ≡ false) → from_standing k (owed_on (tells line x k) (tells answer x k) turns (suc left)) there ≡ first_left j
        go (inl comes) =
            ap (λ a. from_standing k (owed_on (tells line x k) a turns (suc left)) there) comes ∙ ih.0
            ∙ sym (none_till j (suc k) (omega (arith, lt)) (omega (arith, inside)) (λ i low high. answered i k (omega (arith, high)) (omega (arith, is, low)) inside comes))
        go (inr silent_here) = ap (λ a. from_standing k (owed_on (tells line x k) a turns (suc left)) there) silent_here ∙ by_left (cases_Bool (left == 0))
          where
            all_silent : (i : ℕ) → j ≤ i → i < suc k → tells answer x i ≡ false
            all_silent i low high = here (cases_eq i k)
              where
                here : (i ≡ k) ⊎ (i ≡ k → ⊥) → tells answer x i ≡ false
                here (inl e) = ap (tells answer x) e ∙ silent_here
                here (inr other) = silent i low (omega (arith, high, other))

            by_left : ((left == 0) ≡ true) ⊎ ((left == 0) ≡ false) → from_standing k (broken_if (left == 0) left) there ≡ first_left j
            by_left (inl last) =
                let none = eqb-true left 0 last in
                let owed = owed_inside j (run_of x limit).end (omega (arith, none, is, inside)) in
                ap (λ b. from_standing k (broken_if b left) there) last
                ∙ sym (found_left j k (omega (arith, lt, inside)) (stays_left j told (λ i low high. all_silent i low (omega (arith, high, none, is))) owed) (omega (arith, none, is, inside)))
            by_left (inr more) =
                let some : left ≡ suc (left - 1) = let other = eqb-false left 0 more in omega (arith, other) in
                ap (λ b. from_standing k (broken_if b left) there) more ∙ ap there some
                ∙ ih.1 (left - 1) j (omega (arith, some, is)) (omega (arith, lt)) told all_silent

  by_answers : (n k : ℕ) → IsAt x limit k n → IsRight n k
  unfolding there
  by_answers zero k a = let b = ends_by_bound x (state_at x k) in right_at_end zero k b.0 a b.1
  by_answers (suc n) k a = go (cases_option (ending x (suc n) (state_at x k))) (λ more. by_answers n (suc k) more)
    where
      go : ((e : End) × (ending x (suc n) (state_at x k) ≡ Some e)) ⊎ (ending x (suc n) (state_at x k) ≡ None) → (IsAt x limit (suc k) n → IsRight n (suc k)) → IsRight (suc n) k
      go (inl ended) ih = right_at_end (suc n) k ended.0 a ended.1
      go (inr none) ih =
          let more = at_more x limit sane k n a none in
          let inside = made_more x limit sane k n more in (
            goes x limit sane (property.Answered line answer turns) k n 0 none ∙ nothing_owed n k inside (ih more),
            λ left j is lt told silent. goes x limit sane (property.Answered line answer turns) k n (suc left) none ∙ one_owed n k inside (ih more) left j is lt told silent,
          )

  all_answered : broken_in (property.Answered line answer turns) x limit ≡ broken_kept (property.Answered line answer turns) x limit
  unfolding broken_in state_after
  all_answered =
      let all : made - 0 ≡ made = omega arith in
      ap (λ l. option_map (due turns made) (find left_at (range_with_len 0 l))) (sym all) ∙ sym (by_answers limit 0 (at_start x limit)).0

pub enough : (p : Property) (x : Scenario) (limit : ℕ) → Sane x.setup (start_of x) → broken_in p x limit ≡ broken_kept p x limit
unfolding broken_in state_after
enough (property.NeverTold line) x limit sane =
    let all : turns_in x limit - 0 ≡ turns_in x limit = omega arith in
    ap (λ l. find (tells line x) (range_with_len 0 l)) (sym all)
    ∙ sym (by_turns x limit sane (property.NeverTold line) (tells line x) (λ k kept. refl) (λ kept s. refl) (λ kept e s. refl) limit 0 0 (at_start x limit))
enough (property.NeverChanged at but) x limit sane =
    let all : turns_in x limit - 0 ≡ turns_in x limit = omega arith in
    ap (λ l. find (changes at but x) (range_with_len 0 l)) (sym all)
    ∙ sym (by_turns x limit sane (property.NeverChanged at but) (changes at but x) (λ k kept. refl) (λ kept s. refl) (λ kept e s. refl) limit 0 0 (at_start x limit))
enough (property.NeverSo c turns) x limit sane = never_so x limit sane c turns
enough (property.EndsSo c) x limit sane =
    sym (by_end x limit sane (property.EndsSo c) (λ e s. holds c s) (λ kept s. refl) (λ kept s. refl) (λ kept e s. refl) limit 0 0 (at_start x limit))
enough property.EndsStill x limit sane =
    sym (by_end x limit sane property.EndsStill (λ e s. asked.is_still e) (λ kept s. refl) (λ kept s. refl) (λ kept e s. refl) limit 0 0 (at_start x limit))
enough (property.Answered line answer turns) x limit sane = all_answered x limit sane line answer turns
