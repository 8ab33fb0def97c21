-- Comparing all outcomes with the first one finds a difference exactly if some two outcomes differ.
use Rattle.std.proofs.Common.{◌≡◌, ◌≢◌, ◌∙◌, ◌⊎◌, inl, inr, ℕ, zero, suc, ◌+◌, ◌-◌, ◌<◌, ◌≤◌, add-one, not, Bool, true, false, cond, List, Option, Some, None, refl, sym, ap, subst, arith}
use Rattle.std.specs.Prelude.{◌&&◌, ◌||◌, bytes_eq, nat_lt}
use Rattle.std.specs.List.{list_any, range_with_len}
use Rattle.std.proofs.lemmas.Bool.{cases_lt, ltb-false, or_parts, or_cases}
use Rattle.std.proofs.lemmas.Slice.Eq.{bytes_eq-Decides}
use Rattle.board_model.specs.declared.outcomes.End.{End}
use Rattle.board_model.specs.declared.outcomes.End.TheVariants.{Supervisor, Bound, Still}
use Rattle.board_model.specs.Run.{Run}
use Rattle.board_model.specs.Script.{Scenario}
use Rattle.sweep_core.specs.Comparing.{Comparison, compared_times, nothing_compared, with_outcome, with_time}
use Rattle.sweep_core.specs.Outcomes.{heard, nothing_heard}
use Rattle.sweep_core.specs.Swept.{Asking, IsAsked, IsNoWorse, arrival_run, base_run, is_made, is_supervisors, is_worse, makes_difference, outcome_at}

-- ---- tests

or_true : (a : Bool) → (a || true) ≡ true
or_true true = refl
or_true false = refl

apart : (b : Bool) → b ≡ true → b ≡ false → ⊥
apart b t f = let e : true ≡ false = sym t ∙ f in cc

differing : (o p : List ℕ) → o ≢ p → bytes_eq o p ≡ false
differing o p ne = by (bytes_eq o p) refl
  where
    by : (b : Bool) → bytes_eq o p ≡ b → bytes_eq o p ≡ false
    by true e = absurd (ne ((bytes_eq-Decides o p).0 e))
    by false e = e

some_is : (o p : List ℕ) → ◌≡◌ {A = Option (List ℕ)} (Some o) (Some p) → o ≡ p
some_is o p e = cc

equal : (o p : List ℕ) → o ≡ p → bytes_eq o p ≡ true
equal o p e = (bytes_eq-Decides o p).1 e

not_equal : (o p : List ℕ) → not (bytes_eq o p) ≡ true → bytes_eq o p ≡ false
not_equal o p e = by (bytes_eq o p) refl
  where
    by : (b : Bool) → bytes_eq o p ≡ b → bytes_eq o p ≡ false
    by true is = absurd (apart (not (bytes_eq o p)) e (ap not is))
    by false is = is

not_differing : (o p : List ℕ) → not (bytes_eq o p) ≡ false → o ≡ p
not_differing o p e = by (bytes_eq o p) refl
  where
    by : (b : Bool) → bytes_eq o p ≡ b → o ≡ p
    by true is = (bytes_eq-Decides o p).0 is
    by false is = absurd (apart (not (bytes_eq o p)) (ap not is) e)

-- ---- numbers from one on

any_found : (p : ℕ → Bool) (n from k : ℕ) → k < n → p (from + k) ≡ true → list_any p (range_with_len from n) ≡ true
any_found p zero from k lt is = absurd (omega arith)
any_found p (suc n) from zero lt is =
    let same : from + 0 ≡ from = omega arith in
    ap (λ (b : Bool). b || list_any p (range_with_len (from + 1) n)) (ap p (sym same) ∙ is)
any_found p (suc n) from (suc k) lt is =
    let same : from + suc k ≡ from + 1 + k = omega arith in
    ap (λ (b : Bool). p from || b) (any_found p n (from + 1) k (omega arith) (ap p (sym same) ∙ is)) ∙ or_true (p from)

none_found : (p : ℕ → Bool) (n from : ℕ) → ((k : ℕ) → k < n → p (from + k) ≡ false) → list_any p (range_with_len from n) ≡ false
none_found p zero from none = refl
none_found p (suc n) from none =
    let same : from + 0 ≡ from = omega arith in
    let first : p from ≡ false = ap p (sym same) ∙ none 0 (omega arith) in
    ap (λ (b : Bool). b || list_any p (range_with_len (from + 1) n)) first
    ∙ none_found p n (from + 1) (λ k lt. let next : from + 1 + k ≡ from + suc k = omega arith in ap p next ∙ none (suc k) (omega (arith, lt)))

-- ---- outcomes one after the other

module _ (made worse : ℕ → Bool) (words : ℕ → List ℕ) (from : ℕ) where
  abbrev differ : ℕ → ℕ → Bool
  differ one other = made one && made other && not (bytes_eq (words one) (words other))

  abbrev difference : ℕ → Bool
  difference n = list_any (λ t. (made t && worse t) || list_any (differ t) (range_with_len from n)) (range_with_len from n)

  -- with the n-th of them
  abbrev with_next : Comparison → ℕ → Comparison
  with_next c n = cond (made (from + n)) (with_outcome c (worse (from + n)) (words (from + n))) c

  -- one of the first n makes a difference
  abbrev Finding : ℕ → ℕ → Type 0
  Finding n k = (worse (from + k) ≡ true) ⊎ ((j : ℕ) × (j < n) × (made (from + j) ≡ true) × (words (from + k) ≢ words (from + j)))

  -- the first n of them were compared
  record AreCompared (n : ℕ) (c : Comparison) : Type 0 where
    unmade : c.first ≡ None → (k : ℕ) → k < n → made (from + k) ≡ false
    first : (f : List ℕ) → c.first ≡ Some f → (k : ℕ) × (k < n) × (made (from + k) ≡ true) × (f ≡ words (from + k))
    well : c.found ≡ false → (k : ℕ) → k < n → made (from + k) ≡ true → worse (from + k) ≡ false
    same : c.found ≡ false → (f : List ℕ) → c.first ≡ Some f → (k : ℕ) → k < n → made (from + k) ≡ true → words (from + k) ≡ f
    some : c.found ≡ true → (k : ℕ) × (k < n) × (made (from + k) ≡ true) × Finding n k

  none_compared : AreCompared 0 nothing_compared
  none_compared = record {
    unmade = λ e k lt. absurd (omega (arith, lt));
    first = λ f e. absurd (no_first f e);
    well = λ e k lt. absurd (omega (arith, lt));
    same = λ e f is k lt. absurd (omega (arith, lt));
    some = λ e. absurd (cc e);
  }
    where
      no_first : (f : List ℕ) → ◌≡◌ {A = Option (List ℕ)} None (Some f) → ⊥
      no_first f e = cc

  -- ---- one more

  last_or : (P : ℕ → Type 0) (n : ℕ) → ((k : ℕ) → k < n → P k) → P n → (k : ℕ) → k < suc n → P k
  last_or P n below here k lt = elim (cases_lt k n) [ inl l ↦ below k l | inr ge ↦ (let same : n ≡ k = omega arith in subst P same here) ]

  wider : (n k : ℕ) → Finding n k → Finding (suc n) k
  wider n k (inl w) = inl w
  wider n k (inr r) = inr (r.0, omega (arith, r.1), r.2, r.3)

  abbrev Found : ℕ → Type 0
  Found n = (k : ℕ) × (k < n) × (made (from + k) ≡ true) × Finding n k

  found_before : (n : ℕ) → Found n → Found (suc n)
  found_before n r = (r.0, omega (arith, r.1), r.2, wider n r.0 r.3)

  -- where it is not made nothing is compared
  not_made : (n : ℕ) (c : Comparison) → AreCompared n c → made (from + n) ≡ false → AreCompared (suc n) c
  not_made n c h is = record {
    unmade = λ e. last_or (λ k. made (from + k) ≡ false) n (h.unmade e) is;
    first = λ f e. let r = h.first f e in (r.0, omega (arith, r.1), r.2, r.3);
    well = λ e. last_or (λ k. made (from + k) ≡ true → worse (from + k) ≡ false) n (h.well e) (λ m. absurd (apart (made (from + n)) m is));
    same = λ e f first. last_or (λ k. made (from + k) ≡ true → words (from + k) ≡ f) n (h.same e f first) (λ m. absurd (apart (made (from + n)) m is));
    some = λ e. found_before n (h.some e);
  }

  -- the first that is made
  made_first : (n : ℕ) (found : Bool) → AreCompared n (record { first = None; found = found }) → made (from + n) ≡ true →
      AreCompared (suc n) (with_outcome (record { first = None; found = found }) (worse (from + n)) (words (from + n)))
  made_first n found h is = record {
    unmade = λ e. absurd (cc e);
    first = λ f e. (n, omega arith, is, sym (some_is (words (from + n)) f e));
    well = λ e. let p = or_parts found (worse (from + n)) (or_parts (found || worse (from + n)) false e).0 in last_or (λ k. made (from + k) ≡ true → worse (from + k) ≡ false) n (h.well p.0) (λ m. p.1);
    same = λ e f first. last_or (λ k. made (from + k) ≡ true → words (from + k) ≡ f) n (λ k lt m. absurd (apart (made (from + k)) m (h.unmade refl k lt))) (λ m. some_is (words (from + n)) f first);
    some = λ e. by_test (or_cases (found || worse (from + n)) false e);
  }
    where
      by_worse : (found ≡ true) ⊎ (worse (from + n) ≡ true) → Found (suc n)
      by_worse (inl e) = found_before n (h.some e)
      by_worse (inr e) = (n, omega arith, is, inl e)

      by_test : ((found || worse (from + n)) ≡ true) ⊎ (false ≡ true) → Found (suc n)
      by_test (inl e) = by_worse (or_cases found (worse (from + n)) e)
      by_test (inr e) = absurd (cc e)

  -- each further one that is
  made_again : (n : ℕ) (found : Bool) (g : List ℕ) → AreCompared n (record { first = Some g; found = found }) → made (from + n) ≡ true →
      AreCompared (suc n) (with_outcome (record { first = Some g; found = found }) (worse (from + n)) (words (from + n)))
  made_again n found g h is = record {
    unmade = λ e. absurd (cc e);
    first = λ f e. let r = h.first f e in (r.0, omega (arith, r.1), r.2, r.3);
    well = λ e. last_or (λ k. made (from + k) ≡ true → worse (from + k) ≡ false) n (h.well (quiet e).0) (λ m. (quiet e).1);
    same = λ e f first. last_or (λ k. made (from + k) ≡ true → words (from + k) ≡ f) n (h.same (quiet e).0 f first) (λ m. not_differing o g (or_parts (found || w) (not (bytes_eq o g)) e).1 ∙ some_is g f first);
    some = λ e. by_test (or_cases (found || w) (not (bytes_eq o g)) e);
  }
    where
      o : List ℕ
      o = words (from + n)

      w : Bool
      w = worse (from + n)

      quiet : ((found || w) || not (bytes_eq o g)) ≡ false → (found ≡ false) × (w ≡ false)
      quiet e = or_parts found w (or_parts (found || w) (not (bytes_eq o g)) e).0

      by_worse : (found ≡ true) ⊎ (w ≡ true) → Found (suc n)
      by_worse (inl e) = found_before n (h.some e)
      by_worse (inr e) = (n, omega arith, is, inl e)

      by_test : ((found || w) ≡ true) ⊎ (not (bytes_eq o g) ≡ true) → Found (suc n)
      by_test (inl e) = by_worse (or_cases found w e)
      by_test (inr e) =
          let r = h.first g refl in
          (n, omega arith, is, inr (r.0, omega (arith, r.1), r.2, λ same. apart (bytes_eq o g) (equal o g (same ∙ sym r.3)) (not_equal o g e)))

  compared_more : (n : ℕ) (c : Comparison) → AreCompared n c → AreCompared (suc n) (with_next c n)
  compared_more n c h = by (made (from + n)) refl
    where
      by_first : (f : Option (List ℕ)) → AreCompared n (record { first = f; found = c.found }) → made (from + n) ≡ true → AreCompared (suc n) (with_outcome (record { first = f; found = c.found }) (worse (from + n)) (words (from + n)))
      by_first None k is = made_first n c.found k is
      by_first (Some g) k is = made_again n c.found g k is

      by : (m : Bool) → made (from + n) ≡ m → AreCompared (suc n) (cond m (with_outcome c (worse (from + n)) (words (from + n))) c)
      by false is = not_made n c h is
      by true is = by_first c.first h is

  -- ---- all of them

  both_made : (t u : ℕ) → made t ≡ true → made u ≡ true → (b : Bool) → not (bytes_eq (words t) (words u)) ≡ b → differ t u ≡ b
  both_made t u mt mu b e = ap (λ (k : Bool). k && made u && not (bytes_eq (words t) (words u))) mt ∙ ap (λ (k : Bool). k && not (bytes_eq (words t) (words u))) mu ∙ e

  decided : (n : ℕ) (c : Comparison) → AreCompared n c → c.found ≡ difference n
  decided n c h = by c.found refl
    where
      times : List ℕ
      times = range_with_len from n

      test : ℕ → Bool
      test t = (made t && worse t) || list_any (differ t) times

      at_finding : (k : ℕ) → made (from + k) ≡ true → Finding n k → test (from + k) ≡ true
      at_finding k is (inl w) = ap (λ (b : Bool). (b && worse (from + k)) || list_any (differ (from + k)) times) is ∙ ap (λ (b : Bool). b || list_any (differ (from + k)) times) w
      at_finding k is (inr r) =
          let d = both_made (from + k) (from + r.0) is r.2 true (ap not (differing (words (from + k)) (words (from + r.0)) r.3)) in
          ap (λ (b : Bool). (made (from + k) && worse (from + k)) || b) (any_found (differ (from + k)) n from r.0 r.1 d) ∙ or_true (made (from + k) && worse (from + k))

      one_of : (o : Option (List ℕ)) → c.first ≡ o → c.found ≡ false → (k j : ℕ) → k < n → j < n → made (from + k) ≡ true → made (from + j) ≡ true → words (from + k) ≡ words (from + j)
      one_of None is e k j lk lj mk mj = absurd (apart (made (from + k)) mk (h.unmade is k lk))
      one_of (Some f) is e k j lk lj mk mj = h.same e f is k lk mk ∙ sym (h.same e f is j lj mj)

      not_with : c.found ≡ false → (k j : ℕ) → k < n → j < n → made (from + k) ≡ true → (m : Bool) → made (from + j) ≡ m → differ (from + k) (from + j) ≡ false
      not_with e k j lk lj mk false mj =
          ap (λ (b : Bool). b && made (from + j) && not (bytes_eq (words (from + k)) (words (from + j)))) mk
          ∙ ap (λ (b : Bool). b && not (bytes_eq (words (from + k)) (words (from + j)))) mj
      not_with e k j lk lj mk true mj = both_made (from + k) (from + j) mk mj false (ap not (equal (words (from + k)) (words (from + j)) (one_of c.first refl e k j lk lj mk mj)))

      at_none : c.found ≡ false → (k : ℕ) → k < n → (m : Bool) → made (from + k) ≡ m → test (from + k) ≡ false
      at_none e k lt false is =
          ap (λ (b : Bool). (b && worse (from + k)) || list_any (differ (from + k)) times) is
          ∙ none_found (differ (from + k)) n from (λ j lj. ap (λ (b : Bool). b && made (from + j) && not (bytes_eq (words (from + k)) (words (from + j)))) is)
      at_none e k lt true is =
          ap (λ (b : Bool). (b && worse (from + k)) || list_any (differ (from + k)) times) is
          ∙ ap (λ (b : Bool). b || list_any (differ (from + k)) times) (h.well e k lt is)
          ∙ none_found (differ (from + k)) n from (λ j lj. not_with e k j lt lj is (made (from + j)) refl)

      by : (b : Bool) → c.found ≡ b → c.found ≡ difference n
      by true e = let r = h.some e in e ∙ sym (any_found test n from r.0 r.1 (at_finding r.0 r.2 r.3))
      by false e = e ∙ sym (none_found test n from (λ k lt. at_none e k lt (made (from + k)) refl))

-- ---- the arrival times

times_compared : (x : Scenario) (a : Asking) (n : ℕ) → AreCompared (is_made x a) (λ t. is_worse (base_run x a) (arrival_run x a t)) (outcome_at x a) a.from n (compared_times x a n)
unfolding compared_times
times_compared x a zero = none_compared (is_made x a) (λ t. is_worse (base_run x a) (arrival_run x a t)) (outcome_at x a) a.from
times_compared x a (suc n) = compared_more (is_made x a) (λ t. is_worse (base_run x a) (arrival_run x a t)) (outcome_at x a) a.from n (compared_times x a n) (times_compared x a n)

pub makes_is : (x : Scenario) (a : Asking) (n : ℕ) → n ≡ a.to - a.from → (compared_times x a n).found ≡ makes_difference x a
unfolding makes_difference
makes_is x a n is =
    decided (is_made x a) (λ t. is_worse (base_run x a) (arrival_run x a t)) (outcome_at x a) a.from n (compared_times x a n) (times_compared x a n)
    ∙ ap (difference (is_made x a) (λ t. is_worse (base_run x a) (arrival_run x a t)) (outcome_at x a) a.from) is

pub one_compared : (x : Scenario) (a : Asking) (n : ℕ) → compared_times x a (n + 1) ≡ with_time x a (compared_times x a n) (a.from + n)
unfolding compared_times
one_compared x a n = rw add-one refl

pub none_compared_yet : (x : Scenario) (a : Asking) → compared_times x a 0 ≡ nothing_compared
unfolding compared_times
none_compared_yet x a = refl

-- ---- each of them, where none makes a difference

same_time : (from time : ℕ) → from ≤ time → from + (time - from) ≡ time
same_time from time h = omega (arith, h)

module _ (x : Scenario) (a : Asking) (none : makes_difference x a ≡ false) where
  abbrev all_times : ℕ
  all_times = a.to - a.from

  compared : AreCompared (is_made x a) (λ t. is_worse (base_run x a) (arrival_run x a t)) (outcome_at x a) a.from all_times (compared_times x a all_times)
  compared = times_compared x a all_times

  nothing_found : (compared_times x a all_times).found ≡ false
  nothing_found = makes_is x a all_times refl ∙ none

  place_below : (time : ℕ) → a.from ≤ time → time < a.to → time - a.from < all_times
  place_below time from to = omega (arith, from, to)

  not_worse : (time : ℕ) → IsAsked x a time → is_worse (base_run x a) (arrival_run x a time) ≡ false
  not_worse time h =
      let same : a.from + (time - a.from) ≡ time = same_time a.from time h.from in
      subst (λ (t : ℕ). is_worse (base_run x a) (arrival_run x a t) ≡ false) same
      (compared.well nothing_found (time - a.from) (place_below time h.from h.to) (ap (is_made x a) same ∙ h.made))

  one_of_all : (o : Option (List ℕ)) → (compared_times x a all_times).first ≡ o → (time other : ℕ) → IsAsked x a time → IsAsked x a other → outcome_at x a time ≡ outcome_at x a other
  one_of_all None e time other h k =
      let same : a.from + (time - a.from) ≡ time = same_time a.from time h.from in
      absurd (apart (is_made x a (a.from + (time - a.from))) (ap (is_made x a) same ∙ h.made) (compared.unmade e (time - a.from) (place_below time h.from h.to)))
  one_of_all (Some f) e time other h k =
      let same : a.from + (time - a.from) ≡ time = same_time a.from time h.from in
      let also : a.from + (other - a.from) ≡ other = same_time a.from other k.from in
      let first = compared.same nothing_found f e (time - a.from) (place_below time h.from h.to) (ap (is_made x a) same ∙ h.made) in
      let second = compared.same nothing_found f e (other - a.from) (place_below other k.from k.to) (ap (is_made x a) also ∙ k.made) in
      ap (outcome_at x a) (sym same) ∙ first ∙ sym second ∙ ap (outcome_at x a) also

ends_so : (e b : End) → (is_supervisors e && not (is_supervisors b)) ≡ false → e ≡ Supervisor → b ≡ Supervisor
ends_so Supervisor Supervisor h is = refl
ends_so Supervisor Bound h is = absurd (cc h)
ends_so Supervisor Still h is = absurd (cc h)
ends_so Bound b h is = absurd (cc is)
ends_so Still b h is = absurd (cc is)

better : (base r : Run) → is_worse base r ≡ false → IsNoWorse base r
better base r e =
    let p = or_parts (nat_lt (heard nothing_heard base.notes).faults (heard nothing_heard r.notes).faults) (is_supervisors r.end && not (is_supervisors base.end)) e in
    record { faults = ltb-false (heard nothing_heard base.notes).faults (heard nothing_heard r.notes).faults p.0; end = ends_so r.end base.end p.1 }

pub no_worse : (x : Scenario) (a : Asking) (time : ℕ) → makes_difference x a ≡ false → IsAsked x a time → IsNoWorse (base_run x a) (arrival_run x a time)
no_worse x a time none h = better (base_run x a) (arrival_run x a time) (not_worse x a none time h)

pub one_outcome : (x : Scenario) (a : Asking) (time other : ℕ) → makes_difference x a ≡ false → IsAsked x a time → IsAsked x a other → outcome_at x a time ≡ outcome_at x a other
one_outcome x a time other none h k = one_of_all x a none (compared_times x a (a.to - a.from)).first refl time other h k
