-- The last of some turns that passes a test.
use Rattle.std.proofs.Common.{◌≡◌, ◌∙◌, ℕ, zero, suc, ◌+◌, ◌≤◌, ◌<◌, inl, inr, Bool, true, false, cond, Option, Some, None, refl, sym, ap, subst, arith}
use Rattle.std.proofs.lemmas.Bool.{cases_lt}
use Rattle.std.proofs.lemmas.Option.{none-some}
use Rattle.debug_core.specs.Searched.{last_of}
use Rattle.debug_core.proofs.Latest.{some_same}

module _ (p : ℕ → Bool) (from : ℕ) where
  by_last : (n : ℕ) (b : Bool) → p (from + n) ≡ b → last_of p from (suc n) ≡ cond b (Some (from + n)) (last_of p from n)
  unfolding last_of
  by_last n b e = ap (λ (c : Bool). cond c (Some (from + n)) (last_of p from n)) e

  -- of none of them, or of one of them and of none after it
  pub none_last : (n : ℕ) → ((turn : ℕ) → from ≤ turn → turn < from + n → p turn ≡ false) → last_of p from n ≡ None
  unfolding last_of
  none_last zero none = refl
  none_last (suc n) none = by_last n false (none (from + n) (omega arith) (omega arith)) ∙ none_last n (λ turn a b. none turn a (omega (arith, b)))

  pub is_last : (n last : ℕ) → from ≤ last → last < from + n → p last ≡ true → ((turn : ℕ) → last < turn → turn < from + n → p turn ≡ false) → last_of p from n ≡ Some last
  unfolding last_of
  is_last zero last later lt here none = absurd (omega (arith, later, lt))
  is_last (suc n) last later lt here none =
      elim (cases_lt last (from + n)) [
        | inl before ↦ by_last n false (none (from + n) before (omega arith)) ∙ is_last n last later before here (λ turn a b. none turn a (omega (arith, b)))
        | inr le ↦
            let same : last ≡ from + n = omega (arith, le, lt) in
            by_last n true (subst (λ turn. p turn ≡ true) same here) ∙ ap (λ turn. Some turn) (sym same)
      ]

  -- and the other way round
  by_test : {P : Type 0} (n : ℕ) → (p (from + n) ≡ true → P) → (p (from + n) ≡ false → P) → P
  by_test {P} n holds fails = by (p (from + n)) refl
    where
      by : (c : Bool) → p (from + n) ≡ c → P
      by true e = holds e
      by false e = fails e

  pub none_of : (n : ℕ) → last_of p from n ≡ None → (turn : ℕ) → from ≤ turn → turn < from + n → p turn ≡ false
  unfolding last_of
  none_of zero is turn a b = absurd (omega (arith, a, b))
  none_of (suc n) is turn a b =
      by_test n (λ e. absurd (none-some (from + n) (sym is ∙ by_last n true e)))
      (λ e. elim (cases_lt turn (from + n)) [
        | inl before ↦ none_of n (sym (by_last n false e) ∙ is) turn a before
        | inr le ↦ let same : from + n ≡ turn = omega (arith, le, b) in subst (λ m. p m ≡ false) same e
      ])

  pub record IsLast (n last : ℕ) : Type 0 where
    pub later : from ≤ last
    pub before : last < from + n
    pub here : p last ≡ true
    pub none : (turn : ℕ) → last < turn → turn < from + n → p turn ≡ false

  pub last_is : (n last : ℕ) → last_of p from n ≡ Some last → IsLast n last
  unfolding last_of
  last_is zero last is = absurd (none-some last is)
  last_is (suc n) last is =
      by_test n
      (λ e.
      let same : from + n ≡ last = some_same (from + n) last (sym (by_last n true e) ∙ is) in
      record { later = omega arith; before = omega arith; here = subst (λ turn. p turn ≡ true) same e; none = λ turn a b. absurd (omega (arith, a, b, same)) })
      (λ e.
      let h = last_is n last (sym (by_last n false e) ∙ is) in
      record {
        later = h.later;
        before = omega (arith, h.before);
        here = h.here;
        none = λ turn a b. elim (cases_lt turn (from + n)) [
          | inl before ↦ h.none turn a before
          | inr le ↦ let same : from + n ≡ turn = omega (arith, le, b) in subst (λ m. p m ≡ false) same e
        ];
      })

  -- with more turns, of none of which it holds, the last is the same
  pub same_last : (n m : ℕ) → n ≤ m → ((turn : ℕ) → from + n ≤ turn → turn < from + m → p turn ≡ false) → last_of p from m ≡ last_of p from n
  same_last n m le more = by (last_of p from n) refl
    where
      by : (o : Option ℕ) → last_of p from n ≡ o → last_of p from m ≡ last_of p from n
      by None is = none_last m (λ turn a b. elim (cases_lt turn (from + n)) [ inl before ↦ none_of n is turn a before | inr after ↦ more turn after b ]) ∙ sym is
      by (Some last) is =
          let h = last_is n last is in
          is_last m last h.later (omega (arith, h.before, le)) h.here (λ turn a b. elim (cases_lt turn (from + n)) [ inl before ↦ h.none turn a before | inr after ↦ more turn after b ]) ∙ sym is
