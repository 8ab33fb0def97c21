-- Following marks one by one finds exactly what is known.
use Rattle.std.proofs.Common.{◌≡◌, ◌⊎◌, inl, inr, ◌<◌, ◌+◌, ℕ, Bool, true, false, List, [], length, Option, Some, None, refl, sym, ap, subst, ◌∙◌, arith}
use Rattle.std.specs.Prelude.{Contains}
use Rattle.std.proofs.lemmas.Bool.{false≢true, cases_eq}
use Rattle.mem_banks.specs.Memory.{Memory}
use Rattle.task_table.specs.model.State.{Setup}
use Rattle.run_cover.specs.declared.counts.Count.{Count}
use Rattle.run_cover.specs.declared.known.Marks.{Marks}
use Rattle.run_cover.specs.Known.{is_code, birth_pc, IsEntry, Leads, Known, Executed, Begins, Led, IsKnown, HasBegun, HaveBegun, HaveEntered, HasLed, HasFollowed}
use Rattle.run_cover.specs.Marked.{known_of, AreMarks, IsDone, IsTaken, IsUnmarked}
use Rattle.run_cover.specs.Places.{address_of, place_of}
use Rattle.run_cover.specs.Ways.{ways_at}
use Rattle.run_cover.proofs.Numbered.{numbered}
use Rattle.run_cover.proofs.Counting.{some_number}
use Rattle.run_cover.proofs.Marking.{grows_none, grows_more, same_known}

module _ (g : Setup) (m : Memory) (c : ℕ → Count) where
  -- what is known so far is, and what it leads to is known too, or its ways are still to be followed
  pub record IsOnTheWay (t : Marks) : Type 0 where
    pub sound : (a : ℕ) → known_of t a ≡ true → Known g m c a
    pub begun : (a : ℕ) → 0 < (c a).executed → known_of t a ≡ true
    pub entered : (a : ℕ) → IsEntry g a → is_code g m a ≡ true → known_of t a ≡ true
    pub closed : (a b : ℕ) → known_of t a ≡ true → Leads m c a b → is_code g m b ≡ true → Contains t.todo.items a ⊎ (known_of t b ≡ true)

  -- so it is once all entries of tasks are known
  pub begin : (t u : Marks) → HaveBegun c t → HaveEntered g m (length g.tasks) t u → IsOnTheWay u
  begin t u h e = record {
    sound = λ a is. elim (e.grows.fresh a is) [
      | inl old ↦ Executed (h.sound a old)
      | inr new ↦ Begins new.0.0 new.0.1
    ];
    begun = λ a more. e.grows.keeps a (h.all a more);
    entered = λ a is code. subst (λ (b : ℕ). known_of u b ≡ true) is.2 (e.done is.0 is.1 (subst (λ (b : ℕ). is_code g m b ≡ true) (sym is.2) code));
    closed = λ a b is leads code. elim (e.grows.fresh a is) [
      | inl old ↦ inl (e.grows.listed a (h.listed a old))
      | inr new ↦ inl new.1
    ];
  }

  -- the ways of one that was taken from the list are followed
  pub go_on : (t u v : Marks) (a : ℕ) → IsOnTheWay t → IsTaken t a u → HasFollowed g m c a u v → IsOnTheWay v
  go_on t u v a w taken f =
      let before : (b : ℕ) → known_of u b ≡ known_of t b = λ b. same_known t u b taken.known in
      let keeps : (b : ℕ) → known_of t b ≡ true → known_of v b ≡ true = λ b is. f.grows.keeps b (before b ∙ is) in
      record {
        sound = λ b is. elim (f.grows.fresh b is) [
          | inl old ↦ w.sound b (sym (before b) ∙ old)
          | inr new ↦ Led (w.sound a taken.place) new.0.0 new.0.1
        ];
        begun = λ b e. keeps b (w.begun b e);
        entered = λ b is code. keeps b (w.entered b is code);
        closed = λ b d is leads code. elim (f.grows.fresh b is) [
          | inl old ↦ elim (w.closed b d (sym (before b) ∙ old) leads code) [
            | inl waits ↦ elim (taken.others b waits) [
              | inl still ↦ inl (f.grows.listed b still)
              | inr e ↦ inr (f.done d (subst (λ (n : ℕ). Leads m c n d) e leads) code)
            ]
            | inr there ↦ inr (keeps d there)
          ]
          | inr new ↦ inl new.1
        ];
      }

  nothing_listed : (xs : List ℕ) (a : ℕ) → xs ≡ [] → Contains xs a → ⊥
  nothing_listed xs a e h = let none : length xs ≡ 0 = ap length e in omega (arith, none, h.1)

  pub arrive : (t u : Marks) → IsOnTheWay t → IsDone t u → IsKnown g m c (known_of u)
  arrive t u w done =
      record { sound = λ a is. w.sound a (sym (same_known t u a done.known) ∙ is); complete = all }
    where
      all : (a : ℕ) → Known g m c a → known_of u a ≡ true
      all a (Executed e) = same_known t u a done.known ∙ w.begun a e
      all a (Begins is code) = same_known t u a done.known ∙ w.entered a is code
      all b (Led {a} known leads code) = elim (w.closed a b (sym (same_known t u a done.known) ∙ all a known) leads code) [
        | inl waits ↦ absurd (nothing_listed t.todo.items a done.todo waits)
        | inr there ↦ same_known t u b done.known ∙ there
      ]

  -- ## the ways of one instruction

  pub follow_none : (a : ℕ) (t : Marks) → ((b : ℕ) → Leads m c a b → ⊥) → HasFollowed g m c a t t
  follow_none a t none = record { grows = grows_none _ t; done = λ b leads code. absurd (none b leads) }

  pub follow_both : (a : ℕ) (t u v : Marks) → ((b : ℕ) → ((ways_at m a).behind ≡ Some b) ⊎ ((ways_at m a).target ≡ Some b) → Leads m c a b) →
      HasLed g m (ways_at m a).behind t u → HasLed g m (ways_at m a).target u v → HasFollowed g m c a t v
  follow_both a t u v leads first second = record {
    grows = grows_more _ _ _ t u v (λ b p. (leads b (inl p.0), p.1)) (λ b p. (leads b (inr p.0), p.1)) first.grows second.grows;
    done = λ b l code. elim l.way [
      | inl behind ↦ second.grows.keeps b (first.done b behind code)
      | inr target ↦ second.done b target code
    ];
  }

-- ## the entries of tasks, one by one

below_or_same : (k n : ℕ) → k < n + 1 → (k ≡ n → ⊥) → k < n
below_or_same k n lt other = omega (arith, lt, other)

module _ (g : Setup) (m : Memory) where
  pub entered_none : (t : Marks) → HaveEntered g m 0 t t
  entered_none t = record { grows = grows_none _ t; done = λ i lt code. absurd (omega (arith, lt)) }

  pub entered_more : (n : ℕ) (t u v : Marks) → n < length g.tasks → HaveEntered g m n t u → HasLed g m (Some (birth_pc g n)) u v → HaveEntered g m (n + 1) t v
  entered_more n t u v inside h one = record {
    grows = grows_more _ _ _ t u v (λ b p. p) (λ b p. ((n, inside, some_number _ _ p.0), p.1)) h.grows one.grows;
    done = λ i lt code. elim (cases_eq i n) [
      | inl same ↦ subst (λ (k : ℕ). known_of v (birth_pc g k) ≡ true) (sym same) (one.done (birth_pc g n) refl (subst (λ (k : ℕ). is_code g m (birth_pc g k) ≡ true) same code))
      | inr other ↦ one.grows.keeps (birth_pc g i) (h.done i (below_or_same i n lt other) code)
    ];
  }

-- ## what was executed, place by place

-- (n: so many places were looked at)
pub record HaveBegunTo (c : ℕ → Count) (t : Marks) (n : ℕ) : Type 0 where
  pub marks : AreMarks t
  pub sound : (a : ℕ) → known_of t a ≡ true → 0 < (c a).executed
  pub listed : (a : ℕ) → known_of t a ≡ true → Contains t.todo.items a
  pub all : (k : ℕ) → k < n → 0 < (c (address_of k)).executed → known_of t (address_of k) ≡ true

pub begun_none : (c : ℕ → Count) (t : Marks) → IsUnmarked t → HaveBegunTo c t 0
begun_none c t h = record {
  marks = h.marks;
  sound = λ a is. absurd (false≢true (sym (h.none a) ∙ is));
  listed = λ a is. absurd (false≢true (sym (h.none a) ∙ is));
  all = λ k lt e. absurd (omega (arith, lt));
}

pub begun_more : (c : ℕ → Count) (t u : Marks) (n : ℕ) → HaveBegunTo c t n → HasBegun c t (address_of n) u → HaveBegunTo c u (n + 1)
begun_more c t u n h one = record {
  marks = one.marks;
  sound = λ a is. elim (one.grows.fresh a is) [
    | inl old ↦ h.sound a old
    | inr new ↦ subst (λ (b : ℕ). 0 < (c b).executed) (sym new.0.0) new.0.1
  ];
  listed = λ a is. elim (one.grows.fresh a is) [
    | inl old ↦ one.grows.listed a (h.listed a old)
    | inr new ↦ new.1
  ];
  all = λ k lt e. elim (cases_eq k n) [
    | inl same ↦ subst (λ (j : ℕ). known_of u (address_of j) ≡ true) (sym same) (one.done (subst (λ (j : ℕ). 0 < (c (address_of j)).executed) same e))
    | inr other ↦ one.grows.keeps (address_of k) (h.all k (below_or_same k n lt other) e)
  ];
}

-- where what is no place was not executed
pub begun_all : (c : ℕ → Count) (t : Marks) → ((a : ℕ) → place_of a ≡ None → (c a).executed ≡ 0) → HaveBegunTo c t 655360 → HaveBegun c t
begun_all c t none h = record { marks = h.marks; sound = h.sound; listed = h.listed; all = λ a e. there a (place_of a) refl e }
  where
    there : (a : ℕ) (o : Option ℕ) → place_of a ≡ o → 0 < (c a).executed → known_of t a ≡ true
    there a None e more = let zero = none a e in absurd (omega (arith, zero, more))
    there a (Some k) e more =
        let n = numbered a k e in
        subst (λ (b : ℕ). known_of t b ≡ true) n.back (h.all k n.few (subst (λ (b : ℕ). 0 < (c b).executed) (sym n.back) more))

-- ## at most one test is true just of what is known

same_test : (x y : Bool) → (x ≡ true → y ≡ true) → (y ≡ true → x ≡ true) → x ≡ y
same_test true y there back = sym (there refl)
same_test false true there back = back refl
same_test false false there back = refl

pub one_known : (g : Setup) (m : Memory) (c : ℕ → Count) (k l : ℕ → Bool) → IsKnown g m c k → IsKnown g m c l → k ≡ l
one_known g m c k l p q = λ i a. same_test (k a) (l a) (λ e. q.complete a (p.sound a e)) (λ e. p.complete a (q.sound a e)) i
