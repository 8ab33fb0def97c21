-- How marks grow.
use Rattle.std.proofs.Common.{◌≡◌, ◌⊎◌, inl, inr, ◌+◌, ◌<◌, ◌≤◌, ℕ, Bool, true, false, not, cond, List, [], ◌∷◌, ◌++◌, length, get_or, set, replicate, Option, Some, None, Vec, Global, refl, sym, ap, subst, ◌∙◌, arith}
use Rattle.std.specs.Prelude.{Contains, count_by, vec_capacity}
use Rattle.std.specs.Option.{option_to_list}
use Rattle.std.proofs.lemmas.List.{get_or-set_same, get_or-set_other, get_or-replicate, get_or_past, length-replicate, length-set, length_push, nil_from_length}
use Rattle.std.proofs.lemmas.List.Elements.{Contains-append_left, Contains-push, Contains-push_cases}
use Rattle.std.proofs.lemmas.List.Sums.{count_by-le-length, get_or-le-sum_by, sum_by-set}
use Rattle.std.proofs.lemmas.Bool.{cases_eq, false≢true}
use Rattle.run_cover.specs.declared.known.Marks.{Marks}
use Rattle.run_cover.specs.Marked.{mark_at, known_of, unknown, AreMarks, IsMarked, IsUnmarked, IsNext, Grows}
use Rattle.run_cover.specs.Places.{place_of}
use Rattle.run_cover.proofs.Numbered.{numbered, same_place}

abbrev one_unknown : Bool → ℕ
one_unknown b = cond (not b) 1 0

-- ## what a table says of an address

pub known_at : (t : Marks) (a k : ℕ) → place_of a ≡ Some k → known_of t a ≡ get_or t.known.items k false
unfolding known_of
known_at t a k e = ap (mark_at t) e

known_where : (t : Marks) (a : ℕ) (o : Option ℕ) → place_of a ≡ o → known_of t a ≡ true → (k : ℕ) × (place_of a ≡ Some k) × (get_or t.known.items k false ≡ true)
unfolding known_of
known_where t a None e h = absurd (false≢true (sym (ap (mark_at t) e) ∙ h))
known_where t a (Some k) e h = (k, e, sym (ap (mark_at t) e) ∙ h)

-- what is known is a place
pub known_place : (t : Marks) (a : ℕ) → known_of t a ≡ true → (k : ℕ) × (place_of a ≡ Some k) × (get_or t.known.items k false ≡ true)
known_place t a h = known_where t a (place_of a) refl h

pub same_known : (t u : Marks) (a : ℕ) → u.known.items ≡ t.known.items → known_of u a ≡ known_of t a
unfolding known_of
same_known t u a e = by_number (place_of a)
  where
    by_number : (o : Option ℕ) → mark_at u o ≡ mark_at t o
    by_number None = refl
    by_number (Some k) = ap (λ (bs : List Bool). get_or bs k false) e

-- ## one place more

-- (k: the number of a)
pub record IsSet (t : Marks) (a k : ℕ) (u : Marks) : Type 0 where
  pub place : place_of a ≡ Some k
  pub known : u.known.items ≡ set t.known.items k true
  pub todo : u.todo.items ≡ t.todo.items ++ a ∷ []
  pub room : vec_capacity u.todo ≡ vec_capacity t.todo

module _ (t u : Marks) (a k : ℕ) (are : AreMarks t) (new : known_of t a ≡ false) (h : IsSet t a k u) where
  inside : k < length t.known.items
  inside = let e = are.as_many in let n = (numbered a k h.place).few in omega (arith, e, n)

  set_here : known_of u a ≡ true
  set_here = known_at u a k h.place ∙ ap (λ (bs : List Bool). get_or bs k false) h.known ∙ get_or-set_same t.known.items k true false inside

  set_there : (j : ℕ) → (j ≡ k → ⊥) → get_or u.known.items j false ≡ get_or t.known.items j false
  set_there j other = ap (λ (bs : List Bool). get_or bs j false) h.known ∙ get_or-set_other t.known.items k j true false other

  set_others : (b : ℕ) → known_of u b ≡ true → (known_of t b ≡ true) ⊎ (b ≡ a)
  set_others b is =
      let p = known_place u b is in
      elim (cases_eq p.0 k) [
        | inl same ↦ inr (same_place b a k (p.1 ∙ ap (λ (n : ℕ). Some n) same) h.place)
        | inr other ↦ inl (known_at t b p.0 p.1 ∙ sym (set_there p.0 other) ∙ p.2)
      ]

  set_grows : (b : ℕ) → known_of t b ≡ true → known_of u b ≡ true
  set_grows b is =
      let p = known_place t b is in
      elim (cases_eq p.0 k) [
        | inl same ↦ let e : b ≡ a = same_place b a k (p.1 ∙ ap (λ (n : ℕ). Some n) same) h.place in ap (known_of u) e ∙ set_here
        | inr other ↦ known_at u b p.0 p.1 ∙ set_there p.0 other ∙ p.2
      ]

  fewer : unknown u + 1 ≡ unknown t
  fewer =
      let before : get_or t.known.items k false ≡ false = sym (known_at t a k h.place) ∙ new in
      let counted = sum_by-set (λ (b : Bool). cond (not b) 1 0) t.known.items k true false inside in
      let was = ap one_unknown before in
      let is : unknown u ≡ count_by not (set t.known.items k true) = ap (count_by not) h.known in
      omega (arith, counted, was, is)

  longer : length u.todo.items ≡ length t.todo.items + 1
  longer = ap length h.todo ∙ length_push t.todo.items a

pub marked : (t u : Marks) (a k : ℕ) → AreMarks t → known_of t a ≡ false → IsSet t a k u → IsMarked t a u
marked t u a k are new h =
    let fewer = fewer t u a k are new h in
    let longer = longer t u a k are new h in
    record {
      marks = record {
        as_many = ap length h.known ∙ length-set t.known.items k true ∙ are.as_many;
        room = let room = are.room in let same = h.room in omega (arith, room, same, fewer, longer);
        known = λ b c. elim (Contains-push_cases t.todo.items a b (subst (λ (xs : List ℕ). Contains xs b) h.todo c)) [
          | inl old ↦ set_grows t u a k are new h b (are.known b old)
          | inr e ↦ ap (known_of u) (sym e) ∙ set_here t u a k are new h
        ];
      };
      less = omega (arith, fewer, longer);
      known = set_here t u a k are new h;
      others = set_others t u a k are new h;
      grows = set_grows t u a k are new h;
      todo = h.todo;
    }

-- ## growing step by step

module _ (P : ℕ → Type 0) where
  pub grows_none : (t : Marks) → Grows t P t
  grows_none t = record { keeps = λ b is. is; listed = λ b c. c; fresh = λ b is. inl is }

  pub grows_one : (t u : Marks) (a : ℕ) → IsMarked t a u → P a → Grows t P u
  grows_one t u a h p = record {
    keeps = h.grows;
    listed = λ b c. subst (λ (xs : List ℕ). Contains xs b) (sym h.todo) (Contains-append_left t.todo.items (a ∷ []) b c);
    fresh = λ b is. elim (h.others b is) [
      | inl old ↦ inl old
      | inr e ↦ inr (subst P (sym e) p, subst (λ (xs : List ℕ). Contains xs b) (sym h.todo) (subst (Contains (t.todo.items ++ a ∷ [])) (sym e) (Contains-push t.todo.items a)))
    ];
  }

  pub grows_more : (Q R : ℕ → Type 0) (t u v : Marks) → ((b : ℕ) → P b → R b) → ((b : ℕ) → Q b → R b) → Grows t P u → Grows u Q v → Grows t R v
  grows_more Q R t u v p q g h = record {
    keeps = λ b is. h.keeps b (g.keeps b is);
    listed = λ b c. h.listed b (g.listed b c);
    fresh = λ b is. elim (h.fresh b is) [
      | inl old ↦ elim (g.fresh b old) [
        | inl older ↦ inl older
        | inr new ↦ inr (p b new.0, h.listed b new.1)
      ]
      | inr new ↦ inr (q b new.0, new.1)
    ];
  }

-- ## a table by its lists

pub known_none : (t : Marks) (a : ℕ) → place_of a ≡ None → known_of t a ≡ false
unfolding known_of
known_none t a e = ap (mark_at t) e

pub known_past : (t : Marks) (a k : ℕ) → place_of a ≡ Some k → length t.known.items ≤ k → known_of t a ≡ false
known_past t a k e past = known_at t a k e ∙ get_or_past t.known.items k false past

pub has_room : (t : Marks) (a k : ℕ) → AreMarks t → place_of a ≡ Some k → known_of t a ≡ false → length t.todo.items < vec_capacity t.todo
has_room t a k are e new =
    let lt = (numbered a k e).few in
    let many = are.as_many in
    let room = are.room in
    let one = get_or-le-sum_by (λ (b : Bool). cond (not b) 1 0) t.known.items k false (omega (arith, lt, many)) in
    let is = ap one_unknown (sym (known_at t a k e) ∙ new) in
    omega (arith, one, is, room)

pub unmarked : (known : Vec Bool Global) (todo : Vec ℕ Global) → known.items ≡ replicate 655360 false → todo.items ≡ [] → 655360 ≤ vec_capacity todo → IsUnmarked record { known = known; todo = todo }
unmarked known todo blank nothing room =
    let t : Marks = record { known = known; todo = todo } in
    let many : length known.items ≡ 655360 = ap length blank ∙ length-replicate 655360 false in
    let zero : length todo.items ≡ 0 = ap length nothing in
    let most = count_by-le-length not known.items in
    record {
      marks = record {
        as_many = many;
        room = omega (arith, many, zero, most, room);
        known = λ a h. let lt = h.1 in absurd (omega (arith, zero, lt));
      };
      none = λ a. none_at t a (place_of a) refl blank;
      todo = nothing;
    }
  where
    none_at : (t : Marks) (a : ℕ) (o : Option ℕ) → place_of a ≡ o → t.known.items ≡ replicate 655360 false → known_of t a ≡ false
    none_at t a None e blank = known_none t a e
    none_at t a (Some k) e blank = known_at t a k e ∙ ap (λ (bs : List Bool). get_or bs k false) blank ∙ get_or-replicate 655360 k false false (numbered a k e).few

-- the last of the list is taken
pub next_is : (t u : Marks) (o : Option ℕ) → AreMarks t → t.todo.items ≡ u.todo.items ++ option_to_list o → u.known.items ≡ t.known.items → vec_capacity u.todo ≡ vec_capacity t.todo → (o ≡ None → length t.todo.items ≡ 0) → IsNext t o u
next_is t u None are items known capacity none = record { todo = nil_from_length t.todo.items (none refl); known = known }
next_is t u (Some a) are items known capacity none =
    let more : length t.todo.items ≡ length u.todo.items + 1 = ap length items ∙ length_push u.todo.items a in
    let same : unknown u ≡ unknown t = ap (count_by not) known in
    let many = are.as_many in
    let room = are.room in
    record {
      marks = record {
        as_many = ap length known ∙ many;
        room = omega (arith, more, same, room, capacity);
        known = λ b h. same_known t u b known ∙ are.known b (subst (λ (xs : List ℕ). Contains xs b) (sym items) (Contains-append_left u.todo.items (a ∷ []) b h));
      };
      less = omega (arith, more, same);
      place = are.known a (subst (λ (xs : List ℕ). Contains xs a) (sym items) (Contains-push u.todo.items a));
      known = known;
      others = λ b h. elim (Contains-push_cases u.todo.items a b (subst (λ (xs : List ℕ). Contains xs b) items h)) [
        | inl still ↦ inl still
        | inr e ↦ inr (sym e)
      ];
    }
