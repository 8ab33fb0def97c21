-- A position whose next arrival does not come, or not in another choice.
use Rattle.std.proofs.Common.{◌≡◌, ◌∙◌, ℕ, zero, suc, ◌+◌, ◌-◌, ◌*◌, ◌<◌, ◌≤◌, ◌⊎◌, inl, inr, Bool, true, false, cond, List, [], ◌∷◌, length, map, filter, Some, refl, sym, ap, subst, arith}
use Rattle.std.specs.Prelude.{◌&&◌, nat_le, nat_lt, slice_get, slice_index_or, Contains}
use Rattle.std.specs.List.{All}
use Rattle.std.proofs.lemmas.Bool.{and_cases, and_left, cases_lt, ltb-false}
use Rattle.std.proofs.lemmas.Bool as bools
use Rattle.std.proofs.lemmas.Option.{none-some}
use Rattle.std.proofs.lemmas.List.{get_or_default, get_or-map, length-map}
use Rattle.std.proofs.lemmas.List.Elements.{All-cons, All-nil, Contains-append_right}
use Rattle.run_question.specs.declared.question.Arrival as code
use Rattle.run_question.specs.Questions.{arrival_data}
use Rattle.run_question.specs.Reading.{choice_count}
use Rattle.explore_core.specs.declared.position.Position.{Position}
use Rattle.explore_core.specs.Answers.{Asking}
use Rattle.explore_core.specs.Fine.{IsFineArrival}
use Rattle.explore_core.specs.Schedules.{Arrival}
use Rattle.explore_core.specs.Searching.{is_way, left_at, left_in, may_come_now, party_before, party_from, party_in, to_do}
use Rattle.explore_core.specs.Walked.{Course, Placed, may_come_in, placed}
use Rattle.explore_core.proofs.Left.{before_here, from_here, left_passed, same_before, same_from}

-- ## an arrival of the code

pub there_is : (xs : List code.Arrival) (k : ℕ) (x : code.Arrival) → k < length xs → x ≡ slice_index_or xs k x → slice_get (map arrival_data xs) k ≡ Some (arrival_data x)
there_is [] k x lt is = absurd (omega (arith, lt))
there_is (y ∷ xs) zero x lt is = ap (λ (z : code.Arrival). Some (arrival_data z)) (sym is)
there_is (y ∷ xs) (suc k) x lt is = there_is xs k x (omega (arith, lt)) is

pub is_there : (xs : List code.Arrival) (k : ℕ) (x : code.Arrival) (a : Arrival) → k < length xs → x ≡ slice_index_or xs k x → slice_get (map arrival_data xs) k ≡ Some a → arrival_data x ≡ a
is_there xs k x a lt is there = let one : Some (arrival_data x) ≡ Some a = sym (there_is xs k x lt is) ∙ there in cc

pub someone : (xs : List code.Arrival) (k : ℕ) → k < length xs → (x : code.Arrival) × (x ≡ slice_index_or xs k x)
someone [] k lt = absurd (omega (arith, lt))
someone (y ∷ xs) k lt = (slice_index_or (y ∷ xs) k y, get_or_default (y ∷ xs) k y (slice_index_or (y ∷ xs) k y) lt)

pub within : {X : Type 0} (xs : List X) (k : ℕ) (x : X) → slice_get xs k ≡ Some x → k < length xs
within [] k x e = absurd (none-some x e)
within (y ∷ xs) zero x e = omega arith
within (y ∷ xs) (suc k) x e = let more = within xs k x e in omega (arith, more)

pub inside : (xs : List code.Arrival) (k : ℕ) (a : Arrival) → slice_get (map arrival_data xs) k ≡ Some a → k < length xs
inside xs k a there = let lt = within (map arrival_data xs) k a there in omega (arith, lt, length-map xs arrival_data)

pub fine_there : (xs : List code.Arrival) (k : ℕ) (x : code.Arrival) → All IsFineArrival (map arrival_data xs) → k < length xs → x ≡ slice_index_or xs k x → IsFineArrival (arrival_data x)
fine_there xs k x fine lt is =
    subst IsFineArrival (get_or-map arrival_data xs k x (arrival_data x) lt ∙ ap arrival_data (sym is)) (fine k (arrival_data x) (omega (arith, lt, length-map xs arrival_data)))

-- ## whether it may come

pub way_there : (arrivals : List Arrival) (turn : ℕ) (at : Position) (x : Arrival) → slice_get arrivals at.next ≡ Some x →
    is_way arrivals turn at ≡ (slice_index_or at.pending at.next false && (may_come_in x turn && nat_lt at.choice (choice_count x.offers)))
way_there arrivals turn at x there = ap (λ o. slice_index_or at.pending at.next false && may_come_now turn at.choice o) there

pub both_then : (p m n : Bool) → (p && m) ≡ true → (p && (m && n)) ≡ n
both_then true true n e = refl
both_then true false n e = absurd (bools.false≢true e)
both_then false m n e = absurd (bools.false≢true e)

pub both_else : (p m n : Bool) → (p && m) ≡ false → (p && (m && n)) ≡ false
both_else true true n e = absurd (bools.true≢false e)
both_else true false n e = refl
both_else false m n e = refl

-- ## those that are to come

module _ (P : Placed → Type 0) (pending : List Bool) where
  all_from : (arrivals : List Arrival) (from : ℕ) → ((k : ℕ) (a : Arrival) → slice_get arrivals k ≡ Some a → slice_index_or pending (from + k) false ≡ true → P (from + k, a)) →
      All P (filter (λ (p : Placed). slice_index_or pending p.0 false) (placed arrivals from))
  all_from [] from each = All-nil P
  all_from (x ∷ rest) from each =
      let here : from + 0 ≡ from = omega arith in
      let first : slice_index_or pending from false ≡ true → P (from, x) =
      subst (λ (n : ℕ). slice_index_or pending n false ≡ true → P (n, x)) here (each 0 x refl) in
      kept (slice_index_or pending from false) refl first
      (all_from rest (from + 1) (λ k a there. let next : from + suc k ≡ from + 1 + k = omega arith in subst (λ (n : ℕ). slice_index_or pending n false ≡ true → P (n, a)) next (each (suc k) a there)))
    where
      kept : (b : Bool) → slice_index_or pending from false ≡ b → (slice_index_or pending from false ≡ true → P (from, x)) → All P (filter (λ (p : Placed). slice_index_or pending p.0 false) (placed rest (from + 1))) →
          All P (cond b ((from, x) ∷ filter (λ (p : Placed). slice_index_or pending p.0 false) (placed rest (from + 1))) (filter (λ (p : Placed). slice_index_or pending p.0 false) (placed rest (from + 1))))
      kept true e first more = All-cons P (from, x) _ (first e) more
      kept false e first more = more

  pub all_in_party : (arrivals : List Arrival) → ((k : ℕ) (a : Arrival) → slice_get arrivals k ≡ Some a → slice_index_or pending k false ≡ true → P (k, a)) → All P (party_in arrivals pending)
  all_in_party arrivals each = all_from arrivals 0 (λ k a there. let same : k ≡ 0 + k = omega arith in subst (λ (n : ℕ). slice_index_or pending n false ≡ true → P (n, a)) same (each k a there))

among_from : (pending : List Bool) (arrivals : List Arrival) (from k place : ℕ) (a : Arrival) → from + k ≡ place → slice_get arrivals k ≡ Some a → slice_index_or pending place false ≡ true →
    Contains (filter (λ (p : Placed). slice_index_or pending p.0 false) (placed arrivals from)) (place, a)
among_from pending [] from k place a e there is = absurd (none-some a there)
among_from pending (x ∷ rest) from zero place a e there is =
    let here : from ≡ place = omega (arith, e) in
    let same : x ≡ a = cc in
    let more = filter (λ (p : Placed). slice_index_or pending p.0 false) (placed rest (from + 1)) in
    let now : slice_index_or pending from false ≡ true = ap (λ k. slice_index_or pending k false) here ∙ is in
    let first : ◌≡◌ {A = Placed} (from, x) (place, a) = (λ i. (here i, same i)) in
    subst (λ (b : Bool). Contains (cond b ((from, x) ∷ more) more) (place, a)) (sym now) (0, omega arith, first)
among_from pending (x ∷ rest) from (suc k) place a e there is =
    behind (slice_index_or pending from false) (among_from pending rest (from + 1) k place a (omega (arith, e)) there is)
  where
    behind : (b : Bool) → Contains (filter (λ (p : Placed). slice_index_or pending p.0 false) (placed rest (from + 1))) (place, a) →
        Contains (cond b ((from, x) ∷ filter (λ (p : Placed). slice_index_or pending p.0 false) (placed rest (from + 1))) (filter (λ (p : Placed). slice_index_or pending p.0 false) (placed rest (from + 1)))) (place, a)
    behind true h = Contains-append_right ((from, x) ∷ []) _ (place, a) h
    behind false h = h

pub in_party : (arrivals : List Arrival) (pending : List Bool) (place : ℕ) (a : Arrival) → slice_get arrivals place ≡ Some a → slice_index_or pending place false ≡ true → Contains (party_in arrivals pending) (place, a)
in_party arrivals pending place a there is = among_from pending arrivals 0 place place a (omega arith) there is

pub not_yet : (a : Arrival) (t : ℕ) → t < a.first → may_come_in a t ≡ false
not_yet a t lt = and_left (nat_le a.first t) (nat_lt t a.below) (leb_no a.first t lt)
  where
    leb_no : (n m : ℕ) → m < n → nat_le n m ≡ false
    leb_no n m lt = go (nat_le n m) refl
      where
        go : (b : Bool) → nat_le n m ≡ b → b ≡ false
        go true e = let le = bools.leb-true n m e in absurd (omega (arith, le, lt))
        go false e = refl

-- ## the next one is passed over

pub record IsPassedOn (arrivals : List Arrival) (turn : ℕ) (at later : Position) : Type 0 where
  pub pending : later.pending ≡ at.pending
  pub left : (a : Asking) → a.question.arrivals ≡ arrivals → (came : Course) → left_at a later came turn ≡ left_at a at came turn
  pub falls : (turns : ℕ) → to_do turns later ≤ to_do turns at

pub passed_itself : (arrivals : List Arrival) (turn : ℕ) (at : Position) → IsPassedOn arrivals turn at at
passed_itself arrivals turn at = record { pending = refl; left = λ a is came. refl; falls = λ turns. omega arith }

pub passed_then : (arrivals : List Arrival) (turn : ℕ) (at mid later : Position) → IsPassedOn arrivals turn at mid → IsPassedOn arrivals turn mid later → IsPassedOn arrivals turn at later
passed_then arrivals turn at mid later h k = record {
  pending = k.pending ∙ h.pending;
  left = λ a is came. k.left a is came ∙ h.left a is came;
  falls = λ turns. let first = h.falls turns in let second = k.falls turns in omega (arith, first, second);
}

fewer : (turns next choice other : ℕ) → next < 8 → ((turns * 9 + (8 - (next + 1))) * 1000000000000000001 + (1000000000000000000 - other)) ≤ ((turns * 9 + (8 - next)) * 1000000000000000001 + (1000000000000000000 - choice))
fewer turns next choice other lt =
    let one : 8 - next ≡ 8 - (next + 1) + 1 = omega (arith, lt) in
    omega (arith, one)

pub pass_absent : (arrivals : List Arrival) (turn : ℕ) (at : Position) → at.next < 8 → slice_index_or at.pending at.next false ≡ false → IsPassedOn arrivals turn at (record { pending = at.pending; next = at.next + 1; choice = at.choice })
pass_absent arrivals turn at lt absent = record {
  pending = refl;
  left = λ a is came. (λ i. left_in a turn came (same_before a.question.arrivals at.pending at.next absent i) (same_from a.question.arrivals at.pending at.next absent i) at.choice);
  falls = λ turns. fewer turns at.next at.choice at.choice lt;
}

not_in : (arrivals : List Arrival) (turn : ℕ) (at : Position) (x : Arrival) → slice_get arrivals at.next ≡ Some x → slice_index_or at.pending at.next false ≡ true → is_way arrivals turn at ≡ false →
    (may_come_in x turn ≡ false) ⊎ (choice_count x.offers ≤ at.choice)
not_in arrivals turn at x there is way =
    let now : (may_come_in x turn && nat_lt at.choice (choice_count x.offers)) ≡ false =
    ap (λ b. b && (may_come_in x turn && nat_lt at.choice (choice_count x.offers))) (sym is) ∙ sym (way_there arrivals turn at x there) ∙ way in
    go (and_cases (may_come_in x turn) (nat_lt at.choice (choice_count x.offers)) now)
  where
    go : (may_come_in x turn ≡ false) ⊎ (nat_lt at.choice (choice_count x.offers) ≡ false) → (may_come_in x turn ≡ false) ⊎ (choice_count x.offers ≤ at.choice)
    go (inl e) = inl e
    go (inr e) = inr (ltb-false at.choice (choice_count x.offers) e)

pub pass_present : (arrivals : List Arrival) (turn : ℕ) (at : Position) (x : Arrival) → at.next < 8 → slice_get arrivals at.next ≡ Some x → slice_index_or at.pending at.next false ≡ true → is_way arrivals turn at ≡ false →
    IsPassedOn arrivals turn at (record { pending = at.pending; next = at.next + 1; choice = 0 })
pass_present arrivals turn at x lt there is way = record {
  pending = refl;
  left = λ a same came.
      let here : slice_get a.question.arrivals at.next ≡ Some x = ap (λ (l : List Arrival). slice_get l at.next) same ∙ there in
      let q : Placed = (at.next, x) in
      let passed = party_before a.question.arrivals at.pending at.next in
      let rest = party_from a.question.arrivals at.pending (at.next + 1) in
      (λ i. left_in a turn came (before_here at.pending a.question.arrivals 0 at.next at.next x (omega arith) here is i) rest 0)
      ∙ sym (left_passed a turn came passed q rest at.choice (not_in arrivals turn at x there is way))
      ∙ (λ i. left_in a turn came passed (sym (from_here at.pending a.question.arrivals 0 at.next at.next x (omega arith) here is) i) at.choice);
  falls = λ turns. fewer turns at.next at.choice 0 lt;
}
