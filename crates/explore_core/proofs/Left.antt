-- The schedules that are left at a position.
use Rattle.std.proofs.Common.{◌≡◌, ◌∙◌, ℕ, zero, suc, ◌+◌, ◌-◌, ◌<◌, ◌≤◌, ◌⊎◌, inl, inr, Bool, true, false, cond, not, List, [], ◌∷◌, ◌++◌, length, map, filter, drop, get_or, get_or-set_other, Some, refl, sym, ap, subst, append_assoc, append-nil, arith}
use Rattle.std.specs.Prelude.{◌&&◌, nat_le, nat_lt, slice_get, slice_index_or, slice_set, Contains}
use Rattle.std.proofs.lemmas.Bool.{and_right, cases_lt, le-ltb, lt-ltb, true≢false}
use Rattle.std.proofs.lemmas.Option.{none-some}
use Rattle.std.proofs.lemmas.List.{drop_all, drop_more, get_or-map, length-map, map-append}
use Rattle.std.proofs.lemmas.List.Elements.{Contains-append_cases, Contains-append_left, Contains-append_right}
use Rattle.std.proofs.lemmas.Simd.{map-map}
use Rattle.run_script.specs.Scripts.{Listed}
use Rattle.run_question.specs.Reading.{choice_count}
use Rattle.explore_core.specs.declared.position.Position.{Position}
use Rattle.explore_core.specs.Answers.{Asking}
use Rattle.explore_core.specs.Exploring.{pending}
use Rattle.explore_core.specs.Schedules.{Arrival, Coming, Schedule, choices, comings}
use Rattle.explore_core.specs.Searching.{IsTooLate, fork_at, left_in, party_before, party_from, party_in, schedules_on, without_next}
use Rattle.explore_core.specs.Walked.{Course, Placed, begun_by, comings_in, courses, courses_in, end_of, may_come_in, placed, schedule_of}
use Rattle.explore_core.specs.Ways.{coming_of}
use Rattle.explore_core.proofs.Chosen.{choices_long, chosen_is}
use Rattle.explore_core.proofs.Onward.{begun_whole, passed_one}

-- ## where all choices are left

pub left_is_on : (a : Asking) (turn : ℕ) (came : Course) (passed rest : List Placed) → left_in a turn came passed rest 0 ≡ schedules_on a turn (record { came = came; passed = passed; rest = rest })
unfolding courses_in
left_is_on a turn came passed [] = refl
left_is_on a turn came passed (q ∷ rest) =
    let next = courses (end_of a.question.arrivals - (turn + 1)) (turn + 1) in
    sym (map-append (λ (more : Course). schedule_of a.question.arrivals (came ++ more)) (begun_by q.0 (comings_in q.1 turn) (courses_in next turn passed rest)) (courses_in next turn (passed ++ q ∷ []) rest))

-- ## arrivals by their places

-- two tests that say the same of the arrivals from a place on
same_filter : (f g : Placed → Bool) (arrivals : List Arrival) (from : ℕ) → ((k : ℕ) (x : Arrival) → from ≤ k → k < from + length arrivals → f (k, x) ≡ g (k, x)) → filter f (placed arrivals from) ≡ filter g (placed arrivals from)
same_filter f g [] from same = refl
same_filter f g (x ∷ rest) from same =
    let more = same_filter f g rest (from + 1) (λ k y low high. same k y (omega (arith, low)) (omega (arith, high))) in
    let first : f (from, x) ≡ g (from, x) = same from x (omega arith) (omega arith) in
    (λ i. cond (first i) ((from, x) ∷ more i) (more i))

none_passes : (f : Placed → Bool) (arrivals : List Arrival) (from : ℕ) → ((k : ℕ) (x : Arrival) → from ≤ k → k < from + length arrivals → f (k, x) ≡ false) → filter f (placed arrivals from) ≡ []
none_passes f [] from none = refl
none_passes f (x ∷ rest) from none =
    let more = none_passes f rest (from + 1) (λ k y low high. none k y (omega (arith, low)) (omega (arith, high))) in
    let first : f (from, x) ≡ false = none from x (omega arith) (omega arith) in
    (λ i. cond (first i) ((from, x) ∷ filter f (placed rest (from + 1))) (more i))

and_true : (b : Bool) → (b && true) ≡ b
and_true true = refl
and_true false = refl

and_false : (b : Bool) → (b && false) ≡ false
and_false b = and_right b false refl

-- the tests of those before a place and of those from it on
before_is : (pending : List Bool) (next k : ℕ) → k < next → (slice_index_or pending k false && nat_lt k next) ≡ slice_index_or pending k false
before_is pending next k lt = ap (λ b. slice_index_or pending k false && b) (lt-ltb k next lt) ∙ and_true (slice_index_or pending k false)

no_before : (pending : List Bool) (next k : ℕ) → next ≤ k → (slice_index_or pending k false && nat_lt k next) ≡ false
no_before pending next k le = ap (λ b. slice_index_or pending k false && b) (le-ltb k next le) ∙ and_false (slice_index_or pending k false)

from_is : (pending : List Bool) (next k : ℕ) → next ≤ k → (slice_index_or pending k false && not (nat_lt k next)) ≡ slice_index_or pending k false
from_is pending next k le = ap (λ b. slice_index_or pending k false && not b) (le-ltb k next le) ∙ and_true (slice_index_or pending k false)

no_from : (pending : List Bool) (next k : ℕ) → k < next → (slice_index_or pending k false && not (nat_lt k next)) ≡ false
no_from pending next k lt = ap (λ b. slice_index_or pending k false && not b) (lt-ltb k next lt) ∙ and_false (slice_index_or pending k false)

-- ## all of them, or none, are passed over

pub all_passed : (a : Asking) (at : Position) (came : Course) → length a.question.arrivals ≤ at.next → fork_at a at came ≡ record { came = came; passed = party_in a.question.arrivals at.pending; rest = [] }
all_passed a at came le =
    let passed : party_before a.question.arrivals at.pending at.next ≡ party_in a.question.arrivals at.pending =
    same_filter _ _ a.question.arrivals 0 (λ k x low high. before_is at.pending at.next k (omega (arith, high, le))) in
    let rest : party_from a.question.arrivals at.pending at.next ≡ [] =
    none_passes _ a.question.arrivals 0 (λ k x low high. no_from at.pending at.next k (omega (arith, high, le))) in
    (λ i. record { came = came; passed = passed i; rest = rest i })

pub none_passed : (a : Asking) (at : Position) (came : Course) → at.next ≡ 0 → fork_at a at came ≡ record { came = came; passed = []; rest = party_in a.question.arrivals at.pending }
none_passed a at came is =
    let passed : party_before a.question.arrivals at.pending at.next ≡ [] =
    none_passes _ a.question.arrivals 0 (λ k x low high. no_before at.pending at.next k (omega (arith, is))) in
    let rest : party_from a.question.arrivals at.pending at.next ≡ party_in a.question.arrivals at.pending =
    same_filter _ _ a.question.arrivals 0 (λ k x low high. from_is at.pending at.next k (omega (arith, is))) in
    (λ i. record { came = came; passed = passed i; rest = rest i })

-- ## those that are passed over and the others are all

module _ (pending : List Bool) (next : ℕ) where
  abbrev is_in : Placed → Bool
  is_in p = slice_index_or pending p.0 false

  abbrev is_before : Placed → Bool
  is_before p = slice_index_or pending p.0 false && nat_lt p.0 next

  abbrev is_from : Placed → Bool
  is_from p = slice_index_or pending p.0 false && not (nat_lt p.0 next)

  one_in_front : (b : Bool) (p : Placed) (xs ys all : List Placed) → xs ++ ys ≡ all → cond b (p ∷ xs) xs ++ ys ≡ cond b (p ∷ all) all
  one_in_front true p xs ys all e = ap (λ l. p ∷ l) e
  one_in_front false p xs ys all e = e

  cut : (arrivals : List Arrival) (from : ℕ) → filter is_before (placed arrivals from) ++ filter is_from (placed arrivals from) ≡ filter is_in (placed arrivals from)
  cut [] from = refl
  cut (x ∷ rest) from = go (cut rest (from + 1)) (cases_lt from next)
    where
      go : filter is_before (placed rest (from + 1)) ++ filter is_from (placed rest (from + 1)) ≡ filter is_in (placed rest (from + 1)) → (from < next) ⊎ (next ≤ from) →
          filter is_before (placed (x ∷ rest) from) ++ filter is_from (placed (x ∷ rest) from) ≡ filter is_in (placed (x ∷ rest) from)
      go more (inl lt) =
          let before : is_before (from, x) ≡ is_in (from, x) = before_is pending next from lt in
          let after : is_from (from, x) ≡ false = no_from pending next from lt in
          (λ i. cond (before i) ((from, x) ∷ filter is_before (placed rest (from + 1))) (filter is_before (placed rest (from + 1))) ++ cond (after i) ((from, x) ∷ filter is_from (placed rest (from + 1))) (filter is_from (placed rest (from + 1))))
          ∙ one_in_front (is_in (from, x)) (from, x) _ _ _ more
      go more (inr le) =
          let none : filter is_before (placed (x ∷ rest) from) ≡ [] = none_passes is_before (x ∷ rest) from (λ k y low high. no_before pending next k (omega (arith, low, le))) in
          let all : filter is_from (placed (x ∷ rest) from) ≡ filter is_in (placed (x ∷ rest) from) = same_filter is_from is_in (x ∷ rest) from (λ k y low high. from_is pending next k (omega (arith, low, le))) in
          (λ i. none i ++ all i)

pub pending_at : (a : Asking) (at : Position) (came : Course) → pending (fork_at a at came) ≡ party_in a.question.arrivals at.pending
pending_at a at came = cut at.pending at.next a.question.arrivals 0

-- ## the arrival at a place

set_false : (pending : List Bool) (place : ℕ) → slice_index_or (slice_set pending place false) place false ≡ false
set_false [] place = refl
set_false (b ∷ pending) zero = refl
set_false (b ∷ pending) (suc place) = set_false pending place

set_other : (pending : List Bool) (place k : ℕ) → (k ≡ place → ⊥) → slice_index_or (slice_set pending place false) k false ≡ slice_index_or pending k false
set_other pending place k other = get_or-set_other pending place k false false other

no_arrival : (k : ℕ) (a : Arrival) → slice_get [] k ≡ Some a → ⊥
no_arrival k a e = none-some a e

-- those from an arrival on, which is to come
pub from_here : (pending : List Bool) (arrivals : List Arrival) (from k next : ℕ) (a : Arrival) → from + k ≡ next → slice_get arrivals k ≡ Some a → slice_index_or pending next false ≡ true →
    filter (is_from pending next) (placed arrivals from) ≡ (next, a) ∷ filter (is_from pending (next + 1)) (placed arrivals from)
from_here pending [] from k next a e there is = absurd (no_arrival k a there)
from_here pending (x ∷ rest) from zero next a e there is =
    let here : from ≡ next = omega (arith, e) in
    let same : x ≡ a = cc in
    let now : is_from pending next (from, x) ≡ true = from_is pending next from (omega (arith, here)) ∙ ap (λ k. slice_index_or pending k false) here ∙ is in
    let later : is_from pending (next + 1) (from, x) ≡ false = no_from pending (next + 1) from (omega (arith, here)) in
    let more : filter (is_from pending next) (placed rest (from + 1)) ≡ filter (is_from pending (next + 1)) (placed rest (from + 1)) =
    same_filter _ _ rest (from + 1) (λ k y low high. from_is pending next k (omega (arith, low, here)) ∙ sym (from_is pending (next + 1) k (omega (arith, low, here)))) in
    let first : ◌≡◌ {A = Placed} (from, x) (next, a) = (λ i. (here i, same i)) in
    (λ i. cond (now i) ((from, x) ∷ filter (is_from pending next) (placed rest (from + 1))) (filter (is_from pending next) (placed rest (from + 1))))
    ∙ (λ i. first i ∷ more i)
    ∙ (λ i. (next, a) ∷ cond (sym later i) ((from, x) ∷ filter (is_from pending (next + 1)) (placed rest (from + 1))) (filter (is_from pending (next + 1)) (placed rest (from + 1))))
from_here pending (x ∷ rest) from (suc k) next a e there is =
    let more = from_here pending rest (from + 1) k next a (omega (arith, e)) there is in
    let now : is_from pending next (from, x) ≡ false = no_from pending next from (omega (arith, e)) in
    let later : is_from pending (next + 1) (from, x) ≡ false = no_from pending (next + 1) from (omega (arith, e)) in
    (λ i. cond (now i) ((from, x) ∷ filter (is_from pending next) (placed rest (from + 1))) (filter (is_from pending next) (placed rest (from + 1))))
    ∙ more
    ∙ (λ i. (next, a) ∷ cond (sym later i) ((from, x) ∷ filter (is_from pending (next + 1)) (placed rest (from + 1))) (filter (is_from pending (next + 1)) (placed rest (from + 1))))

-- and those before it, with it behind them
pub before_here : (pending : List Bool) (arrivals : List Arrival) (from k next : ℕ) (a : Arrival) → from + k ≡ next → slice_get arrivals k ≡ Some a → slice_index_or pending next false ≡ true →
    filter (is_before pending (next + 1)) (placed arrivals from) ≡ filter (is_before pending next) (placed arrivals from) ++ (next, a) ∷ []
before_here pending [] from k next a e there is = absurd (no_arrival k a there)
before_here pending (x ∷ rest) from zero next a e there is =
    let here : from ≡ next = omega (arith, e) in
    let same : x ≡ a = cc in
    let now : is_before pending (next + 1) (from, x) ≡ true = before_is pending (next + 1) from (omega (arith, here)) ∙ ap (λ k. slice_index_or pending k false) here ∙ is in
    let behind : filter (is_before pending (next + 1)) (placed rest (from + 1)) ≡ [] = none_passes (is_before pending (next + 1)) rest (from + 1) (λ k y low high. no_before pending (next + 1) k (omega (arith, low, here))) in
    let none : filter (is_before pending next) (placed (x ∷ rest) from) ≡ [] = none_passes (is_before pending next) (x ∷ rest) from (λ k y low high. no_before pending next k (omega (arith, low, here))) in
    let first : ◌≡◌ {A = Placed} (from, x) (next, a) = (λ i. (here i, same i)) in
    (λ i. cond (now i) ((from, x) ∷ filter (is_before pending (next + 1)) (placed rest (from + 1))) (filter (is_before pending (next + 1)) (placed rest (from + 1))))
    ∙ (λ i. first i ∷ behind i)
    ∙ (λ i. sym none i ++ (next, a) ∷ [])
before_here pending (x ∷ rest) from (suc k) next a e there is =
    let more = before_here pending rest (from + 1) k next a (omega (arith, e)) there is in
    let now : is_before pending (next + 1) (from, x) ≡ is_in pending next (from, x) = before_is pending (next + 1) from (omega (arith, e)) in
    let old : is_before pending next (from, x) ≡ is_in pending next (from, x) = before_is pending next from (omega (arith, e)) in
    let less = filter (is_before pending next) (placed rest (from + 1)) in
    (λ i. cond (now i) ((from, x) ∷ filter (is_before pending (next + 1)) (placed rest (from + 1))) (filter (is_before pending (next + 1)) (placed rest (from + 1))))
    ∙ sym (one_in_front pending next (is_in pending next (from, x)) (from, x) less ((next, a) ∷ []) _ (sym more))
    ∙ (λ i. cond (sym old i) ((from, x) ∷ less) less ++ (next, a) ∷ [])

-- a place that is not to come changes neither
pub same_before : (arrivals : List Arrival) (pending : List Bool) (next : ℕ) → slice_index_or pending next false ≡ false → party_before arrivals pending (next + 1) ≡ party_before arrivals pending next
same_before arrivals pending next absent = same_filter _ _ arrivals 0 (λ k x low high. go k (cases_lt k next))
  where
    at_it : (k : ℕ) → next ≤ k → (k < next + 1) ⊎ (next + 1 ≤ k) → (slice_index_or pending k false && nat_lt k (next + 1)) ≡ (slice_index_or pending k false && nat_lt k next)
    at_it k le (inl lt) =
        let here : k ≡ next = omega (arith, le, lt) in
        before_is pending (next + 1) k lt ∙ ap (λ j. slice_index_or pending j false) here ∙ absent ∙ sym (no_before pending next k le)
    at_it k le (inr more) = no_before pending (next + 1) k more ∙ sym (no_before pending next k le)

    go : (k : ℕ) → (k < next) ⊎ (next ≤ k) → (slice_index_or pending k false && nat_lt k (next + 1)) ≡ (slice_index_or pending k false && nat_lt k next)
    go k (inl lt) = before_is pending (next + 1) k (omega (arith, lt)) ∙ sym (before_is pending next k lt)
    go k (inr le) = at_it k le (cases_lt k (next + 1))

pub same_from : (arrivals : List Arrival) (pending : List Bool) (next : ℕ) → slice_index_or pending next false ≡ false → party_from arrivals pending (next + 1) ≡ party_from arrivals pending next
same_from arrivals pending next absent = same_filter _ _ arrivals 0 (λ k x low high. go k (cases_lt k next))
  where
    at_it : (k : ℕ) → next ≤ k → (k < next + 1) ⊎ (next + 1 ≤ k) → (slice_index_or pending k false && not (nat_lt k (next + 1))) ≡ (slice_index_or pending k false && not (nat_lt k next))
    at_it k le (inl lt) =
        let here : k ≡ next = omega (arith, le, lt) in
        no_from pending (next + 1) k lt ∙ sym (from_is pending next k le ∙ ap (λ j. slice_index_or pending j false) here ∙ absent)
    at_it k le (inr more) = from_is pending (next + 1) k more ∙ sym (from_is pending next k le)

    go : (k : ℕ) → (k < next) ⊎ (next ≤ k) → (slice_index_or pending k false && not (nat_lt k (next + 1))) ≡ (slice_index_or pending k false && not (nat_lt k next))
    go k (inl lt) = no_from pending (next + 1) k (omega (arith, lt)) ∙ sym (no_from pending next k lt)
    go k (inr le) = at_it k le (cases_lt k (next + 1))

-- without the arrival at a place, which is not behind the others
set_before : (arrivals : List Arrival) (pending : List Bool) (next : ℕ) → party_before arrivals pending next ≡ party_before arrivals (slice_set pending next false) (next + 1)
set_before arrivals pending next = same_filter _ _ arrivals 0 (λ k x low high. go x k (cases_lt k next))
  where
    at_it : (x : Arrival) (k : ℕ) → next ≤ k → (k < next + 1) ⊎ (next + 1 ≤ k) → is_before pending next (k, x) ≡ is_before (slice_set pending next false) (next + 1) (k, x)
    at_it x k le (inl lt) =
        let here : next ≡ k = omega (arith, le, lt) in
        no_before pending next k le ∙ sym (before_is (slice_set pending next false) (next + 1) k lt ∙ ap (λ j. slice_index_or (slice_set pending next false) j false) (sym here) ∙ set_false pending next)
    at_it x k le (inr more) = no_before pending next k le ∙ sym (no_before (slice_set pending next false) (next + 1) k more)

    go : (x : Arrival) (k : ℕ) → (k < next) ⊎ (next ≤ k) → is_before pending next (k, x) ≡ is_before (slice_set pending next false) (next + 1) (k, x)
    go x k (inl lt) = before_is pending next k lt ∙ sym (before_is (slice_set pending next false) (next + 1) k (omega (arith, lt)) ∙ set_other pending next k (λ e. omega (arith, e, lt)))
    go x k (inr le) = at_it x k le (cases_lt k (next + 1))

set_from : (arrivals : List Arrival) (pending : List Bool) (next : ℕ) → party_from arrivals pending (next + 1) ≡ party_from arrivals (slice_set pending next false) (next + 1)
set_from arrivals pending next = same_filter _ _ arrivals 0 (λ k x low high. go k (cases_lt k (next + 1)))
  where
    go : (k : ℕ) → (k < next + 1) ⊎ (next + 1 ≤ k) → (slice_index_or pending k false && not (nat_lt k (next + 1))) ≡ (slice_index_or (slice_set pending next false) k false && not (nat_lt k (next + 1)))
    go k (inl lt) = no_from pending (next + 1) k lt ∙ sym (no_from (slice_set pending next false) (next + 1) k lt)
    go k (inr le) = ap (λ b. b && not (nat_lt k (next + 1))) (sym (set_other pending next k (λ e. omega (arith, e, le))))

pub fork_next : (a : Asking) (at : Position) (came : Course) (arrival : Arrival) → slice_get a.question.arrivals at.next ≡ Some arrival → slice_index_or at.pending at.next false ≡ true → at.next < 8 →
    (party_from a.question.arrivals at.pending at.next ≡ (at.next, arrival) ∷ party_from a.question.arrivals (without_next at).pending (at.next + 1)) × (party_before a.question.arrivals at.pending at.next ≡ party_before a.question.arrivals (without_next at).pending (at.next + 1))
fork_next a at came arrival there is lt = (
  from_here at.pending a.question.arrivals 0 at.next at.next arrival (omega arith) there is ∙ ap (λ l. (at.next, arrival) ∷ l) (set_from a.question.arrivals at.pending at.next),
  set_before a.question.arrivals at.pending at.next,
)

-- one less is to come
less_by_one : (pending : List Bool) (arrivals : List Arrival) (from k place : ℕ) (a : Arrival) → from + k ≡ place → slice_get arrivals k ≡ Some a → slice_index_or pending place false ≡ true →
    length (filter (λ (p : Placed). slice_index_or (slice_set pending place false) p.0 false) (placed arrivals from)) + 1 ≡ length (filter (λ (p : Placed). slice_index_or pending p.0 false) (placed arrivals from))
less_by_one pending [] from k place a e there is = absurd (no_arrival k a there)
less_by_one pending (x ∷ rest) from zero place a e there is =
    let here : place ≡ from = omega (arith, e) in
    let now : slice_index_or pending from false ≡ true = ap (λ k. slice_index_or pending k false) (sym here) ∙ is in
    let later : slice_index_or (slice_set pending place false) from false ≡ false = ap (λ k. slice_index_or (slice_set pending place false) k false) (sym here) ∙ set_false pending place in
    let same : filter (λ (p : Placed). slice_index_or (slice_set pending place false) p.0 false) (placed rest (from + 1)) ≡ filter (λ (p : Placed). slice_index_or pending p.0 false) (placed rest (from + 1)) =
    same_filter _ _ rest (from + 1) (λ k y low high. set_other pending place k (λ same. omega (arith, same, low, here))) in
    let less = filter (λ (p : Placed). slice_index_or (slice_set pending place false) p.0 false) (placed rest (from + 1)) in
    let all = filter (λ (p : Placed). slice_index_or pending p.0 false) (placed rest (from + 1)) in
    let one : length less + 1 ≡ suc (length all) = omega (arith, ap length same) in
    (λ i. length (cond (later i) ((from, x) ∷ less) less) + 1) ∙ one ∙ (λ i. length (cond (sym now i) ((from, x) ∷ all) all))
less_by_one pending (x ∷ rest) from (suc k) place a e there is =
    let more = less_by_one pending rest (from + 1) k place a (omega (arith, e)) there is in
    let less = filter (λ (p : Placed). slice_index_or (slice_set pending place false) p.0 false) (placed rest (from + 1)) in
    let all = filter (λ (p : Placed). slice_index_or pending p.0 false) (placed rest (from + 1)) in
    let same : slice_index_or (slice_set pending place false) from false ≡ slice_index_or pending from false = set_other pending place from (λ same. omega (arith, same, e)) in
    (λ i. length (cond (same i) ((from, x) ∷ less) less) + 1) ∙ with_one (slice_index_or pending from false) less all more
  where
    with_one : (b : Bool) (less all : List Placed) → length less + 1 ≡ length all → length (cond b ((from, x) ∷ less) less) + 1 ≡ length (cond b ((from, x) ∷ all) all)
    with_one true less all e = omega (arith, e)
    with_one false less all e = e

pub party_less : (arrivals : List Arrival) (pending : List Bool) (place : ℕ) (arrival : Arrival) → slice_get arrivals place ≡ Some arrival → slice_index_or pending place false ≡ true → length (party_in arrivals (slice_set pending place false)) + 1 ≡ length (party_in arrivals pending)
party_less arrivals pending place arrival there is = less_by_one pending arrivals 0 place place arrival (omega arith) there is

-- ## a choice of the next arrival

choices_from : (q : Arrival) (turn choice : ℕ) → may_come_in q turn ≡ true → choice < choice_count q.offers →
    drop choice (comings_in q turn) ≡ coming_of q (record { turn = turn; choice = choice }) ∷ drop (choice + 1) (comings_in q turn)
choices_from q turn choice may lt =
    let one : Coming = coming_of q (record { turn = turn; choice = choice }) in
    let by : List Listed → Coming = λ events. record { turn = turn; events = events } in
    let all : comings_in q turn ≡ comings q turn = ap (λ b. cond b (comings q turn) []) may in
    let long : length (choices q.offers) ≡ choice_count q.offers = choices_long q.offers in
    let within : choice < length (choices q.offers) = omega (arith, lt, long) in
    let inside : choice < length (comings q turn) = omega (arith, within, length-map (choices q.offers) by) in
    let here : get_or (comings q turn) choice one ≡ one = get_or-map by (choices q.offers) choice [] one within ∙ ap by (sym (chosen_is q.offers choice lt)) in
    ap (drop choice) all ∙ drop_more (comings q turn) choice one inside ∙ (λ i. here i ∷ drop (choice + 1) (sym all i))

pub left_by_choice : (a : Asking) (turn : ℕ) (came : Course) (passed : List Placed) (q : Placed) (rest : List Placed) (choice : ℕ) → may_come_in q.1 turn ≡ true → choice < choice_count q.1.offers →
    left_in a turn came passed (q ∷ rest) choice ≡ left_in a turn (came ++ (q.0, coming_of q.1 (record { turn = turn; choice = choice })) ∷ []) passed rest 0 ++ left_in a turn came passed (q ∷ rest) (choice + 1)
left_by_choice a turn came passed q rest choice may lt =
    let whole : Course → Schedule = schedule_of a.question.arrivals in
    let on : Course → Schedule = λ more. whole (came ++ more) in
    let now = courses_in (courses (end_of a.question.arrivals - (turn + 1)) (turn + 1)) turn passed rest in
    let one : Coming = coming_of q.1 (record { turn = turn; choice = choice }) in
    let others = drop (choice + 1) (comings_in q.1 turn) in
    let later = schedules_on a turn (record { came = came; passed = passed ++ q ∷ []; rest = rest }) in
    let with_it : List Course = map (λ course. (q.0, one) ∷ course) now in
    let first : map on with_it ≡ left_in a turn (came ++ (q.0, one) ∷ []) passed rest 0 =
    map-map on (λ (course : Course). (q.0, one) ∷ course) now ∙ (λ i. map (begun_whole whole came (q.0, one) i) now) ∙ sym (left_is_on a turn (came ++ (q.0, one) ∷ []) passed rest) in
    ap (λ (cs : List Coming). map on (begun_by q.0 cs now) ++ later) (choices_from q.1 turn choice may lt)
    ∙ ap (λ (l : List Schedule). l ++ later) (map-append on with_it (begun_by q.0 others now))
    ∙ append_assoc (map on with_it) (map on (begun_by q.0 others now)) later
    ∙ ap (λ (l : List Schedule). l ++ (map on (begun_by q.0 others now) ++ later)) first

-- ## one that can come no more

pub choices_over : (q : Arrival) (turn choice : ℕ) → (may_come_in q turn ≡ false) ⊎ (choice_count q.offers ≤ choice) → drop choice (comings_in q turn) ≡ []
choices_over q turn choice over = go (may_come_in q turn) refl over
  where
    by : List Listed → Coming
    by events = record { turn = turn; events = events }

    go : (b : Bool) → may_come_in q turn ≡ b → (may_come_in q turn ≡ false) ⊎ (choice_count q.offers ≤ choice) → drop choice (cond b (comings q turn) []) ≡ []
    go false e over = drop_all choice [] (omega arith)
    go true e (inl not_now) = absurd (let h : true ≡ false = sym e ∙ not_now in true≢false h)
    go true e (inr le) = drop_all choice (comings q turn) (omega (arith, le, choices_long q.offers, length-map (choices q.offers) (λ events. by events)))

-- it is passed over
pub left_passed : (a : Asking) (turn : ℕ) (came : Course) (passed : List Placed) (q : Placed) (rest : List Placed) (choice : ℕ) → (may_come_in q.1 turn ≡ false) ⊎ (choice_count q.1.offers ≤ choice) →
    left_in a turn came passed (q ∷ rest) choice ≡ left_in a turn came (passed ++ q ∷ []) rest 0
left_passed a turn came passed q rest choice over =
    let now = courses_in (courses (end_of a.question.arrivals - (turn + 1)) (turn + 1)) turn passed rest in
    let later = schedules_on a turn (record { came = came; passed = passed ++ q ∷ []; rest = rest }) in
    ap (λ (cs : List Coming). map (λ more. schedule_of a.question.arrivals (came ++ more)) (begun_by q.0 cs now) ++ later) (choices_over q.1 turn choice over)
    ∙ sym (left_is_on a turn came (passed ++ q ∷ []) rest)

begun_of_none : (place : ℕ) (cs : List Coming) → begun_by place cs [] ≡ []
begun_of_none place [] = refl
begun_of_none place (c ∷ cs) = begun_of_none place cs

-- an arrival that stands among others is one of them, or it is the one between
one_between : (front : List Placed) (p : Placed) (back : List Placed) (one : Placed) → Contains (front ++ p ∷ back) one → (p ≡ one) ⊎ Contains (front ++ back) one
one_between front p back one h = go (Contains-append_cases front (p ∷ back) one h)
  where
    behind : Contains (p ∷ []) one ⊎ Contains back one → (p ≡ one) ⊎ Contains (front ++ back) one
    behind (inl (zero, lt, e)) = inl e
    behind (inl (suc k, lt, e)) = absurd (omega (arith, lt))
    behind (inr h) = inr (Contains-append_right front back one h)

    go : Contains front one ⊎ Contains (p ∷ back) one → (p ≡ one) ⊎ Contains (front ++ back) one
    go (inl h) = inr (Contains-append_left front back one h)
    go (inr h) = behind (Contains-append_cases (p ∷ []) back one h)

none_in_turn : (next : List Placed → List Course) (turn : ℕ) (one : Placed) → ((ps : List Placed) → Contains ps one → next ps ≡ []) → may_come_in one.1 turn ≡ false → (passed rest : List Placed) → Contains (passed ++ rest) one →
    courses_in next turn passed rest ≡ []
unfolding courses_in
none_in_turn next turn one none never passed [] h = none passed (subst (λ (l : List Placed). Contains l one) (append-nil passed) h)
none_in_turn next turn one none never passed (p ∷ rest) h =
    let moved : (passed ++ p ∷ []) ++ rest ≡ passed ++ p ∷ rest = append_assoc passed (p ∷ []) rest in
    let later : courses_in next turn (passed ++ p ∷ []) rest ≡ [] = none_in_turn next turn one none never (passed ++ p ∷ []) rest (subst (λ (l : List Placed). Contains l one) (sym moved) h) in
    go (λ has. none_in_turn next turn one none never passed rest has) (one_between passed p rest one h) later
  where
    go : (Contains (passed ++ rest) one → courses_in next turn passed rest ≡ []) → (p ≡ one) ⊎ Contains (passed ++ rest) one → courses_in next turn (passed ++ p ∷ []) rest ≡ [] → courses_in next turn passed (p ∷ rest) ≡ []
    go nothing (inl same) later = passed_one next turn passed p rest (subst (λ (q : Placed). may_come_in q.1 turn ≡ false) (sym same) never) ∙ later
    go nothing (inr has) later = (λ i. begun_by p.0 (comings_in p.1 turn) (nothing has i) ++ later i) ∙ ap (λ (l : List Course). l ++ []) (begun_of_none p.0 (comings_in p.1 turn))

may_not : (a : Arrival) (turn : ℕ) → a.below ≤ turn → may_come_in a turn ≡ false
may_not a turn le = and_right (nat_le a.first turn) (nat_lt turn a.below) (le-ltb turn a.below le)

none_on : (n turn : ℕ) (one : Placed) (ps : List Placed) → Contains ps one → one.1.below ≤ turn → courses n turn ps ≡ []
unfolding courses
none_on n turn one [] h le = absurd (let lt = h.1 in omega (arith, lt))
none_on zero turn one (p ∷ ps) h le = refl
none_on (suc n) turn one (p ∷ ps) h le = none_in_turn (courses n (turn + 1)) turn one (λ qs has. none_on n (turn + 1) one qs has (omega (arith, le))) (may_not one.1 turn le) [] (p ∷ ps) h

pub too_late_left : (a : Asking) (turn : ℕ) (came : Course) (ps : List Placed) (choice : ℕ) → IsTooLate turn ps → left_in a turn came ps [] choice ≡ []
unfolding courses_in
too_late_left a turn came ps choice late =
    ap (map (λ (more : Course). schedule_of a.question.arrivals (came ++ more))) (none_on (end_of a.question.arrivals - (turn + 1)) (turn + 1) late.one ps late.among late.late)
