-- The order of tasks as it is made.
use Rattle.std.proofs.Common.{◌≡◌, ◌∙◌, ◌+◌, ◌*◌, ◌%◌, ◌<◌, ◌≤◌, ℕ, zero, suc, false, List, [], ◌∷◌, ◌++◌, length, map, take, get_or, set, refl, sym, subst, ap, arith, inl, inr}
use Rattle.std.specs.Prelude.{All, Contains}
use Rattle.std.specs.List.{sum_by}
use Rattle.std.specs.List.Sorted.{IsPermutation, IsSorted}
use Rattle.std.specs.Ordering.{nat_cmp, is_lt}
use Rattle.std.proofs.lemmas.Bool.{cases_lt}
use Rattle.std.proofs.lemmas.Bool.Decides.{nat_tests}
use Rattle.std.proofs.lemmas.Cmp.{nat_cmp_total}
use Rattle.std.proofs.lemmas.Grind.{get_or-set_at}
use Rattle.std.proofs.lemmas.List.{length-map, length-take-le, get_or_default, get_or-set_other, get_or-take}
use Rattle.std.proofs.lemmas.List.Sums.{sum_by-cons, sum_by_more_le, get_or-le-sum_by}
use Rattle.std.proofs.lemmas.List.Sorted.{All-permutation, Contains-permutation, length_permutation, sum_by-IsPermutation, sorted_far, ranks_by}
use Rattle.task_table.specs.kept.Parts.{task_setup}
use Rattle.task_table.specs.kept.Order.{AreOnce, AreOrdered, ArePlaces, HavePlaces, is_of, key_in, keyed, place_in, priorities_of, priority_at}
use Rattle.task_table.specs.declared.start.TaskStart.{TaskStart}

-- ## the keys by index

pub keyed_length : (k : ℕ) (ps : List ℕ) → length (keyed k ps) ≡ length ps
keyed_length k [] = refl
keyed_length k (p ∷ ps) = omega (arith, keyed_length (k + 1) ps)

pub keyed_push : (k : ℕ) (ps : List ℕ) (p : ℕ) → keyed k (ps ++ p ∷ []) ≡ keyed k ps ++ (1024 * p + (k + length ps)) ∷ []
keyed_push k [] p = let e : k ≡ k + 0 = omega arith in ap (λ (i : ℕ). (1024 * p + i) ∷ []) e
keyed_push k (x ∷ ps) p =
    let e : (k + 1) + length ps ≡ k + length (x ∷ ps) = omega arith in
    ap (λ (ks : List ℕ). (1024 * x + k) ∷ ks) (keyed_push (k + 1) ps p ∙ ap (λ (i : ℕ). keyed (k + 1) ps ++ (1024 * p + i) ∷ []) e)

keyed_at : (k : ℕ) (ps : List ℕ) (i d : ℕ) → i < length ps → get_or (keyed k ps) i d ≡ 1024 * priority_at ps i + (k + i)
keyed_at k [] i d lt = absurd (omega arith)
keyed_at k (p ∷ ps) zero d lt = let e : k ≡ k + 0 = omega arith in ap (λ (n : ℕ). 1024 * p + n) e
keyed_at k (p ∷ ps) (suc i) d lt = let e : (k + 1) + i ≡ k + suc i = omega arith in keyed_at (k + 1) ps i d (omega (arith, lt)) ∙ ap (λ (n : ℕ). 1024 * priority_at ps i + n) e

-- ## each task has one key

at_itself : (task key : ℕ) → key % 1024 ≡ task → is_of task key ≡ 1
at_itself task key e = grind (arith, nat_tests)

not_itself : (task key : ℕ) → (key % 1024 ≡ task → ⊥) → is_of task key ≡ 0
not_itself task key other = grind (arith, nat_tests)

at_most_one : (task key : ℕ) → is_of task key ≤ 1
at_most_one task key = grind (arith, nat_tests)

none_below : (task k : ℕ) (ps : List ℕ) → task < k → k + length ps ≤ 1024 → sum_by (is_of task) (keyed k ps) ≡ 0
none_below task k [] lt few = refl
none_below task k (p ∷ ps) lt few =
    let here : is_of task (1024 * p + k) ≡ 0 = not_itself task (1024 * p + k) (λ e. absurd (omega (arith, e, lt, few))) in
    omega (arith, here, sum_by-cons (is_of task) (1024 * p + k) (keyed (k + 1) ps), none_below task (k + 1) ps (omega (arith, lt)) (omega (arith, few)))

once_keyed : (k : ℕ) (ps : List ℕ) → k + length ps ≤ 1024 → AreOnce (keyed k ps)
once_keyed k [] few task = omega arith
once_keyed k (p ∷ ps) few task = elim (cases_lt task (k + 1)) [
  | inl low ↦ omega (arith, sum_by-cons (is_of task) (1024 * p + k) (keyed (k + 1) ps), none_below task (k + 1) ps low (omega (arith, few)), at_most_one task (1024 * p + k))
  | inr high ↦
      let other : is_of task (1024 * p + k) ≡ 0 = not_itself task (1024 * p + k) (λ e. absurd (omega (arith, e, high, few))) in
      omega (arith, sum_by-cons (is_of task) (1024 * p + k) (keyed (k + 1) ps), other, once_keyed (k + 1) ps (omega (arith, few)) task)
]

-- ## the keys in order

pub once_in : (ps keys : List ℕ) → length ps ≤ 1024 → IsPermutation (keyed 0 ps) keys → AreOnce keys
once_in ps keys few same task = omega (arith, sum_by-IsPermutation (is_of task) (keyed 0 ps) keys same, once_keyed 0 ps (omega (arith, few)) task)

-- of two places the task is another
differ : (keys : List ℕ) → AreOnce keys → (j k : ℕ) → j < k → k < length keys → key_in keys j % 1024 ≡ key_in keys k % 1024 → ⊥
differ keys once j k lt below same =
    let m = key_in keys k % 1024 in
    let here : is_of m (key_in keys k) ≡ 1 = at_itself m (key_in keys k) refl in
    let there : is_of m (key_in keys j) ≡ 1 = at_itself m (key_in keys j) same in
    let more = sum_by_more_le (is_of m) keys k 0 below in
    let long : length (take k keys) ≡ k = length-take-le k keys (omega (arith, below)) in
    let part : is_of m (get_or (take k keys) j 0) ≤ sum_by (is_of m) (take k keys) = get_or-le-sum_by (is_of m) (take k keys) j 0 (omega (arith, long, lt)) in
    let same_item : is_of m (get_or (take k keys) j 0) ≡ is_of m (key_in keys j) = ap (is_of m) (get_or-take k keys j 0 lt) in
    absurd (omega (arith, here, there, more, part, same_item, once m))

-- a key is of a task, and tells its priority number
abbrev pub IsKey : List ℕ → ℕ → Type 0
IsKey ps key = (key % 1024 < length ps) × (key ≡ 1024 * priority_at ps (key % 1024) + key % 1024)

each_keyed : (ps : List ℕ) → length ps ≤ 1024 → All (IsKey ps) (keyed 0 ps)
each_keyed ps few i d lt =
    let below : i < length ps = omega (arith, lt, keyed_length 0 ps) in
    let is : get_or (keyed 0 ps) i d ≡ 1024 * priority_at ps i + i = keyed_at 0 ps i d below ∙ (let e : 0 + i ≡ i = omega arith in ap (λ (n : ℕ). 1024 * priority_at ps i + n) e) in
    let task : (1024 * priority_at ps i + i) % 1024 ≡ i = omega (arith, below, few) in
    subst (IsKey ps) (sym is) (omega (arith, task, below), ap (λ (n : ℕ). 1024 * priority_at ps n + n) (sym task))

pub keys_fit : (ps keys : List ℕ) → length ps ≤ 1024 → IsPermutation (keyed 0 ps) keys → (length keys ≡ length ps) × All (IsKey ps) keys
keys_fit ps keys few same = (length_permutation (keyed 0 ps) keys same ∙ keyed_length 0 ps, All-permutation (IsKey ps) (keyed 0 ps) keys same (each_keyed ps few))

-- ## places

pub placed_more : (keys places : List ℕ) (n : ℕ) → n < length keys → AreOnce keys → key_in keys n % 1024 < length places → HavePlaces keys n places → HavePlaces keys (n + 1) (set places (key_in keys n % 1024) n)
placed_more keys places n below once inside h p lt = elim (cases_lt p n) [
  | inl earlier ↦ get_or-set_other places (key_in keys n % 1024) (key_in keys p % 1024) n 0 (λ same. differ keys once p n earlier below same) ∙ h p earlier
  | inr later ↦
      let at : p ≡ n = omega (arith, later, lt) in
      get_or-set_at places (key_in keys n % 1024) (key_in keys p % 1024) n 0 (ap (λ (q : ℕ). key_in keys q % 1024) at) inside ∙ sym at
]

-- ## the order

not_less : (x y : ℕ) → is_lt (nat_cmp y x) ≡ false → x ≤ y
not_less x y h = grind (arith, nat_tests)

rising_in : (ps keys : List ℕ) → AreOnce keys → IsSorted nat_cmp keys → (p q : ℕ) → p < q → q < length keys → key_in keys p < key_in keys q
rising_in ps keys once up p q lt below =
    let low = not_less (key_in keys p) (key_in keys q) (sorted_far _ (ranks_by nat_cmp_total (λ (o : ℕ). o)) keys up p q 0 (omega (arith, lt)) below) in
    elim (cases_lt (key_in keys p) (key_in keys q)) [
      | inl less ↦ less
      | inr ge ↦ absurd (differ keys once p q lt below (let same : key_in keys p ≡ key_in keys q = omega (arith, low, ge) in ap (λ (k : ℕ). k % 1024) same))
    ]

-- each task has a place
place_for : (ps keys : List ℕ) → length ps ≤ 1024 → IsPermutation (keyed 0 ps) keys → (i : ℕ) → i < length ps → (p : ℕ) × (p < length keys) × (key_in keys p ≡ 1024 * priority_at ps i + i)
place_for ps keys few same i below =
    let x = 1024 * priority_at ps i + i in
    let is : get_or (keyed 0 ps) i x ≡ x = keyed_at 0 ps i x below ∙ (let e : 0 + i ≡ i = omega arith in ap (λ (n : ℕ). 1024 * priority_at ps i + n) e) in
    let there : Contains keys x = Contains-permutation (keyed 0 ps) keys x same (i, omega (arith, below, keyed_length 0 ps), is) in
    (there.0, there.1, get_or_default keys there.0 0 x there.1 ∙ there.2)

pub ordered : (ps keys places : List ℕ) → length ps ≤ 1024 → IsPermutation (keyed 0 ps) keys → IsSorted nat_cmp keys → length places ≡ length keys → HavePlaces keys (length keys) places → AreOrdered ps keys places
ordered ps keys places few same up count at =
    let fit = keys_fit ps keys few same in
    let once = once_in ps keys few same in
    record {
      few = few;
      key_count = fit.0;
      place_count = count ∙ fit.0;
      inside = λ i below. let f = found i below in omega (arith, f.1, f.0.1, fit.0);
      key = λ i below. let f = found i below in ap (key_in keys) f.1 ∙ f.0.2;
      there = λ p below. (fit.1 p 0 (omega (arith, below, fit.0))).0;
      place = λ p below. at p (omega (arith, below, fit.0));
      rising = λ p q lt below. rising_in ps keys once up p q lt (omega (arith, below, fit.0));
    }
  where
    found : (i : ℕ) → i < length ps → (f : (p : ℕ) × (p < length keys) × (key_in keys p ≡ 1024 * priority_at ps i + i)) × (place_in places i ≡ f.0)
    found i below =
        let f = place_for ps keys few same i below in
        let task : key_in keys f.0 % 1024 ≡ i = omega (arith, f.2, below, few) in
        (f, ap (place_in places) (sym task) ∙ at f.0 f.1)

-- no two tasks have the same place
pub own_places : (ps keys places : List ℕ) (n : ℕ) → AreOrdered ps keys places → length ps ≡ n → ArePlaces n places
own_places ps keys places n h count = record {
  count = h.place_count ∙ count;
  below = λ i under. omega (arith, h.inside i (omega (arith, under, count)), count);
  apart = λ i j low high same.
      let mine = h.key i (omega (arith, low, count)) in
      let other = h.key j (omega (arith, high, count)) in
      omega (arith, mine, other, ap (key_in keys) same, low, high, count, h.few);
}

pub as_many_priorities : (tasks : List TaskStart) → length (priorities_of (map task_setup tasks)) ≡ length tasks
as_many_priorities tasks = length-map (map task_setup tasks) (λ x. x.priority) ∙ length-map tasks task_setup
