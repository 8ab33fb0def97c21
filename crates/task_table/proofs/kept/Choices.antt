-- The first of a set of places in the order of tasks.
use Rattle.std.proofs.Common.{◌≡◌, ◌+◌, ◌-◌, ◌*◌, ◌/◌, ◌%◌, ◌<◌, ◌≤◌, inl, inr, ℕ, zero, suc, Bool, true, false, not, ◌||◌, List, [], ◌∷◌, ◌++◌, length, Option, Some, None, refl, sym, subst, ◌∙◌, ap, arith, leb}
use Rattle.std.specs.Prelude.{find}
use Rattle.std.specs.List.{range_with_len, list_all}
use Rattle.std.proofs.lemmas.Bool.{cases_lt, leb-true, le-leb, false≢true, cases_Bool, and_parts, and_from, false_from_ne_true}
use Rattle.std.proofs.lemmas.Bool.Decides.{eqb_tells}
use Rattle.task_table.specs.kept.TaskSets.{has, IsFirstFrom}
use Rattle.task_table.specs.model.Reading.{around}
use Rattle.task_table.specs.kept.Order.{AreOrdered, IsKeyFrom, IsKeyOf, IsPlaceOf, first_around, has_task, is_lowest, key_in, place_in, priority_at}
use Rattle.region_check.proofs.FirstBad.{find_range_none}

-- ## a search in the order

abbrev or_else : {X : Type 0} → Option X → Option X → Option X
or_else None b = b
or_else (Some x) b = Some x

pub find_append : {X : Type 0} (p : X → Bool) (xs ys : List X) → find p (xs ++ ys) ≡ or_else (find p xs) (find p ys)
find_append p [] ys = refl
find_append p (x ∷ xs) ys = elim (cases_Bool (p x)) [ inl t ↦ rw t | inr f ↦ simp f (find_append p xs ys) ]

find_first : (p : ℕ → Bool) (from n first : ℕ) → from ≤ first → first < from + n → p first ≡ true → ((i : ℕ) → from ≤ i → i < first → p i ≡ false) → find p (range_with_len from n) ≡ Some first
find_first p from zero first above below here before = absurd (omega (arith, above, below))
find_first p from (suc n) first above below here before = elim (cases_lt from first) [
  | inl lt ↦
      let none : p from ≡ false = before from (omega arith) lt in
      rw none (find_first p (from + 1) n first (omega (arith, lt)) (omega (arith, below)) here (λ i a b. before i (omega (arith, a)) b))
  | inr ge ↦ let same : from ≡ first = omega (arith, above, ge) in let now : p from ≡ true = ap p same ∙ here in rw now (ap Some same)
]

around_nothing : (p : ℕ → Bool) (n from : ℕ) → from ≤ n → ((i : ℕ) → i < n → p i ≡ false) → find p (around n from) ≡ None
around_nothing p n from inside h =
    find_append p (range_with_len from (n - from)) (range_with_len 0 from)
    ∙ ap (λ o. or_else o (find p (range_with_len 0 from))) (find_range_none p from (n - from) (λ i a b. h i (omega (arith, a, b, inside))))
    ∙ find_range_none p 0 from (λ i a b. h i (omega (arith, b, inside)))

-- the first from a task on
around_above : (p : ℕ → Bool) (n from first : ℕ) → from ≤ first → first < n → p first ≡ true → ((i : ℕ) → from ≤ i → i < first → p i ≡ false) → find p (around n from) ≡ Some first
around_above p n from first above inside here before =
    find_append p (range_with_len from (n - from)) (range_with_len 0 from)
    ∙ ap (λ o. or_else o (find p (range_with_len 0 from))) (find_first p from (n - from) first above (omega (arith, above, inside)) here before)

-- no task of the set from the task on: then the first of the whole set
around_below : (p : ℕ → Bool) (n from first : ℕ) → from ≤ n → first < n → p first ≡ true → ((i : ℕ) → i < first → p i ≡ false) → ((i : ℕ) → from ≤ i → i < n → p i ≡ false) → find p (around n from) ≡ Some first
around_below p n from first short inside here before none =
    find_append p (range_with_len from (n - from)) (range_with_len 0 from)
    ∙ ap (λ o. or_else o (find p (range_with_len 0 from))) (find_range_none p from (n - from) (λ i a b. none i a (omega (arith, a, b, short))))
    ∙ elim (cases_lt first from) [
      | inl lt ↦ find_first p 0 from first (omega arith) (omega (arith, lt)) here (λ i a b. before i b)
      | inr ge ↦ absurd (false≢true (sym (none first ge inside) ∙ here))
    ]

-- ## tests

passes : (a : Bool) (x y : ℕ) → (not a || leb x y) ≡ true → a ≡ true → x ≤ y
passes true x y h t = leb-true _ _ h
passes false x y h t = absurd (false≢true t)

pass : (a : Bool) (x y : ℕ) → (a ≡ true → x ≤ y) → (not a || leb x y) ≡ true
pass true x y h = le-leb _ _ (h refl)
pass false x y h = refl

all_at : (p : ℕ → Bool) (from n i : ℕ) → list_all p (range_with_len from n) ≡ true → from ≤ i → i < from + n → p i ≡ true
all_at p from zero i h a b = absurd (omega arith)
all_at p from (suc n) i h a b =
    let both = and_parts (p from) (list_all p (range_with_len (from + 1) n)) h in
    elim (cases_lt from i) [ inl lt ↦ all_at p (from + 1) n i both.1 (omega arith) (omega arith) | inr ge ↦ let same : i ≡ from = omega arith in rw same both.0 ]

all_by : (p : ℕ → Bool) (from n : ℕ) → ((i : ℕ) → from ≤ i → i < from + n → p i ≡ true) → list_all p (range_with_len from n) ≡ true
all_by p from zero h = refl
all_by p from (suc n) h = let here : p from ≡ true = h from (omega arith) (omega arith) in rw here (all_by p (from + 1) n (λ i a b. h i (omega arith) (omega arith)))

-- ## places

-- a place that is not below another has no lower key
pub not_below : (ps keys places : List ℕ) (p q : ℕ) → AreOrdered ps keys places → p ≤ q → q < length ps → key_in keys p ≤ key_in keys q
not_below ps keys places p q h le below = elim (cases_lt p q) [
  | inl lt ↦ let up = h.rising p q lt below in omega (arith, up)
  | inr ge ↦ let same : p ≡ q = omega (arith, le, ge) in rw same (omega arith)
]

-- a lower key has a lower place
before : (ps keys places : List ℕ) (p q : ℕ) → AreOrdered ps keys places → p < length ps → key_in keys p < key_in keys q → p < q
before ps keys places p q h below lt = elim (cases_lt p q) [
  | inl less ↦ less
  | inr ge ↦ absurd (omega (arith, lt, not_below ps keys places q p h ge below))
]

-- the task at a place, and its key
key_at : (ps keys places : List ℕ) (p : ℕ) → AreOrdered ps keys places → p < length ps → key_in keys p ≡ 1024 * priority_at ps (key_in keys p % 1024) + key_in keys p % 1024
key_at ps keys places p h below = ap (key_in keys) (sym (h.place p below)) ∙ h.key (key_in keys p % 1024) (h.there p below)

-- ## the tasks with the lowest priority number

record Low (ps keys places words : List ℕ) (first : ℕ) : Type 0 where
  order : AreOrdered ps keys places
  least : IsFirstFrom words 0 (Some first)
  inside : (p : ℕ) → has words p ≡ true → p < length ps

-- the key of each task of the set is at least that of the first one
at_least : (ps keys places words : List ℕ) (first j : ℕ) → Low ps keys places words first → j < length ps → has_task places words j ≡ true → (first ≤ place_in places j) × (key_in keys first ≤ 1024 * priority_at ps j + j)
at_least ps keys places words first j h below is =
    let q = place_in places j in
    let later : first ≤ q = elim (cases_lt q first) [ inl lt ↦ absurd (false≢true (sym (h.least.2 q (omega arith) lt) ∙ is)) | inr ge ↦ ge ] in
    let low = not_below ps keys places first q h.order later (h.order.inside j below) in
    (later, subst (λ (n : ℕ). key_in keys first ≤ n) (h.order.key j below) low)

-- the tasks with the lowest priority number have that of the first one
lowest_of : (ps keys places words : List ℕ) (first i : ℕ) → Low ps keys places words first → i < length ps → has_task places words i ≡ true → priority_at ps i ≡ key_in keys first / 1024 → is_lowest ps (has_task places words) (length ps) i ≡ true
lowest_of ps keys places words first i h below is priority =
    and_from _ _ is (all_by _ 0 (length ps) (λ j a b. pass (has_task places words j) (priority_at ps i) (priority_at ps j)
    (λ t. let at = at_least ps keys places words first j h (omega (arith, b)) t in omega (arith, at.1, priority, b, h.order.few))))

priority_from : (ps keys places words : List ℕ) (first i : ℕ) → Low ps keys places words first → i < length ps → is_lowest ps (has_task places words) (length ps) i ≡ true → (has_task places words i ≡ true) × (priority_at ps i ≡ key_in keys first / 1024)
priority_from ps keys places words first i h below is =
    let both = and_parts (has_task places words i) _ is in
    let there = h.inside first h.least.1 in
    let t = key_in keys first % 1024 in
    let its : has_task places words t ≡ true = ap (has words) (h.order.place first there) ∙ h.least.1 in
    let low = passes (has_task places words t) (priority_at ps i) (priority_at ps t) (all_at _ 0 (length ps) t both.1 (omega arith) (omega (arith, h.order.there first there))) its in
    let high = at_least ps keys places words first i h below both.0 in
    (both.0, omega (arith, low, high.1, key_at ps keys places first h.order there, below, h.order.few))

pub first_in_order : (ps keys places words : List ℕ) (first from start key : ℕ) → AreOrdered ps keys places → IsFirstFrom words 0 (Some first) → ((p : ℕ) → has words p ≡ true → p < length keys) → from ≤ length ps
    → IsPlaceOf keys (key_in keys first / 1024 * 1024 + from) start → IsKeyFrom keys words start (key_in keys first / 1024) (key_in keys first) key
    → Some (key % 1024) ≡ first_around ps (has_task places words) (length ps) from
unfolding first_around
first_in_order ps keys places words first from start key order least inside short place is = sym (go is.found is.first is.is)
  where
    n : ℕ
    n = length ps

    priority : ℕ
    priority = key_in keys first / 1024

    test : ℕ → Bool
    test = is_lowest ps (has_task places words) (length ps)

    low : Low ps keys places words first
    low = record { order = order; least = least; inside = λ p t. omega (arith, inside p t, order.key_count) }

    there : first < length ps
    there = low.inside first least.1

    -- one of them that is not below `from` is at `start` or after it
    behind : (i : ℕ) → i < length ps → from ≤ i → test i ≡ true → (start ≤ place_in places i) × (has words (place_in places i) ≡ true)
    behind i below above t =
        let its = priority_from ps keys places words first i low below t in
        let q = place_in places i in
        let k = order.key i below in
        let high : start ≤ q = elim (cases_lt q start) [ inl lt ↦ absurd (omega (arith, place.below q lt, k, its.1, above)) | inr ge ↦ ge ] in
        (high, its.0)

    -- the first of the whole set
    all_first : ((i : ℕ) → from ≤ i → i < length ps → test i ≡ false) → find test (around n from) ≡ Some (key_in keys first % 1024)
    all_first none =
        let t = key_in keys first % 1024 in
        let its = key_at ps keys places first order there in
        let in_set : has_task places words t ≡ true = ap (has words) (order.place first there) ∙ least.1 in
        around_below test n from t short (order.there first there)
        (lowest_of ps keys places words first t low (order.there first there) in_set (omega (arith, its, order.there first there, order.few)))
        (λ i lt. false_from_ne_true (test i) (λ t.
        let below : i < length ps = omega (arith, lt, order.there first there) in
        let mine = priority_from ps keys places words first i low below t in
        let at = at_least ps keys places words first i low below mine.0 in
        absurd (omega (arith, at.1, mine.1, lt, its, order.few, order.there first there))))
        none

    go : (found : Option ℕ) → IsFirstFrom words start found → IsKeyOf keys priority (key_in keys first) key found → find test (around n from) ≡ Some (key % 1024)
    go None none same =
        rw same (all_first (λ i above below. false_from_ne_true (test i) (λ t. let b = behind i below above t in false≢true (sym (none (place_in places i) b.0) ∙ b.1))))
    go (Some c) here same = elim (eqb_tells (key_in keys c / 1024) priority) [
      | inr other ↦
          let is_first : key ≡ key_in keys first = rw other.0 at same in
          rw is_first (all_first (λ i above below. false_from_ne_true (test i) (λ t. other.1 (priority_between i above below t))))
      | inl equal ↦
          let is_found : key ≡ key_in keys c = rw equal.0 at same in
          let its = key_at ps keys places c order c_there in
          let u = key_in keys c % 1024 in
          let in_set : has_task places words u ≡ true = ap (has words) (order.place c c_there) ∙ here.1 in
          let mine : priority_at ps u ≡ priority = omega (arith, its, equal.1, order.there c c_there, order.few) in
          rw is_found (around_above test n from u (omega (arith, place.above c here.0 (omega (arith, c_there, order.key_count)), its, mine, equal.1)) (order.there c c_there)
          (lowest_of ps keys places words first u low (order.there c c_there) in_set mine)
          (λ i above lt. false_from_ne_true (test i) (λ t.
          let below : i < length ps = omega (arith, lt, order.there c c_there) in
          let b = behind i below above t in
          let m = priority_from ps keys places words first i low below t in
          let less : key_in keys (place_in places i) < key_in keys c = omega (arith, order.key i below, its, mine, m.1, lt) in
          let sooner = before ps keys places (place_in places i) c order (order.inside i below) less in
          false≢true (sym (here.2 (place_in places i) b.0 sooner) ∙ b.1))))
    ]
      where
        c_there : c < length ps
        c_there = low.inside c here.1

        -- if one of them comes after it, the found one has their priority number
        priority_between : (i : ℕ) → from ≤ i → i < length ps → test i ≡ true → key_in keys c / 1024 ≡ priority
        priority_between i above below t =
            let b = behind i below above t in
            let m = priority_from ps keys places words first i low below t in
            let q = place_in places i in
            let soon : c ≤ q = elim (cases_lt q c) [ inl lt ↦ absurd (false≢true (sym (here.2 q b.0 lt) ∙ b.1)) | inr ge ↦ ge ] in
            let high = not_below ps keys places c q order soon (order.inside i below) in
            let later : first ≤ c = elim (cases_lt c first) [ inl lt ↦ absurd (false≢true (sym (least.2 c (omega arith) lt) ∙ here.1)) | inr ge ↦ ge ] in
            let base = not_below ps keys places first c order later c_there in
            omega (arith, high, base, order.key i below, m.1, below, order.few)

-- the set is empty
pub none_in_order : (ps keys places words : List ℕ) (from : ℕ) → AreOrdered ps keys places → IsFirstFrom words 0 None → from ≤ length ps → None ≡ first_around ps (has_task places words) (length ps) from
unfolding first_around
none_in_order ps keys places words from order none short = sym (around_nothing (is_lowest ps (has_task places words) (length ps)) (length ps) from short (λ i below. let out : has_task places words i ≡ false = none (place_in places i) (omega arith) in rw out refl))

-- the first of the whole set is not before the task
pub first_at_once : (ps keys places words : List ℕ) (first from : ℕ) → AreOrdered ps keys places → IsFirstFrom words 0 (Some first) → ((p : ℕ) → has words p ≡ true → p < length keys) → from ≤ key_in keys first % 1024
    → Some (key_in keys first % 1024) ≡ first_around ps (has_task places words) (length ps) from
unfolding first_around
first_at_once ps keys places words first from order least inside above =
    sym (around_above test (length ps) from t above (order.there first there)
    (lowest_of ps keys places words first t low (order.there first there) in_set (omega (arith, its, order.there first there, order.few)))
    (λ i over lt. false_from_ne_true (test i) (λ is.
    let below : i < length ps = omega (arith, lt, order.there first there) in
    let mine = priority_from ps keys places words first i low below is in
    let at = at_least ps keys places words first i low below mine.0 in
    absurd (omega (arith, at.1, mine.1, lt, its, order.few, order.there first there)))))
  where
    test : ℕ → Bool
    test = is_lowest ps (has_task places words) (length ps)

    t : ℕ
    t = key_in keys first % 1024

    low : Low ps keys places words first
    low = record { order = order; least = least; inside = λ p is. omega (arith, inside p is, order.key_count) }

    there : first < length ps
    there = low.inside first least.1

    its : key_in keys first ≡ 1024 * priority_at ps (key_in keys first % 1024) + key_in keys first % 1024
    its = key_at ps keys places first order there

    in_set : has_task places words t ≡ true
    in_set = ap (has words) (order.place first there) ∙ least.1
