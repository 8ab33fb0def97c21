-- The next turn in which something happens.
use Rattle.std.proofs.Common.{◌≡◌, ◌≢◌, ℕ, suc, zero, ◌+◌, ◌-◌, ◌*◌, ◌/◌, ◌%◌, ◌≤◌, ◌<◌, List, [], ◌∷◌, ◌++◌, length, get_or, Option, Some, None, refl, sym, ap, ◌∙◌, subst, arith, Bool, true, false, nat_lt, ◌==◌, ◌&&◌, div-add-mod'}
use Rattle.std.proofs.lemmas.Bool.{ltb-true, ltb-false}
use Rattle.std.specs.List.{All}
use Rattle.std.specs.List.Sorted.{IsNonDecreasingBy}
use Rattle.std.proofs.lemmas.Nat.{div_below, mod_below, mod-mul-add, mul-le, div-add-mod'}
use Rattle.run_script.specs.declared.events.Event.{Event}
use Rattle.run_script.specs.declared.events.Event.TheVariants.{Tick}
use Rattle.run_script.specs.Facts.{IsListed}
use Rattle.run_script.specs.Scripts.{Listed, ScriptData, IsNext, IsFirstListed, is_of, listed_of, ticks_of}
use Rattle.run_script.specs.Next.{IsNextBy}
use Rattle.run_script.proofs.Picks.{IsFirst}

-- ---- multiples

one_more : (q p : ℕ) → (q + 1) * p ≡ q * p + p
one_more q p = omega arith

pub multiple_from : (p first : ℕ) → 0 < p → first ≤ (first + (p - 1)) / p * p
multiple_from p first some = omega (arith, div-add-mod' (first + (p - 1)) p, mod_below (first + (p - 1)) p some)

pub multiple_whole : (m p : ℕ) → 0 < p → (m * p) % p ≡ 0
multiple_whole m p some = ap (λ n. n % p) (omega arith) ∙ mod-mul-add m p 0 some

pub multiple_least : (p first t : ℕ) → 0 < p → first ≤ t → t % p ≡ 0 → (first + (p - 1)) / p * p ≤ t
multiple_least p first t some from whole =
    let is = div-add-mod' t p in
    let more = one_more (t / p) p in
    let ltb-true : (first + (p - 1)) / p < t / p + 1 = div_below (first + (p - 1)) p (t / p + 1) some (omega (arith, is, more)) in
    let product = mul-le ((first + (p - 1)) / p) p (t / p) p (omega arith) (omega arith) in
    omega (arith, is, product)

-- ---- ticks

pub by_test : {A : Type 0} (b : Bool) → (b ≡ true → A) → (b ≡ false → A) → A
by_test true holds fails = holds refl
by_test false holds fails = fails refl

is_some_turn : (t p : ℕ) → (nat_lt 0 t && (t % p == 0)) ≡ true → (0 < t) × (t % p ≡ 0)
is_some_turn t p h = grind arith

no_tick : (p t : ℕ) → (0 < t → t % p ≡ 0 → ⊥) → ticks_of (Some p) t ≡ []
no_tick p t h = by_test (nat_lt 0 t && (t % p == 0))
    (λ holds. let both = is_some_turn t p holds in absurd (h both.0 both.1))
    (λ fails. rw fails refl)

some_turn : (t p : ℕ) → 0 < t → t % p ≡ 0 → (nat_lt 0 t && (t % p == 0)) ≡ true
some_turn t p h k = grind arith

a_tick : (p t : ℕ) → 0 < t → t % p ≡ 0 → ticks_of (Some p) t ≢ []
a_tick p t some whole e =
    let there : ticks_of (Some p) t ≡ Tick ∷ [] = rw (some_turn t p some whole) refl in
    let same : ◌≡◌ {A = List Event} (Tick ∷ []) [] = sym there ∙ e in
    cc

-- first: the turn from which on, or 1 for turn 0
pub next_tick_is : (p from first : ℕ) → 0 < p → from ≤ first → 0 < first → ((t : ℕ) → from ≤ t → 0 < t → first ≤ t) → (first + (p - 1)) / p * p < 1000000000 → IsNextBy (ticks_of (Some p)) from (Some ((first + (p - 1)) / p * p))
next_tick_is p from first some same above least below =
    let start = multiple_from p first some in (
      omega (arith, start),
      below,
      a_tick p ((first + (p - 1)) / p * p) (omega (arith, start)) (multiple_whole ((first + (p - 1)) / p) p some),
      λ t a b. no_tick p t (λ there whole. omega (arith, b, multiple_least p first t some (least t a there) whole)),
    )

pub no_tick_is : (p from first : ℕ) → 0 < p → ((t : ℕ) → from ≤ t → 0 < t → first ≤ t) → 1000000000 ≤ (first + (p - 1)) / p * p → IsNextBy (ticks_of (Some p)) from None
no_tick_is p from first some least above = λ t a b. no_tick p t (λ there whole. omega (arith, above, multiple_least p first t some (least t a there) whole))

-- ---- listed events

not_below : (n turn : ℕ) → turn ≤ n → nat_lt n turn ≡ false
not_below n turn h = grind arith

is_below : (n turn : ℕ) → n < turn → nat_lt n turn ≡ true
is_below n turn h = grind arith

pub is_other : (n turn : ℕ) → n ≢ turn → (n == turn) ≡ false
is_other n turn h = grind arith

skip : (l : Listed) (ls : List Listed) (turn : ℕ) → is_of turn l ≡ false → listed_of turn (l ∷ ls) ≡ listed_of turn ls
skip l ls turn h = rw h refl

none_of : (events : List Listed) (turn : ℕ) → ((i : ℕ) (d : Listed) → i < length events → (get_or events i d).0 ≢ turn) → listed_of turn events ≡ []
none_of [] turn h = refl
none_of (l ∷ ls) turn h = skip l ls turn (is_other l.0 turn (h 0 l (omega arith))) ∙ none_of ls turn (λ i d lt. h (suc i) d (omega arith))

own : (n : ℕ) → (n == n) ≡ true
own n = grind arith

some_of : (events : List Listed) (i : ℕ) (d : Listed) → i < length events → listed_of (get_or events i d).0 events ≢ []
some_of [] i d lt = absurd (omega arith)
some_of (l ∷ ls) zero d lt = λ e.
    let there : listed_of l.0 (l ∷ ls) ≡ l.1 ∷ listed_of l.0 ls = rw (own l.0) refl in
    let same : l.1 ∷ listed_of l.0 ls ≡ [] = sym there ∙ e in
    cc
some_of (l ∷ ls) (suc i) d lt = by_test (is_of (get_or ls i d).0 l)
    (λ holds. λ e. let there : listed_of (get_or ls i d).0 (l ∷ ls) ≡ l.1 ∷ listed_of (get_or ls i d).0 ls = rw holds refl in let same : l.1 ∷ listed_of (get_or ls i d).0 ls ≡ [] = sym there ∙ e in cc)
    (λ fails. λ e. some_of ls i d (omega arith) (sym (skip l ls (get_or ls i d).0 fails) ∙ e))

pub default_same : (events : List Listed) (i : ℕ) (d e : Listed) → i < length events → (get_or events i d).0 ≡ (get_or events i e).0
default_same [] i d e lt = absurd (omega arith)
default_same (l ∷ ls) zero d e lt = refl
default_same (l ∷ ls) (suc i) d e lt = default_same ls i d e (omega arith)

-- a place behind which all are of later turns
pub first_listed_is : (script : ScriptData) (xs : List Listed) (turn at : ℕ) → IsNonDecreasingBy (λ (l : Listed). l.0) script.events → xs ≡ script.events → at ≤ length xs →
    ((k : ℕ) (d : Listed) → k < at → nat_lt (get_or xs k d).0 turn ≡ true) → (at < length xs → (d : Listed) → turn ≤ (get_or xs at d).0) → IsFirstListed script turn at
first_listed_is script xs turn at sorted same within before here = record {
  within = subst (λ (ys : List Listed). at ≤ length ys) same within;
  before = λ k d lt. subst (λ (ys : List Listed). nat_lt (get_or ys k d).0 turn ≡ true) same (before k d lt);
  from = λ k d le lt.
      let there : at < length xs = omega (arith, le, lt, ap (λ (ys : List Listed). length ys) same) in
      let first : turn ≤ (get_or script.events at d).0 = subst (λ (ys : List Listed). turn ≤ (get_or ys at d).0) same (here there d) in
      let later : (get_or script.events at d).0 ≤ (get_or script.events k d).0 = sorted at k d le lt in
      not_below (get_or script.events k d).0 turn (omega (arith, first, later));
}

-- a place whose neighbours are of an earlier and of a later turn
pub first_listed_by : (script : ScriptData) (xs : List Listed) (turn at : ℕ) → IsNonDecreasingBy (λ (l : Listed). l.0) script.events → xs ≡ script.events → at ≤ length xs →
    (0 < at → (d : Listed) → nat_lt (get_or xs (at - 1) d).0 turn ≡ true) → (at < length xs → (d : Listed) → nat_lt (get_or xs at d).0 turn ≡ false) → IsFirstListed script turn at
first_listed_by script xs turn at sorted same within last here =
    first_listed_is script xs turn at sorted same within (λ k d lt. below k d lt) (λ there d. ltb-false (get_or xs at d).0 turn (here there d))
  where
    below : (k : ℕ) (d : Listed) → k < at → nat_lt (get_or xs k d).0 turn ≡ true
    below k d lt =
        let there : at - 1 < length xs = omega (arith, lt, within) in
        let order : (get_or xs k d).0 ≤ (get_or xs (at - 1) d).0 = subst (λ (ys : List Listed). (get_or ys k d).0 ≤ (get_or ys (at - 1) d).0) (sym same) (sorted k (at - 1) d (omega (arith, lt)) (subst (λ (ys : List Listed). at - 1 < length ys) same there)) in
        is_below (get_or xs k d).0 turn (omega (arith, order, ltb-true (get_or xs (at - 1) d).0 turn (last (omega (arith, lt)) d)))

pub next_listed_is : (events xs : List Listed) (from first : ℕ) (d : Listed) → xs ≡ events → IsFirst events from first → All IsListed events → first < length xs → IsNextBy (λ turn. listed_of turn events) from (Some (get_or xs first d).0)
next_listed_is events xs from first d same s all lt0 =
    let lt : first < length events = subst (λ (ys : List Listed). first < length ys) same lt0 in
    let P : List Listed → Type 0 = λ ys. IsNextBy (λ turn. listed_of turn events) from (Some (get_or ys first d).0) in
    subst P (sym same) (
      ltb-false (get_or events first d).0 from (s.from first d (omega arith) lt),
      (all first d lt).turn,
      some_of events first d lt,
      λ turn a b. none_of events turn (λ i e here is. before_or_after i e turn a b here is),
    )
  where
    before_or_after : (i : ℕ) (e : Listed) (turn : ℕ) → from ≤ turn → turn < (get_or events first d).0 → i < length events → (get_or events i e).0 ≡ turn → ⊥
    before_or_after i e turn a b here is = by_test (nat_lt i first)
        (λ holds. let lt : i < first = ltb-true i first holds in omega (arith, is, a, ltb-true (get_or events i e).0 from (s.before i e lt)))
        (λ fails. let ge : first ≤ i = ltb-false i first fails in omega (arith, is, b, s.sorted first i e ge here, default_same events first d e (omega (arith, ge, here))))

pub no_listed_is : (events xs : List Listed) (from first : ℕ) → xs ≡ events → IsFirst events from first → length xs ≤ first → IsNextBy (λ turn. listed_of turn events) from None
no_listed_is events xs from first same s past = λ turn a b. none_of events turn (λ i d here is.
    omega (arith, is, a, ltb-true (get_or events i d).0 from (s.before i d (omega (arith, here, subst (λ (ys : List Listed). length ys ≤ first) same past)))))

-- ---- the lesser of both

nothing : (es fs : List Event) → es ≡ [] → fs ≡ [] → es ++ fs ≡ []
nothing es fs e f = rw (e, f) refl

second_some : (es fs : List Event) → fs ≢ [] → es ++ fs ≢ []
second_some [] fs h e = h e
second_some (x ∷ xs) fs h e = cc

module _ (happens too : ℕ → List Event) (from : ℕ) where
  pub second_before : (turn next : ℕ) → next ≤ turn → IsNextBy happens from (Some turn) → IsNextBy too from (Some next) → IsNextBy (λ turn. happens turn ++ too turn) from (Some next)
  second_before turn next le a b = (b.0, b.1, second_some (happens next) (too next) b.2, λ u x y. nothing (happens u) (too u) (a.3 u x (omega (arith, y, le))) (b.3 u x y))

-- what happens is the tick and what is listed
pub next_is : (script : ScriptData) (from : ℕ) (next : Option ℕ) → IsNextBy (λ turn. ticks_of script.every turn ++ listed_of turn script.events) from next → IsNext script from next
next_is script from None h = h
next_is script from (Some next) h = h
