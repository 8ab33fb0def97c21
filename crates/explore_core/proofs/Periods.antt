-- The period of a script, from what happens in each turn.
use Rattle.std.proofs.Common.{◌≡◌, ◌⊎◌, ◌∙◌, inl, inr, ℕ, zero, suc, ◌+◌, ◌-◌, ◌*◌, ◌%◌, ◌<◌, ◌≤◌, Bool, true, false, List, [], ◌∷◌, ◌++◌, length, get_or, slice_get, nat_lt, ◌==◌, ◌&&◌, Option, Some, None, is_some, refl, sym, ap, arith, cond, subst, mod-eq_of_lt}
use Rattle.std.proofs.lemmas.Bool.{ltb-true, ltb-false}
use Rattle.run_script.specs.declared.events.Event.{Event}
use Rattle.run_script.specs.declared.events.Event.TheVariants.{Tick}
use Rattle.run_script.specs.Facts.{Facts, IsPeriod}
use Rattle.run_script.specs.Scripts.{IsFirstListed, IsNext, Listed, ScriptData, events_of, listed_of, ticks_of}
use Rattle.run_script.proofs.Coming.{by_test, multiple_whole}
use Rattle.run_script.proofs.Picks.{IsFirst, searched_other, searched_own, searched_past}

-- ## the tick of a turn

first_of : (s : ScriptData) (turn first : ℕ) → Facts s → IsFirstListed s turn first → IsFirst s.events turn first
first_of s turn first facts is = record { sorted = facts.ascending; within = is.within; before = is.before; from = is.from }

pub in_order : (s : ScriptData) (turn first behind : ℕ) → IsFirstListed s turn first → IsFirstListed s (turn + 1) behind → first ≤ behind
in_order s turn first behind is after = go (nat_lt behind first) refl
  where
    go : (b : Bool) → nat_lt behind first ≡ b → first ≤ behind
    go false e = ltb-false behind first e
    go true e =
        let lt : behind < first = ltb-true behind first e in
        let d : Listed = (0, Tick) in
        let early : (get_or s.events behind d).0 < turn = ltb-true (get_or s.events behind d).0 turn (is.before behind d lt) in
        let inside : behind < length s.events = omega (arith, lt, is.within) in
        let late : turn + 1 ≤ (get_or s.events behind d).0 = ltb-false (get_or s.events behind d).0 (turn + 1) (after.from behind d (omega arith) inside) in
        absurd (omega (arith, early, late))

-- behind the listed events of the turn there is none more
none_more : (s : ScriptData) (turn first behind : ℕ) → Facts s → IsFirstListed s turn first → IsFirstListed s (turn + 1) behind → None ≡ slice_get (listed_of turn s.events) (behind - first)
none_more s turn first behind facts is after = go (nat_lt behind (length s.events)) refl
  where
    order : first ≤ behind
    order = in_order s turn first behind is after

    at : first + (behind - first) ≡ behind
    at = omega (arith, order)

    go : (b : Bool) → nat_lt behind (length s.events) ≡ b → None ≡ slice_get (listed_of turn s.events) (behind - first)
    go true e =
        let lt : behind < length s.events = ltb-true behind (length s.events) e in
        let d : Listed = (0, Tick) in
        let late : turn + 1 ≤ (get_or s.events (first + (behind - first)) d).0 = subst (λ n. turn + 1 ≤ (get_or s.events n d).0) (sym at) (ltb-false (get_or s.events behind d).0 (turn + 1) (after.from behind d (omega arith) lt)) in
        searched_other s.events s.events turn first (behind - first) d refl (first_of s turn first facts is) (omega (arith, lt, at)) (λ same. omega (arith, late, same))
    go false e =
        let le : length s.events ≤ behind = ltb-false behind (length s.events) e in
        searched_past s.events s.events turn first (behind - first) refl (first_of s turn first facts is) (omega (arith, le, at))

-- each of them is there
some_each : (s : ScriptData) (turn first behind k : ℕ) → Facts s → IsFirstListed s turn first → IsFirstListed s (turn + 1) behind → first + k < behind → is_some (slice_get (listed_of turn s.events) k) ≡ true
some_each s turn first behind k facts is after lt =
    let d : Listed = (0, Tick) in
    let inside : first + k < length s.events = omega (arith, lt, after.within) in
    let early : (get_or s.events (first + k) d).0 < turn + 1 = ltb-true (get_or s.events (first + k) d).0 (turn + 1) (after.before (first + k) d lt) in
    let late : turn ≤ (get_or s.events (first + k) d).0 = ltb-false (get_or s.events (first + k) d).0 turn (is.from (first + k) d (omega arith) inside) in
    sym (ap is_some (searched_own s.events s.events turn first k d refl (first_of s turn first facts is) inside (omega (arith, early, late))))

-- a tick comes before them
ticked : (listed : List Event) (count : ℕ) → ((k : ℕ) → k < count → is_some (slice_get listed k) ≡ true) → is_some (slice_get (Tick ∷ listed) count) ≡ true
ticked listed zero each = refl
ticked listed (suc k) each = each k (omega arith)

ticks_in : (listed : List Event) (ticks : List Event) (count : ℕ) (there : Bool) → (ticks ≡ Tick ∷ []) ⊎ (ticks ≡ []) → None ≡ slice_get listed count → ((k : ℕ) → k < count → is_some (slice_get listed k) ≡ true) →
    there ≡ is_some (slice_get (ticks ++ listed) count) → ticks ≡ cond there (Tick ∷ []) []
ticks_in listed ticks count there (inl one) none each is =
    let yes : there ≡ true = is ∙ ap (λ (l : List Event). is_some (slice_get (l ++ listed) count)) one ∙ ticked listed count each in
    one ∙ sym (ap (λ (b : Bool). cond b (Tick ∷ []) []) yes)
ticks_in listed ticks count there (inr nothing) none each is =
    let no : there ≡ false = is ∙ ap (λ (l : List Event). is_some (slice_get (l ++ listed) count)) nothing ∙ sym (ap is_some none) in
    nothing ∙ sym (ap (λ (b : Bool). cond b (Tick ∷ []) []) no)

one_if : (b : Bool) → (cond b (Tick ∷ []) [] ≡ Tick ∷ []) ⊎ (cond b (Tick ∷ []) [] ≡ [])
one_if true = inl refl
one_if false = inr refl

one_or_none : (every : Option ℕ) (turn : ℕ) → (ticks_of every turn ≡ Tick ∷ []) ⊎ (ticks_of every turn ≡ [])
one_or_none None turn = inr refl
one_or_none (Some period) turn = one_if (nat_lt 0 turn && (turn % period == 0))

pub has_tick : (s : ScriptData) (turn first behind : ℕ) (there : Bool) → Facts s → IsFirstListed s turn first → IsFirstListed s (turn + 1) behind → there ≡ is_some (slice_get (events_of s turn) (behind - first)) →
    ticks_of s.every turn ≡ cond there (Tick ∷ []) []
has_tick s turn first behind there facts is after e =
    let order = in_order s turn first behind is after in
    ticks_in (listed_of turn s.events) (ticks_of s.every turn) (behind - first) there (one_or_none s.every turn) (none_more s turn first behind facts is after)
    (λ k lt. some_each s turn first behind k facts is after (omega (arith, order, lt))) e

-- ## the first turn that has one

some_turn : (t p : ℕ) → 0 < t → t % p ≡ 0 → (nat_lt 0 t && (t % p == 0)) ≡ true
some_turn t p some whole = grind arith

own_tick : (p : ℕ) → 0 < p → ticks_of (Some p) p ≡ Tick ∷ []
own_tick p some =
    let once : p ≡ 1 * p = omega arith in
    let whole : p % p ≡ 0 = ap (λ n. n % p) once ∙ multiple_whole 1 p some in
    rw (some_turn p p some whole) refl

some_tick : (l : List Event) → l ≡ Tick ∷ [] → l ≡ [] → ⊥
some_tick l one none = let same : ◌≡◌ {A = List Event} (Tick ∷ []) [] = sym one ∙ none in absurd (cc)

tick_test : (b : Bool) → cond b (Tick ∷ []) [] ≡ Tick ∷ [] → b ≡ true
tick_test true e = refl
tick_test false e = absurd (cc)

is_multiple : (t p : ℕ) → (nat_lt 0 t && (t % p == 0)) ≡ true → (0 < t) × (t % p ≡ 0)
is_multiple t p h = grind arith

not_before : (p turn : ℕ) → ticks_of (Some p) turn ≡ Tick ∷ [] → p ≤ turn
not_before p turn e = by_test (nat_lt turn p)
    (λ (less : nat_lt turn p ≡ true).
    let lt : turn < p = ltb-true turn p less in
    let both = is_multiple turn p (tick_test (nat_lt 0 turn && (turn % p == 0)) e) in
    let same : turn % p ≡ turn = mod-eq_of_lt lt in
    absurd (omega (arith, both.0, both.1, same)))
    (λ (more : nat_lt turn p ≡ false). ltb-false turn p more)

-- no turn from 1 on and below this one has a tick
abbrev pub NoneBelow : Option ℕ → ℕ → Type 0
NoneBelow every from = (turn : ℕ) → 0 < turn → turn < from → ticks_of every turn ≡ []

none_front : (a b : List Event) → a ++ b ≡ [] → a ≡ []
none_front [] b e = refl
none_front (x ∷ a) b e = absurd (cc)

none_to : (s : ScriptData) (from to : ℕ) → NoneBelow s.every from → ((turn : ℕ) → from ≤ turn → turn < to → events_of s turn ≡ []) → NoneBelow s.every to
none_to s from to early late turn some lt = by_test (nat_lt turn from)
    (λ (less : nat_lt turn from ≡ true). early turn some (ltb-true turn from less))
    (λ (more : nat_lt turn from ≡ false). none_front (ticks_of s.every turn) (listed_of turn s.events) (late turn (ltb-false turn from more) lt))

-- the period is the first of them
not_after : (p to : ℕ) → 0 < p → NoneBelow (Some p) to → to ≤ p
not_after p to some none = by_test (nat_lt p to)
    (λ (less : nat_lt p to ≡ true). absurd (some_tick (ticks_of (Some p) p) (own_tick p some) (none p some (ltb-true p to less))))
    (λ (more : nat_lt p to ≡ false). ltb-false p to more)

found_by : (every : Option ℕ) (turn : ℕ) → is_some every ≡ true → ((p : ℕ) → every ≡ Some p → IsPeriod p) → NoneBelow every turn → ticks_of every turn ≡ Tick ∷ [] → Some turn ≡ every
found_by None turn there facts none tick = absurd (cc)
found_by (Some p) turn there facts none tick =
    let least : p ≤ turn = not_before p turn tick in
    let most : turn ≤ p = not_after p turn (facts p refl).some none in
    let same : turn ≡ p = omega (arith, least, most) in
    ap (λ n. Some n) same

pub found : (s : ScriptData) (from turn : ℕ) → Facts s → is_some s.every ≡ true → NoneBelow s.every from → IsNext s from (Some turn) → ticks_of s.every turn ≡ Tick ∷ [] → Some turn ≡ s.every
found s from turn facts there early is tick = found_by s.every turn there facts.every (none_to s from turn early is.3) tick

last_by : (every : Option ℕ) → is_some every ≡ true → ((p : ℕ) → every ≡ Some p → IsPeriod p) → NoneBelow every 1000000000 → Some 1000000000 ≡ every
last_by None there facts none = absurd (cc)
last_by (Some p) there facts none =
    let most = (facts p refl).most in
    let least = not_after p 1000000000 (facts p refl).some none in
    let same : 1000000000 ≡ p = omega (arith, most, least) in
    ap (λ n. Some n) same

-- if no turn of a run has one, it is the turn behind the last
pub last : (s : ScriptData) (from : ℕ) → Facts s → is_some s.every ≡ true → NoneBelow s.every from → IsNext s from None → Some 1000000000 ≡ s.every
last s from facts there early is = last_by s.every there facts.every (none_to s from 1000000000 early is)
