-- The events of a turn.
use Rattle.std.proofs.Common.{◌≡◌, ℕ, suc, zero, ◌+◌, ◌≤◌, ◌<◌, List, [], ◌∷◌, length, get_or, slice_get, Option, Some, None, refl, ap, ◌∙◌, sym, arith, Bool, true, false, nat_lt, nat_le, ◌==◌, if◌then◌else◌}
use Rattle.std.proofs.lemmas.Bool.{ltb-true, ltb-false, or_right}
use Rattle.std.specs.List.{list_any}
use Rattle.std.specs.List.Sorted.{IsNonDecreasingBy}
use Rattle.run_script.specs.declared.events.Event.{Event}
use Rattle.run_script.specs.declared.events.Event.TheVariants.{Tick}
use Rattle.run_script.specs.Scripts.{Listed, is_of, listed_of}

abbrev pub turn_at : List Listed → ℕ → ℕ
turn_at events i = (get_or events i (0, Tick)).0

abbrev pub pick : ℕ → Option Listed → Option Event
pick turn None = None
pick turn (Some listed) = if is_of turn listed then Some listed.1 else None

by_test : {A : Type 0} (b : Bool) → (b ≡ true → A) → (b ≡ false → A) → A
by_test true holds fails = holds refl
by_test false holds fails = fails refl

is_not_of : (listed : Listed) (turn : ℕ) → turn < listed.0 → is_of turn listed ≡ false
is_not_of listed turn h = grind arith

is_before : (listed : Listed) (turn : ℕ) → listed.0 < turn → is_of turn listed ≡ false
is_before listed turn h = grind arith

is_above : (listed : Listed) (turn : ℕ) → turn ≤ listed.0 → is_of turn listed ≡ false → turn < listed.0
is_above listed turn h k = grind arith

other : (listed : Listed) (events : List Listed) (turn : ℕ) → is_of turn listed ≡ false → listed_of turn (listed ∷ events) ≡ listed_of turn events
other listed events turn h = rw h refl

own : (listed : Listed) (events : List Listed) (turn : ℕ) → is_of turn listed ≡ true → listed_of turn (listed ∷ events) ≡ listed.1 ∷ listed_of turn events
own listed events turn h = rw h refl

pick_own : (listed : Listed) (turn : ℕ) → is_of turn listed ≡ true → pick turn (Some listed) ≡ Some listed.1
pick_own listed turn h = rw h refl

pick_other : (listed : Listed) (turn : ℕ) → is_of turn listed ≡ false → pick turn (Some listed) ≡ None
pick_other listed turn h = rw h refl

none_after : (events : List Listed) (turn : ℕ) → ((i : ℕ) → i < length events → turn < turn_at events i) → listed_of turn events ≡ []
none_after [] turn h = refl
none_after (l ∷ ls) turn h = other l ls turn (is_not_of l turn (h 0 (omega arith))) ∙ none_after ls turn (λ i lt. h (suc i) (omega arith))

no_pick : (events : List Listed) (k turn : ℕ) → ((i : ℕ) → i < length events → turn < turn_at events i) → pick turn (slice_get events k) ≡ None
no_pick [] k turn h = refl
no_pick (l ∷ ls) zero turn h = pick_other l turn (is_not_of l turn (h 0 (omega arith)))
no_pick (l ∷ ls) (suc k) turn h = no_pick ls k turn (λ i lt. h (suc i) (omega arith))

from_own : (l : Listed) (ls : List Listed) (k turn : ℕ) → is_of turn l ≡ true → ((j : ℕ) → slice_get (listed_of turn ls) j ≡ pick turn (slice_get ls j)) → slice_get (listed_of turn (l ∷ ls)) k ≡ pick turn (slice_get (l ∷ ls) k)
from_own l ls zero turn holds rest = ap (λ (es : List Event). slice_get es 0) (own l ls turn holds) ∙ sym (pick_own l turn holds)
from_own l ls (suc k) turn holds rest = ap (λ (es : List Event). slice_get es (suc k)) (own l ls turn holds) ∙ rest k

-- events that begin at the turn
from_turn : (events : List Listed) (k turn : ℕ) → IsNonDecreasingBy (λ (l : Listed). l.0) events → ((i : ℕ) → i < length events → turn ≤ turn_at events i) → slice_get (listed_of turn events) k ≡ pick turn (slice_get events k)
from_turn [] k turn sorted h = refl
from_turn (l ∷ ls) k turn sorted h = by_test (is_of turn l)
    (λ holds. from_own l ls k turn holds (λ j. from_turn ls j turn (λ i m d a b. sorted (suc i) (suc m) d (omega arith) (omega arith)) (λ i lt. h (suc i) (omega arith))))
    (λ fails. let above : turn < l.0 = is_above l turn (h 0 (omega arith)) fails in
    let rest : (i : ℕ) → i < length (l ∷ ls) → turn < turn_at (l ∷ ls) i = λ i lt. omega (arith, above, sorted 0 i (0, Tick) (omega arith) lt) in
    ap (λ (es : List Event). slice_get es k) (none_after (l ∷ ls) turn rest) ∙ sym (no_pick (l ∷ ls) k turn rest))

-- events before the turn count for nothing
pick_at : (events : List Listed) (first k i turn : ℕ) → i ≡ first + k → first ≤ length events → IsNonDecreasingBy (λ (l : Listed). l.0) events → ((j : ℕ) → j < first → turn_at events j < turn) → ((j : ℕ) → first ≤ j → j < length events → turn ≤ turn_at events j) → slice_get (listed_of turn events) k ≡ pick turn (slice_get events i)
pick_at events zero k i turn e le sorted before from =
    from_turn events k turn sorted (λ j lt. from j (omega arith) lt) ∙ ap (λ n. pick turn (slice_get events n)) (omega arith)
pick_at [] (suc first) k i turn e le sorted before from = refl
pick_at (l ∷ ls) (suc first) k zero turn e le sorted before from = absurd (omega arith)
pick_at (l ∷ ls) (suc first) k (suc i) turn e le sorted before from =
    ap (λ (es : List Event). slice_get es k) (other l ls turn (is_before l turn (before 0 (omega arith))))
    ∙ pick_at ls first k i turn (omega arith) (omega arith) (λ j m d a b. sorted (suc j) (suc m) d (omega arith) (omega arith)) (λ j lt. before (suc j) (omega arith)) (λ j a b. from (suc j) (omega arith) (omega arith))

get_at : (events : List Listed) (i : ℕ) (d : Listed) → i < length events → slice_get events i ≡ Some (get_or events i d)
get_at [] i d h = absurd (omega arith)
get_at (l ∷ ls) zero d h = refl
get_at (l ∷ ls) (suc i) d h = get_at ls i d (omega arith)

get_past : (events : List Listed) (i : ℕ) → length events ≤ i → slice_get events i ≡ None
get_past [] i h = refl
get_past (l ∷ ls) zero h = absurd (omega arith)
get_past (l ∷ ls) (suc i) h = get_past ls i (omega arith)

is_own : (n turn : ℕ) → n ≡ turn → (n == turn) ≡ true
is_own n turn h = grind arith

is_other : (n turn : ℕ) → (n ≡ turn → ⊥) → (n == turn) ≡ false
is_other n turn h = grind arith

picked : (events : List Listed) (i turn : ℕ) (d : Listed) → i < length events → (get_or events i d).0 ≡ turn → pick turn (slice_get events i) ≡ Some (get_or events i d).1
picked events i turn d lt h = ap (pick turn) (get_at events i d lt) ∙ pick_own (get_or events i d) turn (is_own (get_or events i d).0 turn h)

not_picked : (events : List Listed) (i turn : ℕ) (d : Listed) → i < length events → ((get_or events i d).0 ≡ turn → ⊥) → pick turn (slice_get events i) ≡ None
not_picked events i turn d lt h = ap (pick turn) (get_at events i d lt) ∙ pick_other (get_or events i d) turn (is_other (get_or events i d).0 turn h)

past_picks : (events : List Listed) (i turn : ℕ) → length events ≤ i → pick turn (slice_get events i) ≡ None
past_picks events i turn h = ap (pick turn) (get_past events i h)

-- ---- with the place that the search finds

-- the first event that is not before the turn
pub record IsFirst (events : List Listed) (turn first : ℕ) : Type 0 where
  pub sorted : IsNonDecreasingBy (λ (l : Listed). l.0) events
  pub within : first ≤ length events
  pub before : (k : ℕ) (d : Listed) → k < first → nat_lt (get_or events k d).0 turn ≡ true
  pub from : (k : ℕ) (d : Listed) → first ≤ k → k < length events → nat_lt (get_or events k d).0 turn ≡ false

searched : (events : List Listed) (turn first k : ℕ) → IsFirst events turn first → slice_get (listed_of turn events) k ≡ pick turn (slice_get events (first + k))
searched events turn first k s = pick_at events first k (first + k) turn refl s.within s.sorted
    (λ j lt. ltb-true (turn_at events j) turn (s.before j (0, Tick) lt))
    (λ j a b. ltb-false (turn_at events j) turn (s.from j (0, Tick) a b))

pub searched_own : (events xs : List Listed) (turn first k : ℕ) (d : Listed) → xs ≡ events → IsFirst events turn first → first + k < length xs → (get_or xs (first + k) d).0 ≡ turn → Some (get_or xs (first + k) d).1 ≡ slice_get (listed_of turn events) k
searched_own events xs turn first k d e s lt h =
    sym (searched events turn first k s ∙ ap (λ (es : List Listed). pick turn (slice_get es (first + k))) (sym e) ∙ picked xs (first + k) turn d lt h)

pub searched_other : (events xs : List Listed) (turn first k : ℕ) (d : Listed) → xs ≡ events → IsFirst events turn first → first + k < length xs → ((get_or xs (first + k) d).0 ≡ turn → ⊥) → None ≡ slice_get (listed_of turn events) k
searched_other events xs turn first k d e s lt h =
    sym (searched events turn first k s ∙ ap (λ (es : List Listed). pick turn (slice_get es (first + k))) (sym e) ∙ not_picked xs (first + k) turn d lt h)

pub searched_past : (events xs : List Listed) (turn first k : ℕ) → xs ≡ events → IsFirst events turn first → length xs ≤ first + k → None ≡ slice_get (listed_of turn events) k
searched_past events xs turn first k e s h =
    sym (searched events turn first k s ∙ ap (λ (es : List Listed). pick turn (slice_get es (first + k))) (sym e) ∙ past_picks xs (first + k) turn h)

-- ---- the last event

some_from : (events : List Listed) (i from : ℕ) → i < length events → nat_le from (turn_at events i) ≡ true → list_any (λ listed. nat_le from listed.0) events ≡ true
some_from [] i from lt h = absurd (omega arith)
some_from (l ∷ ls) zero from lt h = rw h refl
some_from (l ∷ ls) (suc i) from lt h = or_right (nat_le from l.0) _ (some_from ls i from (omega arith) h)

below : (n from : ℕ) → n < from → nat_le from n ≡ false
below n from h = grind arith

none_from : (events : List Listed) (from : ℕ) → ((i : ℕ) → i < length events → turn_at events i < from) → list_any (λ listed. nat_le from listed.0) events ≡ false
none_from [] from h = refl
none_from (l ∷ ls) from h = rw (below l.0 from (h 0 (omega arith))) (none_from ls from (λ i lt. h (suc i) (omega arith)))

is_below : (n from : ℕ) → nat_le from n ≡ false → n < from
is_below n from h = grind arith

pub last_decides : (events : List Listed) (i from : ℕ) → i + 1 ≡ length events → IsNonDecreasingBy (λ (l : Listed). l.0) events → list_any (λ listed. nat_le from listed.0) events ≡ nat_le from (turn_at events i)
last_decides events i from e sorted = by_test (nat_le from (turn_at events i))
    (λ holds. some_from events i from (omega arith) holds ∙ sym holds)
    (λ fails. none_from events from (λ j lt. omega (arith, is_below (turn_at events i) from fails, sorted j i (0, Tick) (omega arith) (omega arith))) ∙ sym fails)
