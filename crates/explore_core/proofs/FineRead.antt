-- Each question that is read is fine.
use Rattle.std.proofs.Common.{◌≡◌, ℕ, zero, suc, ◌+◌, ◌-◌, ◌<◌, ◌≤◌, Bool, true, false, List, [], ◌∷◌, ◌++◌, length, map, Option, Some, None, Result, Ok, Err, refl, subst, arith, length-append, mul-le-mul_right, mul_comm}
use Rattle.std.specs.Prelude.{⊤, cond, sum_by, nat_eq, nat_le, nat_lt, bytes_eq, codes, IfOk, IfSome, ◌||◌}
use Rattle.std.specs.List.{All, list_all, range_with_len}
use Rattle.std.proofs.lemmas.Bool.{leb-false, leb-true, ltb-false, ltb-true, or_parts}
use Rattle.std.proofs.lemmas.List.{length-map}
use Rattle.std.proofs.lemmas.List.Elements.{All-append, All-cons, All-head, All-nil, All-push, All-tail}
use Rattle.std.proofs.lemmas.List.FromFn.{length-range_with_len}
use Rattle.std.proofs.lemmas.List.Sums.{sum_by-append, sum_by-cons}
use Rattle.std.proofs.lemmas.Result.{IfOk-at_ok}
use Rattle.text_lines.specs.Text.{lines_of, with_first}
use Rattle.run_script.specs.declared.events.Event.{Event}
use Rattle.run_script.specs.declared.events.Event.TheVariants.{Tick, Irq, Feed}
use Rattle.run_script.specs.Scripts.{Refusal}
use Rattle.run_script.specs.Statements.{byte_in, device_in, line_in, starts_by_hash, turn_in}
use Rattle.run_script.specs.Words.{is_allowed, words}
use Rattle.run_script.proofs.Known.{has_device_feed, has_device_irq, has_line_feed, has_line_irq, no_device_of_tick, no_line_of_tick}
use Rattle.run_script.proofs.Numbers.{number_within_bounds}
use Rattle.run_question.specs.declared.asked.Property.{Property}
use Rattle.run_question.specs.Properties.{property_said}
use Rattle.run_question.specs.Questions.{Arrival, Offer, Question}
use Rattle.run_question.specs.Reading.{Reading, arrival, arrivals_of, choice_count, ended, go_on, is_empty, joined, listed, nothing_read, offer, question_or_fault, schedule_count, stated_as, unless_many, way_count, with_arrival, with_lines, with_offer_of, with_said}
use Rattle.run_question.specs.Statements.{Said, Nothing, Arrives, Offers, Asks, Refused, asks, at_said, below_in, events_named, fed, from_said, irq_on, may_fail_in, offered, ranged, ranged_if, statement_of, words_said}
use Rattle.run_question.specs.Values.{ends_of, go_on as go_on_with, pieces, range_of, values_in, with_range, with_ranges}
use Rattle.explore_core.specs.Fine.{IsFine, IsFineArrival, IsFineOffer, IsKnown}

-- ## by a test

by_test : {X E : Type 0} (P : X → Type 0) (b : Bool) (x y : Result X E) → (b ≡ true → IfOk x P) → (b ≡ false → IfOk y P) → IfOk (cond b x y) P
by_test P true x y h k = h refl
by_test P false x y h k = k refl

some_by_test : {X : Type 0} (P : X → Type 0) (b : Bool) (x y : Option X) → (b ≡ true → IfSome x P) → (b ≡ false → IfSome y P) → IfSome (cond b x y) P
some_by_test P true x y h k = h refl
some_by_test P false x y h k = k refl

-- ## bytes

abbrev IsByte : ℕ → Type 0
IsByte b = b < 256

abbrev AreSomeBytes : List ℕ → Type 0
AreSomeBytes bs = (0 < length bs) × All IsByte bs

abbrev IsByteRange : ℕ × ℕ → Type 0
IsByteRange ends = (ends.0 ≤ ends.1) × (ends.1 < 256)

range_is_bytes : (n first : ℕ) → first + n ≤ 256 → All IsByte (range_with_len first n)
range_is_bytes zero first h = All-nil IsByte
range_is_bytes (suc n) first h = All-cons IsByte first (range_with_len (first + 1) n) (omega (arith, h)) (range_is_bytes n (first + 1) (omega (arith, h)))

ends_fine : (first last : Option ℕ) → ((n : ℕ) → last ≡ Some n → n ≤ 255) → IfSome (ends_of first last) IsByteRange
ends_fine None last h = tt
ends_fine (Some first) None h = tt
ends_fine (Some first) (Some last) h =
    some_by_test IsByteRange (nat_le first last) (Some (first, last)) None (λ le. (leb-true first last le, omega (arith, h last refl))) (λ e. tt)

byte_below : (word : List ℕ) (n : ℕ) → byte_in word ≡ Some n → n ≤ 255
byte_below word n e = (number_within_bounds 0 255 word n e).1

range_fine : (ps : List (List ℕ)) → IfSome (range_of ps) IsByteRange
range_fine [] = tt
range_fine (one ∷ []) = ends_fine (byte_in one) (byte_in one) (byte_below one)
range_fine (first ∷ last ∷ []) = ends_fine (byte_in first) (byte_in last) (byte_below last)
range_fine (first ∷ last ∷ more ∷ ps) = tt

with_range_fine : (known : List ℕ) (ends : Option (ℕ × ℕ)) → All IsByte known → IfSome ends IsByteRange → IfSome (with_range known ends) AreSomeBytes
with_range_fine known None all h = tt
with_range_fine known (Some ends) all h =
    let n = ends.1 + 1 - ends.0 in
    let first = h.0 in
    let last = h.1 in
    let long = length-append known (range_with_len ends.0 n) in
    let count = length-range_with_len ends.0 n in
    some_by_test AreSomeBytes (list_all (λ v. nat_lt v ends.0) known) (Some (known ++ range_with_len ends.0 n)) None
    (λ e. (omega (arith, first, long, count), All-append IsByte known (range_with_len ends.0 n) all (range_is_bytes n ends.0 (omega (arith, first, last))))) (λ e. tt)

goes_on_fine : (known : Option (List ℕ)) (rest : List ℕ → Option (List ℕ)) → IfSome known AreSomeBytes → ((bs : List ℕ) → AreSomeBytes bs → IfSome (rest bs) AreSomeBytes) → IfSome (go_on_with known rest) AreSomeBytes
goes_on_fine None rest h k = tt
goes_on_fine (Some bs) rest h k = k bs h

ranges_fine : (ps : List (List ℕ)) (known : List ℕ) → 0 < length known + length ps → All IsByte known → IfSome (with_ranges known ps) AreSomeBytes
unfolding with_ranges
ranges_fine [] known some all = (omega (arith, some), all)
ranges_fine (piece ∷ ps) known some all =
    goes_on_fine (with_range known (range_of (pieces 45 piece))) (λ more. with_ranges more ps) (with_range_fine known (range_of (pieces 45 piece)) all (range_fine (pieces 45 piece)))
    (λ bs fine. ranges_fine ps bs (omega (arith, fine.0)) fine.1)

some_with_first : (c : ℕ) (ps : List (List ℕ)) → 0 < length (with_first c ps)
some_with_first c [] = omega arith
some_with_first c (p ∷ ps) = omega arith

some_pieces : (mark : ℕ) (s : List ℕ) → 0 < length (pieces mark s)
unfolding pieces
some_pieces mark [] = omega arith
some_pieces mark (c ∷ cs) = go (nat_eq c mark)
  where
    go : (b : Bool) → 0 < length (cond b ([] ∷ pieces mark cs) (with_first c (pieces mark cs)))
    go true = omega arith
    go false = some_with_first c (pieces mark cs)

values_fine : (word : List ℕ) → IfSome (values_in word) AreSomeBytes
values_fine word = ranges_fine (pieces 44 word) [] (omega (arith, some_pieces 44 word)) (All-nil IsByte)

-- ## events

abbrev AreSomeEvents : List Event → Type 0
AreSomeEvents events = (0 < length events) × All IsKnown events

irq_fine : (line : Option ℕ) → ((n : ℕ) → line ≡ Some n → n ≤ 63) → IfOk (irq_on line) AreSomeEvents
irq_fine None h = tt
irq_fine (Some line) h =
    let low : line < 64 = omega (arith, h line refl) in
    (omega arith, All-cons IsKnown (Irq line) [] (has_line_irq line low, has_device_irq line) (All-nil IsKnown))

fed_all : (device : ℕ) → device < 8 → (bytes : List ℕ) → All IsByte bytes → All IsKnown (map (λ byte. Feed device byte) bytes)
fed_all device low [] h = All-nil IsKnown
fed_all device low (byte ∷ bytes) h =
    All-cons IsKnown (Feed device byte) (map (λ b. Feed device b) bytes) (has_line_feed device byte, has_device_feed device byte low (All-head IsByte byte bytes h)) (fed_all device low bytes (All-tail IsByte byte bytes h))

fed_fine : (device : Option ℕ) (bytes : Option (List ℕ)) → ((n : ℕ) → device ≡ Some n → n ≤ 7) → IfSome bytes AreSomeBytes → IfOk (fed device bytes) AreSomeEvents
fed_fine None bytes h k = tt
fed_fine (Some device) None h k = tt
fed_fine (Some device) (Some bytes) h k =
    let low : device < 8 = omega (arith, h device refl) in
    let some = k.0 in
    (omega (arith, some, length-map bytes (λ byte. Feed device byte)), fed_all device low bytes k.1)

events_fine : (ws : List (List ℕ)) → IfOk (events_named ws) AreSomeEvents
events_fine [] = tt
events_fine (kind ∷ []) =
    by_test AreSomeEvents (bytes_eq kind (codes "tick")) (Ok (Tick ∷ [])) (Err 2) (λ e. (omega arith, All-cons IsKnown Tick [] (no_line_of_tick, no_device_of_tick) (All-nil IsKnown))) (λ e. tt)
events_fine (kind ∷ line ∷ []) =
    by_test AreSomeEvents (bytes_eq kind (codes "irq")) (irq_on (line_in line)) (Err 2) (λ e. irq_fine (line_in line) (λ n is. (number_within_bounds 0 63 line n is).1)) (λ e. tt)
events_fine (kind ∷ device ∷ bytes ∷ []) =
    by_test AreSomeEvents (bytes_eq kind (codes "in")) (fed (device_in device) (values_in bytes)) (Err 2) (λ e. fed_fine (device_in device) (values_in bytes) (λ n is. (number_within_bounds 0 7 device n is).1) (values_fine bytes)) (λ e. tt)
events_fine (kind ∷ device ∷ bytes ∷ more ∷ ws) = tt

-- ## what a line says

abbrev IsFineSaid : Said → Type 0
IsFineSaid Nothing = ⊤
IsFineSaid (Arrives first below may_fail) = (first < below) × (below ≤ 1000000000)
IsFineSaid (Offers turn events) = IsFineOffer (offer turn events)
IsFineSaid (Asks property) = ⊤
IsFineSaid (Refused cause) = ⊤

said_by_test : (b : Bool) (x y : Said) → (b ≡ true → IsFineSaid x) → IsFineSaid y → IsFineSaid (cond b x y)
said_by_test true x y h k = h refl
said_by_test false x y h k = k

ranged_fine : (first below : Option ℕ) (may_fail : Bool) → ((n : ℕ) → below ≡ Some n → n ≤ 1000000000) → IsFineSaid (ranged first below may_fail)
ranged_fine None below may_fail h = tt
ranged_fine (Some first) None may_fail h = tt
ranged_fine (Some first) (Some below) may_fail h = said_by_test (nat_lt first below) (Arrives first below may_fail) (Refused 3) (λ lt. (ltb-true first below lt, h below refl)) tt

ranged_if_fine : (first below : Option ℕ) (may_fail : Option Bool) → ((n : ℕ) → below ≡ Some n → n ≤ 1000000000) → IsFineSaid (ranged_if first below may_fail)
ranged_if_fine first below None h = tt
ranged_if_fine first below (Some may_fail) h = ranged_fine first below may_fail h

from_fine : (ws : List (List ℕ)) → IsFineSaid (from_said ws)
from_fine [] = tt
from_fine (first ∷ []) = tt
from_fine (first ∷ word ∷ []) = tt
from_fine (first ∷ word ∷ below ∷ rest) =
    said_by_test (bytes_eq word (codes "below")) (ranged_if (turn_in first) (below_in below) (may_fail_in rest)) (Refused 2)
    (λ e. ranged_if_fine (turn_in first) (below_in below) (may_fail_in rest) (λ n is. (number_within_bounds 1 1000000000 below n is).1)) tt

offered_fine : (turn : Option ℕ) (events : Result (List Event) ℕ) → ((n : ℕ) → turn ≡ Some n → n ≤ 999999999) → IfOk events AreSomeEvents → IsFineSaid (offered turn events)
offered_fine turn (Err cause) h k = tt
offered_fine None (Ok events) h k = tt
offered_fine (Some turn) (Ok events) h k = record { turn = omega (arith, h turn refl); some = k.0; known = k.1 }

at_fine : (ws : List (List ℕ)) → IsFineSaid (at_said ws)
at_fine [] = tt
at_fine (turn ∷ rest) = offered_fine (turn_in turn) (events_named rest) (λ n is. (number_within_bounds 0 999999999 turn n is).1) (events_fine rest)

asks_fine : (property : Result Property ℕ) → IsFineSaid (asks property)
asks_fine (Ok property) = tt
asks_fine (Err cause) = tt

words_fine : (ws : List (List ℕ)) → IsFineSaid (words_said ws)
words_fine [] = tt
words_fine (word ∷ rest) =
    said_by_test (starts_by_hash word) Nothing _ (λ e. tt)
    (said_by_test (bytes_eq word (codes "from")) (from_said rest) _ (λ e. from_fine rest)
    (said_by_test (bytes_eq word (codes "at")) (at_said rest) _ (λ e. at_fine rest)
    (asks_fine (property_said (word ∷ rest)))))

said_fine : (line : List ℕ) → IsFineSaid (statement_of line)
unfolding statement_of
said_fine line = said_by_test (list_all is_allowed line) (words_said (words line)) (Refused 1) (λ e. words_fine (words line)) tt

-- ## what is read so far

-- an arrival, perhaps still without offers
record IsRanged (a : Arrival) : Type 0 where
  pub range : a.first < a.below
  pub below : a.below ≤ 1000000000
  pub offers : All IsFineOffer a.offers

abbrev IsWhole : Arrival → Type 0
IsWhole a = IsRanged a × (0 < length a.offers)

abbrev offer_count : List Arrival → ℕ
offer_count arrivals = sum_by (λ a. length a.offers) arrivals

record IsFineSoFar (r : Reading) : Type 0 where
  pub before : All IsWhole r.before
  pub last : IfSome r.last IsRanged
  pub arrivals : length r.before + length (listed r.last) ≤ 8
  pub properties : length r.properties ≤ 16
  pub events : offer_count r.before + offer_count (listed r.last) ≡ r.events
  pub few : r.events ≤ 256

record IsFineRead (q : Question) : Type 0 where
  pub arrivals : length q.arrivals ≤ 8
  pub properties : length q.properties ≤ 16
  pub each : All IsWhole q.arrivals
  pub events : offer_count q.arrivals ≤ 256

whole_last : (last : Option Arrival) → is_empty last ≡ false → IfSome last IsRanged → All IsWhole (listed last)
whole_last None e h = All-nil IsWhole
whole_last (Some a) e h = All-cons IsWhole a [] (h, omega (arith, ltb-false (length a.offers) 1 e)) (All-nil IsWhole)

all_whole : (r : Reading) → IsFineSoFar r → is_empty r.last ≡ false → All IsWhole (arrivals_of r)
all_whole r fine e = All-append IsWhole r.before (listed r.last) fine.before (whole_last r.last e fine.last)

abbrev IsFineNext : Result Reading ℕ → Type 0
IsFineNext next = IfOk next IsFineSoFar

arrival_fine : (r : Reading) → IsFineSoFar r → (first below : ℕ) (may_fail : Bool) → first < below → below ≤ 1000000000 → IsFineNext (with_arrival r (arrival first below may_fail))
arrival_fine r fine first below may_fail range most =
    by_test IsFineSoFar (nat_lt 0 (length r.properties) || is_empty r.last) (Err 4) _ (λ e. tt) (λ e.
    by_test IsFineSoFar (nat_le 8 (length (arrivals_of r))) (Err 5) (Ok next) (λ few. tt) (λ few.
    let room = leb-false 8 (length (arrivals_of r)) few in
    let count = sum_by-append (λ (a : Arrival). length a.offers) r.before (listed r.last) in
    let own = fine.events in
    record {
      before = all_whole r fine (or_parts (nat_lt 0 (length r.properties)) (is_empty r.last) e).1;
      last = record { range = range; below = most; offers = All-nil IsFineOffer };
      arrivals = omega (arith, room);
      properties = fine.properties;
      events = omega (arith, count, own, sum_by-cons (λ (a : Arrival). length a.offers) (arrival first below may_fail) []);
      few = fine.few;
    }))
  where
    next : Reading
    next = record { before = arrivals_of r; last = Some (arrival first below may_fail); from = 0; events = r.events; properties = r.properties }

offer_fine : (r : Reading) → IsFineSoFar r → (o : Offer) → IsFineOffer o → (last : Option Arrival) → r.last ≡ last → IsFineNext (with_offer_of last r o)
offer_fine r fine o known None is = tt
offer_fine r fine o known (Some a) is =
    by_test IsFineSoFar (nat_lt 0 (length r.properties) || nat_lt o.turn r.from) (Err 4) _ (λ e. tt) (λ e.
    by_test IsFineSoFar (nat_le 256 r.events) (Err 5) (Ok next) (λ few. tt) (λ few.
    let room = leb-false 256 r.events few in
    let own : IsRanged a = subst (λ l. IfSome l IsRanged) is fine.last in
    let long = length-append a.offers (o ∷ []) in
    let count : offer_count r.before + offer_count (a ∷ []) ≡ r.events = subst (λ l. offer_count r.before + offer_count (listed l) ≡ r.events) is fine.events in
    let size : length r.before + length (a ∷ []) ≤ 8 = subst (λ l. length r.before + length (listed l) ≤ 8) is fine.arrivals in
    record {
      before = fine.before;
      last = record { range = own.range; below = own.below; offers = All-push IsFineOffer a.offers o own.offers known };
      arrivals = size;
      properties = fine.properties;
      events = omega (arith, count, long, sum_by-cons (λ (x : Arrival). length x.offers) a [], sum_by-cons (λ (x : Arrival). length x.offers) longer []);
      few = omega (arith, room);
    }))
  where
    longer : Arrival
    longer = record a { offers = a.offers ++ o ∷ [] }

    next : Reading
    next = record { before = r.before; last = Some longer; from = o.turn; events = r.events + 1; properties = r.properties }

said_so_far : (r : Reading) → IsFineSoFar r → (number : ℕ) (line : List ℕ) (said : Said) → IsFineSaid said → IsFineNext (with_said r number line said)
said_so_far r fine number line Nothing h = fine
said_so_far r fine number line (Arrives first below may_fail) h = arrival_fine r fine first below may_fail h.0 h.1
said_so_far r fine number line (Offers turn events) h = offer_fine r fine (offer turn events) h r.last refl
said_so_far r fine number line (Asks property) h =
    let p = stated_as number (joined (words line)) property in
    by_test IsFineSoFar (is_empty r.last) (Err 4) _ (λ e. tt) (λ e.
    by_test IsFineSoFar (nat_le 16 (length r.properties)) (Err 5) _ (λ few. tt) (λ few.
    let room = leb-false 16 (length r.properties) few in
    record {
      before = fine.before;
      last = fine.last;
      arrivals = fine.arrivals;
      properties = omega (arith, room, length-append r.properties (p ∷ []));
      events = fine.events;
      few = fine.few;
    }))
said_so_far r fine number line (Refused cause) h = tt

-- ## the lines

next_lines : (number : ℕ) (next : Result Reading ℕ) (rest : Reading → Result Question Refusal) → IsFineNext next → ((r : Reading) → IsFineSoFar r → IfOk (rest r) IsFineRead) → IfOk (go_on number next rest) IsFineRead
next_lines number (Ok r) rest h k = k r h
next_lines number (Err cause) rest h k = tt

ended_fine : (r : Reading) (number : ℕ) → IsFineSoFar r → IfOk (ended r number) IsFineRead
ended_fine r number fine =
    by_test IsFineRead (is_empty r.last) (Err (4, number)) (Ok (record { arrivals = arrivals_of r; properties = r.properties })) (λ e. tt) (λ e.
    let size = fine.arrivals in
    let count = fine.events in
    let few = fine.few in
    record {
      arrivals = omega (arith, size, length-append r.before (listed r.last));
      properties = fine.properties;
      each = all_whole r fine e;
      events = omega (arith, count, few, sum_by-append (λ (a : Arrival). length a.offers) r.before (listed r.last));
    })

lines_fine : (lines : List (List ℕ)) (r : Reading) (number : ℕ) → IsFineSoFar r → IfOk (with_lines r number lines) IsFineRead
unfolding with_lines
lines_fine [] r number fine = ended_fine r number fine
lines_fine (line ∷ lines) r number fine =
    next_lines number (with_said r number line (statement_of line)) (λ next. with_lines next (number + 1) lines) (said_so_far r fine number line (statement_of line) (said_fine line))
    (λ next more. lines_fine lines next (number + 1) more)

nothing_fine : IsFineSoFar nothing_read
nothing_fine = record {
  before = All-nil IsWhole;
  last = tt;
  arrivals = omega arith;
  properties = omega arith;
  events = refl;
  few = omega arith;
}

-- ## how many choices

some_choices : (offers : List Offer) → All IsFineOffer offers → 0 < choice_count offers
unfolding choice_count
some_choices [] h = omega arith
some_choices (o ∷ offers) h =
    let own = (All-head IsFineOffer o offers h).some in
    let more = some_choices offers (All-tail IsFineOffer o offers h) in
    omega (arith, more, mul-le-mul_right (choice_count offers) own)

more_ways : (a : Arrival) → IsWhole a → choice_count a.offers ≤ way_count a
more_ways a h =
    let range = h.0.range in
    let some : 1 ≤ a.below - a.first = omega (arith, range) in
    let times = mul-le-mul_right (choice_count a.offers) some in
    omega (arith, times)

some_ways : (a : Arrival) → IsWhole a → 0 < way_count a
some_ways a h = omega (arith, more_ways a h, some_choices a.offers h.0.offers)

some_schedules : (arrivals : List Arrival) → All IsWhole arrivals → 0 < schedule_count arrivals
unfolding schedule_count
some_schedules [] h = omega arith
some_schedules (a ∷ rest) h =
    let own : 1 ≤ way_count a = omega (arith, some_ways a (All-head IsWhole a rest h)) in
    let more = some_schedules rest (All-tail IsWhole a rest h) in
    let times = mul-le-mul_right (schedule_count rest) own in
    omega (arith, more, times)

each_fine : (arrivals : List Arrival) → All IsWhole arrivals → schedule_count arrivals ≤ 1000000000000000000 → All IsFineArrival arrivals
unfolding schedule_count
each_fine [] h few = All-nil IsFineArrival
each_fine (a ∷ rest) h few =
    let whole = All-head IsWhole a rest h in
    let others = All-tail IsWhole a rest h in
    let own : 1 ≤ way_count a = omega (arith, some_ways a whole) in
    let more : 1 ≤ schedule_count rest = omega (arith, some_schedules rest others) in
    let rests = mul-le-mul_right (schedule_count rest) own in
    let first = mul-le-mul_right (way_count a) more in
    let turned = mul_comm (schedule_count rest) (way_count a) in
    let range = whole.0.range in
    All-cons IsFineArrival a rest
    (record {
      range = whole.0.range;
      below = whole.0.below;
      some = whole.1;
      offers = whole.0.offers;
      few = omega (arith, few, first, turned, more_ways a whole);
    })
    (each_fine rest others (omega (arith, few, rests)))

few_fine : (read : Result Question Refusal) → IfOk read IsFineRead → IfOk (unless_many read) IsFine
few_fine (Err refusal) h = tt
few_fine (Ok q) h =
    by_test IsFine (nat_le (schedule_count q.arrivals) 1000000000000000000) (Ok q) (Err (5, 0)) (λ le.
    let few = leb-true (schedule_count q.arrivals) 1000000000000000000 le in
    record {
      arrivals = h.arrivals;
      properties = h.properties;
      each = each_fine q.arrivals h.each few;
      events = h.events;
      few = few;
    }) (λ e. tt)

pub fine_read : (bytes : List ℕ) (q : Question) → question_or_fault bytes ≡ Ok q → IsFine q
fine_read bytes q e = IfOk-at_ok IsFine e (few_fine _ (lines_fine (lines_of bytes) nothing_read 1 nothing_fine))
