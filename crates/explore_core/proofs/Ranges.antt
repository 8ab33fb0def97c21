-- Ways in their ranges: they make a schedule of the product, whose script may be laid.
use Rattle.std.proofs.Common.{◌≡◌, ◌∙◌, ℕ, ◌+◌, ◌-◌, ◌<◌, ◌≤◌, Bool, true, false, List, [], ◌∷◌, ◌++◌, length, map, drop, zero, suc, ◌⊎◌, inl, inr, Option, Some, None, is_some, option_map, if◌then◌else◌, refl, sym, ap, subst, arith, length-append}
use Rattle.std.specs.Prelude.{Contains, slice_get, slice_index_or}
use Rattle.std.specs.List.{All, flat_map, range_with_len}
use Rattle.std.proofs.lemmas.Bool.{both_ways}
use Rattle.std.proofs.lemmas.List.{length-map}
use Rattle.std.proofs.lemmas.List.Elements.{Contains-append_left, Contains-append_right, Contains-get_or}
use Rattle.std.proofs.lemmas.List.FromFn.{get_or-range_with_len, length-range_with_len}
use Rattle.std.proofs.lemmas.Option.{none-some, same_Some}
use Rattle.run_script.specs.Events.{script_data}
use Rattle.run_script.specs.Laying.{HasRoom}
use Rattle.run_script.specs.Scripts.{Listed, ScriptData}
use Rattle.run_script.specs.declared.script.Script.{Script}
use Rattle.run_question.specs.Questions.{Question}
use Rattle.run_question.specs.Reading.{choice_count}
use Rattle.board_model.specs.Laid.{is_script}
use Rattle.explore_core.specs.declared.given.Given.{Given}
use Rattle.explore_core.specs.declared.search.Search.{Search}
use Rattle.explore_core.specs.declared.ways.Way.{Way}
use Rattle.explore_core.specs.Answers.{Asking}
use Rattle.explore_core.specs.Fine.{IsFine, IsFineArrival}
use Rattle.explore_core.specs.Schedules.{Arrival, Coming, Offer, Schedule, all_comings, choices, comings, events_of_schedule, events_of_way, schedules, ways as ways_of}
use Rattle.explore_core.specs.Searching.{AreInRange, HasRoomFor, IsAsked, IsInRange, IsLayable, events_in}
use Rattle.explore_core.specs.Walked.{Placed, placed}
use Rattle.explore_core.specs.Ways.{AreWays, IsWay, chosen, coming_of, schedule_by, schedule_in, way_at}
use Rattle.explore_core.proofs.Chosen.{choices_long, chosen_is}
use Rattle.explore_core.proofs.Onward.{Contains-cons_cases, Contains-map}

-- ## the schedule of ways in their ranges is one of the product

among_flat : {X A : Type 0} (f : X → List A) (xs : List X) (x : X) (y : A) → Contains xs x → Contains (f x) y → Contains (flat_map f xs) y
among_flat f [] x y h k = absurd (let lt = h.1 in omega (arith, lt))
among_flat f (z ∷ xs) x y h k = go (Contains-cons_cases z xs x h) (among_flat f xs x y)
  where
    go : (z ≡ x) ⊎ Contains xs x → (Contains xs x → Contains (f x) y → Contains (flat_map f xs) y) → Contains (flat_map f (z ∷ xs)) y
    go (inl e) more = Contains-append_left (f z) (flat_map f xs) y (subst (λ w. Contains (f w) y) (sym e) k)
    go (inr h) more = Contains-append_right (f z) (flat_map f xs) y (more h k)

none_among : (may_fail : Bool) → may_fail ≡ true → Contains {X = Option Coming} (if may_fail then None ∷ [] else []) None
none_among true is = (0, omega arith, refl)
none_among false is = absurd (both_ways false refl is)

turn_among : (first below turn : ℕ) → first ≤ turn → turn < below → Contains (range_with_len first (below - first)) turn
turn_among first below turn le lt =
    let at : first + (turn - first) ≡ turn = omega (arith, le) in
    let long = length-range_with_len first (below - first) in
    (turn - first, omega (arith, long, le, lt), get_or-range_with_len first (below - first) (turn - first) turn (omega (arith, le, lt)) ∙ at)

chosen_among : (offers : List Offer) (choice : ℕ) → choice < choice_count offers → Contains (choices offers) (chosen offers choice)
chosen_among offers choice lt =
    let long = choices_long offers in
    subst (Contains (choices offers)) (sym (chosen_is offers choice lt)) (Contains-get_or (choices offers) choice [] (omega (arith, long, lt)))

way_among : (a : Arrival) (way : Option Way) → IsInRange a way → Contains (ways_of a) (option_map (coming_of a) way)
way_among a None may = Contains-append_left (if a.may_fail then None ∷ [] else []) (map (λ c. Some c) (all_comings a)) None (none_among a.may_fail may)
way_among a (Some way) h =
    let come = coming_of a way in
    let in_turn : List Listed → Coming = λ events. record { turn = way.turn; events = events } in
    let here : Contains (comings a way.turn) come = Contains-map in_turn (choices a.offers) (chosen a.offers way.choice) (chosen_among a.offers way.choice h.2) in
    Contains-append_right (if a.may_fail then None ∷ [] else []) (map (λ c. Some c) (all_comings a)) (Some come)
    (Contains-map (λ c. Some c) (all_comings a) come
    (among_flat (comings a) (range_with_len a.first (a.below - a.first)) way.turn come (turn_among a.first a.below way.turn h.0 h.1) here))

from_place : (arrivals : List Arrival) (place : ℕ) (ways : List (Option Way)) → AreInRange place arrivals ways → Contains (schedules arrivals) (schedule_by place arrivals ways)
unfolding schedules
from_place [] place ways h = (0, omega arith, refl)
from_place (a ∷ rest) place ways h =
    let way = option_map (coming_of a) (way_at ways place) in
    let more = schedule_by (place + 1) rest ways in
    among_flat (λ (w : Option Coming). map (λ (l : Schedule). w ∷ l) (schedules rest)) (ways_of a) way (way ∷ more)
    (way_among a (way_at ways place) h.0)
    (Contains-map (λ (l : Schedule). way ∷ l) (schedules rest) more (from_place rest (place + 1) ways h.1))

pub in_range_among : (arrivals : List Arrival) (ways : List (Option Way)) → AreInRange 0 arrivals ways → Contains (schedules arrivals) (schedule_in arrivals ways)
in_range_among arrivals ways h = from_place arrivals 0 ways h

-- ## how many events they have

chosen_long : (offers : List Offer) (choice : ℕ) → length (chosen offers choice) ≡ length offers
chosen_long [] choice = refl
chosen_long (o ∷ rest) choice = ap (λ n. suc n) (chosen_long rest choice)

some_long : (a : Arrival) (way : Way) → length (events_of_way (Some (coming_of a way))) ≡ length a.offers
some_long a way = length-map (chosen a.offers way.choice) (λ (d : Listed). (way.turn + d.0, d.1)) ∙ chosen_long a.offers way.choice

way_long : (a : Arrival) (old new : Option Way) → is_some old ≡ is_some new → length (events_of_way (option_map (coming_of a) old)) ≡ length (events_of_way (option_map (coming_of a) new))
way_long a None None same = refl
way_long a None (Some w) same = absurd (both_ways false refl same)
way_long a (Some v) None same = absurd (both_ways false refl (sym same))
way_long a (Some v) (Some w) same = some_long a v ∙ sym (some_long a w)

ways_long : (arrivals : List Arrival) (place : ℕ) (old new : List (Option Way)) → ((at : ℕ) → is_some (way_at old at) ≡ is_some (way_at new at)) →
    length (events_of_schedule (schedule_by place arrivals old)) ≡ length (events_of_schedule (schedule_by place arrivals new))
ways_long [] place old new same = refl
ways_long (a ∷ rest) place old new same =
    let of : List (Option Way) → List Listed = λ ws. events_of_way (option_map (coming_of a) (way_at ws place)) in
    let behind : List (Option Way) → List Listed = λ ws. events_of_schedule (schedule_by (place + 1) rest ws) in
    length-append (of old) (behind old)
    ∙ (λ i. way_long a (way_at old place) (way_at new place) (same place) i + ways_long rest (place + 1) old new same i)
    ∙ sym (length-append (of new) (behind new))

-- the same arrivals come, so as many events do
pub same_events : (a : Asking) (old new : List (Option Way)) → IsFine a.question → ((place : ℕ) → is_some (way_at old place) ≡ is_some (way_at new place)) → events_in a old ≡ events_in a new
same_events a old new fine same = ap (λ n. length a.scenario.script.events + n) (ways_long a.question.arrivals 0 old new same)

-- ## their script may be laid

are_ways : (arrivals : List Arrival) (place : ℕ) (ways : List (Option Way)) → AreInRange place arrivals ways → AreWays place arrivals ways
are_ways [] place ways h = tt
are_ways (a ∷ rest) place ways h = (one (way_at ways place) h.0, are_ways rest (place + 1) ways h.1)
  where
    one : (way : Option Way) → IsInRange a way → IsWay a way
    one None h = tt
    one (Some way) h = h.2

pub layable_at : {X : Type 0} {H : X → Type 0} (given : Given) (a : Asking) (w : Search X H) (ways : List (Option Way)) → IsAsked a given → AreInRange 0 a.question.arrivals ways → HasRoomFor (events_in a ways) w →
    IsLayable given (record w { ways = ways })
layable_at given a w ways asked range room =
    let question = sym asked.is.question in
    let script = sym asked.is.script in
    record {
      fine = subst (λ (q : Question). All IsFineArrival q.arrivals) question asked.fine.each;
      few = subst (λ (q : Question). length q.arrivals ≤ 8) question asked.fine.arrivals;
      ways = subst (λ (q : Question). AreWays 0 q.arrivals ways) question (are_ways a.question.arrivals 0 ways range);
      script =
          subst (λ (q : Question). is_script ((script_data given.script).events ++ events_of_schedule (schedule_in q.arrivals ways)) ≡ true) question
          (subst (λ (s : ScriptData). is_script (s.events ++ events_of_schedule (schedule_in a.question.arrivals ways)) ≡ true) script
          (asked.scripts (schedule_in a.question.arrivals ways) (in_range_among a.question.arrivals ways range)));
      room =
          subst (λ (q : Question). HasRoom w.spare (length (script_data given.script).events + length (events_of_schedule (schedule_in q.arrivals ways)))) question
          (subst (λ (s : ScriptData). HasRoom w.spare (length s.events + length (events_of_schedule (schedule_in a.question.arrivals ways)))) script room.spare);
    }

-- a script that lists so many events has room for them
pub room_of : (s : Script) (n : ℕ) → length (script_data s).events ≡ n → HasRoom s n
room_of s n is = omega (arith, s.events.ok.0, s.events.ok.1, is)

-- ## place by place

pub schedule_at : (arrivals : List Arrival) (place k n : ℕ) (b : Arrival) (ways : List (Option Way)) (by : Placed → Option Coming) → place + k ≡ n → slice_get arrivals k ≡ Some b →
    schedule_by place arrivals ways ≡ map by (placed arrivals place) → option_map (coming_of b) (way_at ways n) ≡ by (n, b)
schedule_at [] place k n b ways by at is same = absurd (none-some b is)
schedule_at (x ∷ rest) place zero n b ways by at is same =
    let here : place ≡ n = omega (arith, at) in
    let one : x ≡ b = same_Some x b is in
    let first : option_map (coming_of x) (way_at ways place) ≡ by (place, x) = ap (λ (l : Schedule). slice_index_or l 0 None) same in
    subst (λ m. option_map (coming_of b) (way_at ways m) ≡ by (m, b)) here (subst (λ (y : Arrival). option_map (coming_of y) (way_at ways place) ≡ by (place, y)) one first)
schedule_at (x ∷ rest) place (suc k) n b ways by at is same =
    schedule_at rest (place + 1) k n b ways by (omega (arith, at)) is (ap (λ (l : Schedule). drop 1 l) same)

pub same_schedule : (arrivals : List Arrival) (place : ℕ) (ways : List (Option Way)) (by : Placed → Option Coming) →
    ((k n : ℕ) (b : Arrival) → place + k ≡ n → slice_get arrivals k ≡ Some b → option_map (coming_of b) (way_at ways n) ≡ by (n, b)) → schedule_by place arrivals ways ≡ map by (placed arrivals place)
same_schedule [] place ways by each = refl
same_schedule (x ∷ rest) place ways by each =
    let here = each 0 place x (omega arith) refl in
    let more = same_schedule rest (place + 1) ways by (λ k n b at is. each (suc k) n b (omega (arith, at)) is) in
    λ i. here i ∷ more i

pub range_at : (arrivals : List Arrival) (place k n : ℕ) (b : Arrival) (ways : List (Option Way)) → place + k ≡ n → slice_get arrivals k ≡ Some b → AreInRange place arrivals ways → IsInRange b (way_at ways n)
range_at [] place k n b ways at is h = absurd (none-some b is)
range_at (x ∷ rest) place zero n b ways at is h =
    let here : place ≡ n = omega (arith, at) in
    let one : x ≡ b = same_Some x b is in
    subst (λ m. IsInRange b (way_at ways m)) here (subst (λ (y : Arrival). IsInRange y (way_at ways place)) one h.0)
range_at (x ∷ rest) place (suc k) n b ways at is h = range_at rest (place + 1) k n b ways (omega (arith, at)) is h.1

pub all_in_range : (arrivals : List Arrival) (place : ℕ) (ways : List (Option Way)) → ((k n : ℕ) (b : Arrival) → place + k ≡ n → slice_get arrivals k ≡ Some b → IsInRange b (way_at ways n)) → AreInRange place arrivals ways
all_in_range [] place ways each = tt
all_in_range (x ∷ rest) place ways each =
    (each 0 place x (omega arith) refl, all_in_range rest (place + 1) ways (λ k n b at is. each (suc k) n b (omega (arith, at)) is))
