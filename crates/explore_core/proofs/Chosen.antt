-- The choices of an arrival by their numbers, and the script of a schedule whose events are listed one by one.
use Rattle.std.proofs.Common.{◌≡◌, ◌∙◌, ℕ, zero, suc, ◌+◌, ◌-◌, ◌*◌, ◌/◌, ◌%◌, ◌<◌, ◌≤◌, Bool, Option, Some, None, option_map, List, [], ◌∷◌, ◌++◌, length, map, fold, drop, subst, get_or, slice_index_or, is_some, nat_le, ◌||◌, refl, sym, ap, arith, mul_comm, mul-div_cancel, mul-pos, mod-eq_of_lt, div-add-mod'}
use Rattle.std.specs.List.{All, flat_map, range_with_len}
use Rattle.std.proofs.Math.Nat.{add-mul-div_right, add-mul-mod_self_right}
use Rattle.std.proofs.lemmas.List.{at_drop_all, at_drop_more, drop-map, get_or_append_left, get_or_default, get_or-append-add, get_or-map, length-append, length-map}
use Rattle.std.proofs.lemmas.List.Elements.{All-drop, All-head, All-tail}
use Rattle.std.proofs.lemmas.List.FromFn.{fill_by_all}
use Rattle.std.proofs.lemmas.List.Sorted.{list_any-IsPermutation}
use Rattle.std.proofs.lemmas.Nat.{div_below, mod_below}
use Rattle.run_script.specs.declared.events.Event.{Event}
use Rattle.run_script.specs.declared.events.Event.TheVariants.{Tick}
use Rattle.run_script.specs.Scripts.{Listed, ScriptData, ticks_of}
use Rattle.run_question.specs.declared.question.Offer as offer_code
use Rattle.run_question.specs.declared.question.Arrival as arrival_code
use Rattle.run_question.specs.Questions.{arrival_data, offer_data}
use Rattle.run_question.specs.Reading.{choice_count}
use Rattle.board_model.specs.Laid.{postponed}
use Rattle.board_model.specs.SameScripts.{AreEquivalent}
use Rattle.explore_core.specs.declared.ways.Way.{Way}
use Rattle.explore_core.specs.Answers.{listed_in}
use Rattle.explore_core.specs.Exploring.{latest}
use Rattle.explore_core.specs.Fine.{IsFineArrival, IsFineOffer, IsKnown}
use Rattle.explore_core.specs.Schedules.{Arrival, Coming, Offer, Schedule, choices, comings, events_of_schedule, events_of_way}
use Rattle.explore_core.specs.Ways.{chosen, coming_of, laid_by, schedule_by, way_at}
use Rattle.explore_core.proofs.Listing.{all_in_turn, all_listed}

-- ## how many there are

abbrev begun_with : ℕ → List (List Listed) → Event → List (List Listed)
begun_with turn rests event = map (λ more. (turn, event) ∷ more) rests

rows_long : (turn : ℕ) (events : List Event) (rests : List (List Listed)) → length (flat_map (begun_with turn rests) events) ≡ length events * length rests
rows_long turn [] rests = grind (arith)
rows_long turn (x ∷ events) rests =
    let this = begun_with turn rests x in
    let one : length this ≡ length rests = length-map rests (λ more. (turn, x) ∷ more) in
    let cut = length-append this (flat_map (begun_with turn rests) events) in
    let more = rows_long turn events rests in
    grind (arith, one, cut, more)

pub choices_long : (offers : List Offer) → length (choices offers) ≡ choice_count offers
unfolding choices choice_count
choices_long [] = refl
choices_long (o ∷ rest) = rows_long o.turn o.events (choices rest) ∙ ap (λ n. length o.events * n) (choices_long rest)

-- ## the one that has a number

some_left : (n w : ℕ) → 0 < n * w → 0 < n
some_left zero w some = absurd (omega (arith, some))
some_left (suc n) w some = omega arith

some_right : (n w : ℕ) → 0 < n * w → 0 < w
some_right n zero some = absurd (omega (arith, some))
some_right n (suc w) some = omega arith

-- after as many as there are they begin again
again : (offers : List Offer) (rounds choice : ℕ) → 0 < choice_count offers → chosen offers (choice + rounds * choice_count offers) ≡ chosen offers choice
unfolding choice_count
again [] rounds choice some = refl
again (o ∷ rest) rounds choice some =
    let n = length o.events in
    let w = choice_count rest in
    let more : 0 < w = some_right n w some in
    let whole : choice + rounds * (n * w) ≡ choice + rounds * n * w = omega arith in
    let here : (choice + rounds * n * w) / w % n ≡ choice / w % n = ap (λ k. k % n) (add-mul-div_right choice (rounds * n) {z = w} more) ∙ add-mul-mod_self_right (choice / w) rounds n in
    let later : chosen rest (choice + rounds * n * w) ≡ chosen rest choice = again rest (rounds * n) choice more in
    ap (chosen (o ∷ rest)) whole
    ∙ ap (λ k. (o.turn, slice_index_or o.events k Tick) ∷ chosen rest (choice + rounds * n * w)) here
    ∙ ap (λ (l : List Listed). (o.turn, slice_index_or o.events (choice / w % n) Tick) ∷ l) later

one_row : (turn : ℕ) (events : List Event) (rests : List (List Listed)) (place rest : ℕ) (e : Event) → place < length events → rest < length rests →
    get_or (flat_map (begun_with turn rests) events) (place * length rests + rest) [] ≡ (turn, get_or events place e) ∷ get_or rests rest []
one_row turn [] rests place rest e lt inside = absurd (omega (arith, lt))
one_row turn (x ∷ events) rests zero rest e lt inside =
    let this = begun_with turn rests x in
    let others = flat_map (begun_with turn rests) events in
    let long : length this ≡ length rests = length-map rests (λ more. (turn, x) ∷ more) in
    let at : zero * length rests + rest ≡ rest = omega arith in
    ap (λ k. get_or (this ++ others) k []) at
    ∙ get_or_append_left this others [] rest (omega (arith, long, inside))
    ∙ get_or-map (λ (more : List Listed). (turn, x) ∷ more) rests rest [] [] inside
one_row turn (x ∷ events) rests (suc place) rest e lt inside =
    let this = begun_with turn rests x in
    let others = flat_map (begun_with turn rests) events in
    let long : length this ≡ length rests = length-map rests (λ more. (turn, x) ∷ more) in
    let at : suc place * length rests + rest ≡ length this + (place * length rests + rest) = omega (arith, long) in
    ap (λ k. get_or (this ++ others) k []) at
    ∙ get_or-append-add this others (place * length rests + rest) []
    ∙ one_row turn events rests place rest e (omega (arith, lt)) inside

pub chosen_is : (offers : List Offer) (choice : ℕ) → choice < choice_count offers → chosen offers choice ≡ slice_index_or (choices offers) choice []
unfolding choices choice_count
chosen_is [] zero lt = refl
chosen_is [] (suc choice) lt = absurd (omega (arith, lt))
chosen_is (o ∷ rest) choice lt =
    let n = length o.events in
    let w = choice_count rest in
    let some : 0 < w = some_right n w (omega (arith, lt)) in
    let place = choice / w in
    let behind = choice % w in
    let long = choices_long rest in
    let inside : place < n = div_below choice w n some lt in
    let within : behind < w = mod_below choice w some in
    let cut : place * w + behind ≡ choice = div-add-mod' choice w in
    let at : place * length (choices rest) + behind ≡ choice = ap (λ k. place * k + behind) long ∙ cut in
    let first : place % n ≡ place = mod-eq_of_lt inside in
    let turned : choice ≡ behind + place * w = omega (arith, cut) in
    let later : chosen rest choice ≡ slice_index_or (choices rest) behind [] = ap (chosen rest) turned ∙ again rest place behind some ∙ chosen_is rest behind within in
    let row = one_row o.turn o.events (choices rest) place behind Tick inside (omega (arith, long, within)) in
    ap (λ k. (o.turn, slice_index_or o.events k Tick) ∷ chosen rest choice) first
    ∙ ap (λ (l : List Listed). (o.turn, slice_index_or o.events place Tick) ∷ l) later
    ∙ sym row
    ∙ ap (λ k. slice_index_or (flat_map (begun_with o.turn (choices rest)) o.events) k []) at

-- ## how an arrival comes

map_twice : {X Y Z : Type 0} (f : Y → Z) (g : X → Y) (xs : List X) → map f (map g xs) ≡ map (λ x. f (g x)) xs
map_twice f g [] = refl
map_twice f g (x ∷ xs) = ap (λ l. f (g x) ∷ l) (map_twice f g xs)

choices_are_chosen : (offers : List Offer) → choices offers ≡ map (chosen offers) (range_with_len 0 (choice_count offers))
choices_are_chosen offers = fill_by_all (chosen offers) (choices offers) (choice_count offers) [] (choices_long offers) (λ k lt. sym (chosen_is offers k lt))

abbrev in_turn : ℕ → List Listed → Coming
in_turn turn events = record { turn = turn; events = events }

pub comings_are_ways : (a : Arrival) (turn : ℕ) → comings a turn ≡ map (λ choice. coming_of a (record { turn = turn; choice = choice })) (range_with_len 0 (choice_count a.offers))
comings_are_ways a turn = ap (map (in_turn turn)) (choices_are_chosen a.offers) ∙ map_twice (in_turn turn) (chosen a.offers) (range_with_len 0 (choice_count a.offers))

pub latest_is : (a : Arrival) → 0 < choice_count a.offers → latest a ≡ coming_of a (record { turn = a.below - 1; choice = 0 })
latest_is a some = ap (in_turn (a.below - 1)) (sym (chosen_is a.offers 0 some))

pub some_of_offers : (offers : List Offer) → All IsFineOffer offers → 0 < choice_count offers
unfolding choice_count
some_of_offers [] fine = omega arith
some_of_offers (o ∷ rest) fine = mul-pos (All-head IsFineOffer o rest fine).some (some_of_offers rest (All-tail IsFineOffer o rest fine))

pub some_choice : (a : Arrival) → IsFineArrival a → 0 < choice_count a.offers
some_choice a fine = some_of_offers a.offers fine.offers

-- ## the script of a schedule

pub laid_equivalent : (script : ScriptData) (schedule : Schedule) → AreEquivalent (laid_by script schedule) (record script { events = script.events ++ events_of_schedule schedule })
laid_equivalent script schedule =
    let more = events_of_schedule schedule in
    record {
      events = λ turn. ap (λ (l : List Listed). ticks_of script.every turn ++ map (λ (d : Listed). d.1) l) (all_in_turn turn script.events more);
      last = λ turn. ap (λ (b : Bool). is_some script.every || b)
          (sym (list_any-IsPermutation (λ (d : Listed). nat_le turn d.0) (script.events ++ more) (fold listed_in script.events more) (all_listed script.events more)));
    }

-- ## the offers from one on

pub offers_from : (xs : List offer_code.Offer) (place : ℕ) (x : offer_code.Offer) → place < length xs → x ≡ slice_index_or xs place x →
    map offer_data (drop place xs) ≡ offer_data x ∷ map offer_data (drop (place + 1) xs)
offers_from xs place x lt is = at_drop_more (map offer_data) xs place x lt ∙ ap (λ (y : offer_code.Offer). offer_data y ∷ map offer_data (drop (place + 1) xs)) (sym is)

pub fine_from : (xs : List offer_code.Offer) (place : ℕ) → All IsFineOffer (map offer_data xs) → All IsFineOffer (map offer_data (drop place xs))
fine_from xs place fine = subst (All IsFineOffer) (drop-map offer_data place xs) (All-drop IsFineOffer place (map offer_data xs) fine)

-- one that is read, and those behind it
pub record IsOfferAt (xs : List offer_code.Offer) (place : ℕ) (x : offer_code.Offer) : Type 0 where
  pub offers : map offer_data (drop place xs) ≡ offer_data x ∷ map offer_data (drop (place + 1) xs)
  pub fine : IsFineOffer (offer_data x)
  pub count : choice_count (map offer_data (drop place xs)) ≡ length x.events.items * choice_count (map offer_data (drop (place + 1) xs))
  pub some : 0 < choice_count (map offer_data (drop (place + 1) xs))

count_of : (o : Offer) (rest : List Offer) → choice_count (o ∷ rest) ≡ length o.events * choice_count rest
unfolding choice_count
count_of o rest = refl

pub offer_at : (xs : List offer_code.Offer) (place : ℕ) (x : offer_code.Offer) → All IsFineOffer (map offer_data xs) → place < length xs → x ≡ slice_index_or xs place x → IsOfferAt xs place x
offer_at xs place x fine lt is =
    let offers = offers_from xs place x lt is in
    let rest = map offer_data (drop (place + 1) xs) in
    record {
      offers = offers;
      fine = All-head IsFineOffer (offer_data x) rest (subst (All IsFineOffer) offers (fine_from xs place fine));
      count = ap choice_count offers ∙ count_of (offer_data x) rest;
      some = some_of_offers rest (fine_from xs (place + 1) fine);
    }

-- no offer is left
pub count_of_none : (xs : List offer_code.Offer) (place : ℕ) → length xs ≤ place → choice_count (map offer_data (drop place xs)) ≡ 1
unfolding choice_count
count_of_none xs place le = at_drop_all (λ (l : List offer_code.Offer). choice_count (map offer_data l)) xs place le

-- ## the event of an offer

-- so many choices there are of the offers behind it
pub weight_behind : (xs : List offer_code.Offer) (place : ℕ) (x : offer_code.Offer) (weight size : ℕ) → IsOfferAt xs place x →
    weight ≡ choice_count (map offer_data (drop place xs)) → size ≡ length x.events.items → weight / size ≡ choice_count (map offer_data (drop (place + 1) xs))
weight_behind xs place x weight size here all long =
    let behind = choice_count (map offer_data (drop (place + 1) xs)) in
    let many = length x.events.items in
    let whole : weight ≡ behind * many = all ∙ here.count ∙ mul_comm many behind in
    ap (λ n. weight / n) long ∙ ap (λ n. n / many) whole ∙ mul-div_cancel behind here.fine.some

-- the events of a choice from an offer on, in the turns in which they come
abbrev pub events_from : List offer_code.Offer → ℕ → ℕ → ℕ → List Listed
events_from xs turn choice place = postponed turn (chosen (map offer_data (drop place xs)) choice)

-- one that is read
pub record IsEventAt (xs : List offer_code.Offer) (turn choice place : ℕ) (x : offer_code.Offer) (event : Event) : Type 0 where
  pub events : events_from xs turn choice place ≡ (turn + x.turn, event) ∷ events_from xs turn choice (place + 1)
  pub known : IsKnown event

pub event_at : (xs : List offer_code.Offer) (turn choice place : ℕ) (x : offer_code.Offer) (weight : ℕ) (event : Event) → IsOfferAt xs place x →
    weight ≡ choice_count (map offer_data (drop (place + 1) xs)) → event ≡ slice_index_or x.events.items (choice / weight % length x.events.items) Tick → IsEventAt xs turn choice place x event
event_at xs turn choice place x weight event here count is =
    let events = x.events.items in
    let behind = choice_count (map offer_data (drop (place + 1) xs)) in
    let number = choice / behind % length events in
    let within : number < length events = mod_below (choice / behind) (length events) here.fine.some in
    let there : event ≡ slice_index_or events number Tick = is ∙ ap (λ n. slice_index_or events (choice / n % length events) Tick) count in
    record {
      events =
          ap (λ (l : List Offer). postponed turn (chosen l choice)) here.offers
          ∙ ap (λ (e : Event). (turn + x.turn, e) ∷ events_from xs turn choice (place + 1)) (sym there);
      known = subst IsKnown (sym there) (here.fine.known number Tick within);
    }

-- ## the arrivals from one on

-- the events of some ways, from a place on
abbrev pub events_behind : List arrival_code.Arrival → List (Option Way) → ℕ → List Listed
events_behind arrivals ways place = events_of_schedule (schedule_by place (map arrival_data (drop place arrivals)) ways)

pub arrival_at : (arrivals : List arrival_code.Arrival) (ways : List (Option Way)) (place : ℕ) (x : arrival_code.Arrival) (way : Option Way) → place < length arrivals →
    x ≡ slice_index_or arrivals place x → way_at ways place ≡ way → events_behind arrivals ways place ≡ events_of_way (option_map (coming_of (arrival_data x)) way) ++ events_behind arrivals ways (place + 1)
arrival_at arrivals ways place x way lt is comes =
    let rest = map arrival_data (drop (place + 1) arrivals) in
    at_drop_more (λ (l : List arrival_code.Arrival). events_of_schedule (schedule_by place (map arrival_data l) ways)) arrivals place x lt
    ∙ ap (λ (y : arrival_code.Arrival). events_of_schedule (schedule_by place (arrival_data y ∷ rest) ways)) (sym is)
    ∙ ap (λ (w : Option Way). events_of_way (option_map (coming_of (arrival_data x)) w) ++ events_behind arrivals ways (place + 1)) comes

first_of : {X : Type 0} (xs : List X) (place : ℕ) → place < length xs → X
first_of [] place lt = absurd (omega (arith, lt))
first_of (x ∷ xs) place lt = x

-- one that does not come
pub none_at : (arrivals : List arrival_code.Arrival) (ways : List (Option Way)) (place : ℕ) → place < length arrivals → ((way : Way) → way_at ways place ≡ Some way → ⊥) →
    events_behind arrivals ways place ≡ events_behind arrivals ways (place + 1)
none_at arrivals ways place lt none =
    let other = first_of arrivals place lt in
    let x = slice_index_or arrivals place other in
    arrival_at arrivals ways place x None lt (get_or_default arrivals place other x lt) (nothing (way_at ways place) none)
  where
    nothing : (way : Option Way) → ((w : Way) → way ≡ Some w → ⊥) → way ≡ None
    nothing None h = refl
    nothing (Some w) h = absurd (h w refl)
