-- The first schedule that is left: those that are to come do so as early as they may.
use Rattle.std.proofs.Common.{◌≡◌, ◌∙◌, ℕ, zero, suc, ◌+◌, ◌-◌, ◌<◌, ◌≤◌, max, ◌⊎◌, inl, inr, Bool, true, false, cond, drop, List, [], ◌∷◌, ◌++◌, length, map, filter, find, Option, Some, None, option_map, slice_get, slice_index_or, nat_le, nat_lt, not, refl, sym, ap, subst, append_assoc, append-nil, arith}
use Rattle.std.specs.Prelude.{◌==◌, ◌&&◌}
use Rattle.std.specs.List.{All, range_with_len}
use Rattle.std.specs.Option.{option_or}
use Rattle.std.proofs.lemmas.Bool.{and_from, cases_lt, eqb-true, eq-eqb, le-leb, lt-ltb, ne_eqb}
use Rattle.std.proofs.lemmas.Bool.Decides.{nat_tests}
use Rattle.std.proofs.lemmas.List.Elements.{All-append, All-cons, All-filter, All-head, All-nil, All-tail, All-weaker}
use Rattle.std.proofs.lemmas.Option.{none-some, get_or_from_slice_get, slice_get_within}
use Rattle.explore_core.specs.declared.position.Position.{Position}
use Rattle.explore_core.specs.declared.ways.Way.{Way}
use Rattle.explore_core.specs.Answers.{Asking}
use Rattle.explore_core.specs.Exploring.{Ascends, at_place, latest, pending, way_by, ways_in}
use Rattle.explore_core.specs.Fine.{IsFine, IsFineArrival}
use Rattle.explore_core.specs.Schedules.{Arrival, Coming, Schedule, comings}
use Rattle.explore_core.specs.Searching.{AreEarliest, AreInRange, IsInRange, earliest, fork_at, left_at, left_in, party_in, schedules_on}
use Rattle.explore_core.specs.Walked.{Course, Placed, begun_by, comes_at, comings_in, courses, courses_in, end_of, may_come_in, placed, schedule_of}
use Rattle.explore_core.specs.Ways.{coming_of, schedule_by, schedule_in, way_at}
use Rattle.run_question.specs.Reading.{choice_count}
use Rattle.explore_core.proofs.Chosen.{comings_are_ways, some_choice}
use Rattle.explore_core.proofs.EachOnce.{lower, placed_ascend}
use Rattle.explore_core.proofs.Onward.{apart_at, comes_append, find_all, find_append, find_is, passed_one, without}

-- ## the first course

abbrev pub comes_early : ℕ → Placed → Coming
comes_early turn p = coming_of p.1 (earliest turn p.1)

-- each arrival that has a place comes as early as it may, from a turn on, in its first choice
abbrev pub IsFirst : ℕ → List Placed → Course → Type 0
IsFirst turn ps course = (place : ℕ) → comes_at place course ≡ option_map (comes_early turn) (at_place place ps)

-- the first of some courses is this one
pub record HasFirst (turn : ℕ) (ps : List Placed) (all : List Course) : Type 0 where
  pub first : Course
  pub more : List Course
  pub is : all ≡ first ∷ more
  pub early : IsFirst turn ps first

-- an arrival has a choice, and may come from a turn on, before an end
abbrev IsAlive : ℕ → ℕ → Placed → Type 0
IsAlive turn end p = (turn < p.1.below) × (p.1.below ≤ end) × (p.1.first < p.1.below) × (0 < choice_count p.1.offers)

-- it may not come in that turn yet
abbrev IsLater : ℕ → ℕ → Placed → Type 0
IsLater turn end p = (turn < p.1.first) × IsAlive turn end p

-- the ways of an arrival that may come in a turn begin with its first choice
first_coming : (turn : ℕ) (x : Arrival) → x.first ≤ turn → turn < x.below → 0 < choice_count x.offers → (more : List Coming) × (comings_in x turn ≡ coming_of x (earliest turn x) ∷ more)
first_coming turn x low high some =
    let may : may_come_in x turn ≡ true = and_from (nat_le x.first turn) (nat_lt turn x.below) (le-leb x.first turn low) (lt-ltb turn x.below high) in
    let here : comings_in x turn ≡ comings x turn = ap (λ (b : Bool). cond b (comings x turn) []) may in
    let count : choice_count x.offers ≡ suc (choice_count x.offers - 1) = omega (arith, some) in
    let now : turn ≡ max x.first turn = omega (arith, low) in
    let more = map (by turn) (range_with_len 1 (choice_count x.offers - 1)) in
    (more, here ∙ comings_are_ways x turn ∙ ap (λ (n : ℕ). map (by turn) (range_with_len 0 n)) count ∙ ap (λ (t : ℕ). by t 0 ∷ more) now)
  where
    by : ℕ → ℕ → Coming
    by t choice = coming_of x (record { turn = t; choice = choice })

same_found : (f g : Placed → Coming) (P : Placed → Type 0) (q : Placed → Bool) (ps : List Placed) → ((p : Placed) → P p → f p ≡ g p) → All P ps → option_map f (find q ps) ≡ option_map g (find q ps)
same_found f g P q [] same all = refl
same_found f g P q (p ∷ ps) same all = go (q p) (same_found f g P q ps same (All-tail P p ps all))
  where
    go : (b : Bool) → option_map f (find q ps) ≡ option_map g (find q ps) → option_map f (cond b (Some p) (find q ps)) ≡ option_map g (cond b (Some p) (find q ps))
    go true ih = ap (λ (c : Coming). Some c) (same p (All-head P p ps all))
    go false ih = ih

-- one that comes in this turn, before the others
module _ (turn low : ℕ) (passed : List Placed) (p : Placed) (rest : List Placed) (course : Course) (order : Ascends low (passed ++ p ∷ rest)) (others : IsFirst turn (passed ++ rest) course) where
  abbrev whole : Course
  whole = (p.0, comes_early turn p) ∷ course

  comes_as : (b : Bool) (place : ℕ) → (p.0 == place) ≡ b → comes_at place whole ≡ option_map (λ (c : ℕ × Coming). c.1) (cond b (Some (p.0, comes_early turn p)) (find (λ (c : ℕ × Coming). c.0 == place) course))
  comes_as b place e = ap (λ (d : Bool). option_map (λ (c : ℕ × Coming). c.1) (cond d (Some (p.0, comes_early turn p)) (find (λ (c : ℕ × Coming). c.0 == place) course))) e

  there_as : (b : Bool) (place : ℕ) → (p.0 == place) ≡ b → at_place place (passed ++ p ∷ rest) ≡ option_or (at_place place passed) (cond b (Some p) (at_place place rest))
  there_as b place e = find_append (λ (q : Placed). q.0 == place) passed (p ∷ rest) ∙ ap (λ (d : Bool). option_or (at_place place passed) (cond d (Some p) (at_place place rest))) e

  now_at : (b : Bool) (place : ℕ) → (p.0 == place) ≡ b → comes_at place whole ≡ option_map (comes_early turn) (at_place place (passed ++ p ∷ rest))
  now_at true place e =
      let none : at_place place passed ≡ None = subst (λ (k : ℕ). at_place k passed ≡ None) (eqb-true p.0 place e) (apart_at low passed p rest order) in
      let there : at_place place (passed ++ p ∷ rest) ≡ Some p = there_as true place e ∙ ap (λ (o : Option Placed). option_or o (Some p)) none in
      comes_as true place e ∙ ap (option_map (comes_early turn)) (sym there)
  now_at false place e =
      let there : at_place place (passed ++ p ∷ rest) ≡ at_place place (passed ++ rest) = there_as false place e ∙ sym (find_append (λ (q : Placed). q.0 == place) passed rest) in
      comes_as false place e ∙ others place ∙ ap (option_map (comes_early turn)) (sym there)

  comes_first : IsFirst turn (passed ++ p ∷ rest) whole
  comes_first place = now_at (p.0 == place) place refl

-- within a turn: of the rest come those that may; those that are passed over may not yet
module _ (next : List Placed → List Course) (turn end : ℕ) (then : (low : ℕ) (ps : List Placed) → Ascends low ps → All (IsAlive (turn + 1) end) ps → HasFirst (turn + 1) ps (next ps)) where
  as_later : (p : Placed) → IsLater turn end p → comes_early (turn + 1) p ≡ comes_early turn p
  as_later p later =
      let early = later.0 in
      let same : max p.1.first (turn + 1) ≡ max p.1.first turn = omega (arith, early) in
      ap (λ (t : ℕ). coming_of p.1 (record { turn = t; choice = 0 })) same

  alive_later : (p : Placed) → IsLater turn end p → IsAlive (turn + 1) end p
  alive_later p later =
      let early = later.0 in
      let range = later.1.2 in
      (omega (arith, early, range), later.1.1, range, later.1.3)

  turn_first : (low : ℕ) (passed rest : List Placed) → Ascends low (passed ++ rest) → All (IsLater turn end) passed → All (IsAlive turn end) rest → HasFirst turn (passed ++ rest) (courses_in next turn passed rest)
  unfolding courses_in
  turn_first low passed [] order later alive =
      let f = then low passed (subst (Ascends low) (append-nil passed) order) (All-weaker (IsLater turn end) (IsAlive (turn + 1) end) alive_later passed later) in
      record {
        first = f.first;
        more = f.more;
        is = f.is;
        early = λ place.
            f.early place
            ∙ same_found (comes_early (turn + 1)) (comes_early turn) (IsLater turn end) (λ (p : Placed). p.0 == place) passed as_later later
            ∙ ap (λ (ps : List Placed). option_map (comes_early turn) (at_place place ps)) (sym (append-nil passed));
      }
  turn_first low passed (p ∷ rest) order later alive =
      go (cases_lt turn p.1.first) (turn_first low passed rest (without low passed p rest order) later (All-tail (IsAlive turn end) p rest alive))
      (λ all. turn_first low (passed ++ p ∷ []) rest (subst (Ascends low) (sym (append_assoc passed (p ∷ []) rest)) order) all (All-tail (IsAlive turn end) p rest alive))
    where
      here : IsAlive turn end p
      here = All-head (IsAlive turn end) p rest alive

      go : (turn < p.1.first) ⊎ (p.1.first ≤ turn) → HasFirst turn (passed ++ rest) (courses_in next turn passed rest) →
          (All (IsLater turn end) (passed ++ p ∷ []) → HasFirst turn ((passed ++ p ∷ []) ++ rest) (courses_in next turn (passed ++ p ∷ []) rest)) → HasFirst turn (passed ++ p ∷ rest) (courses_in next turn passed (p ∷ rest))
      go (inl early) now wait =
          let no : may_come_in p.1 turn ≡ false = grind (arith, nat_tests) in
          let f = wait (All-append (IsLater turn end) passed (p ∷ []) later (All-cons (IsLater turn end) p [] (early, here) (All-nil (IsLater turn end)))) in
          record {
            first = f.first;
            more = f.more;
            is = passed_one next turn passed p rest no ∙ f.is;
            early = subst (λ (ps : List Placed). IsFirst turn ps f.first) (append_assoc passed (p ∷ []) rest) f.early;
          }
      go (inr low_enough) now wait =
          let ways = first_coming turn p.1 low_enough here.0 here.3 in
          let others = courses_in next turn (passed ++ p ∷ []) rest in
          record {
            first = (p.0, comes_early turn p) ∷ now.first;
            more = (map (λ (course : Course). (p.0, comes_early turn p) ∷ course) now.more ++ begun_by p.0 ways.0 (now.first ∷ now.more)) ++ others;
            is = λ i. begun_by p.0 (ways.1 i) (now.is i) ++ others;
            early = comes_first turn low passed p rest now.first order now.early;
          }

pub courses_first : (left turn end low : ℕ) (ps : List Placed) → end ≤ turn + left → Ascends low ps → All (IsAlive turn end) ps → HasFirst turn ps (courses left turn ps)
unfolding courses
courses_first zero turn end low [] le order alive = record { first = []; more = []; is = refl; early = λ place. refl }
courses_first (suc left) turn end low [] le order alive = record { first = []; more = []; is = refl; early = λ place. refl }
courses_first zero turn end low (p ∷ ps) le order alive =
    let here = All-head (IsAlive turn end) p ps alive in
    let after = here.0 in
    let before = here.1 in
    absurd (omega (arith, le, after, before))
courses_first (suc left) turn end low (p ∷ ps) le order alive =
    turn_first (courses left (turn + 1)) turn end (λ from qs ascends all. courses_first left (turn + 1) end from qs (omega (arith, le)) ascends all)
    low [] (p ∷ ps) order (All-nil (IsLater turn end)) alive

pub first_is_earliest : (a : Asking) (came : Course) (ps : List Placed) (turn : ℕ) → Ascends 0 ps → All (λ (p : Placed). turn + 1 < p.1.below) ps → All (λ (p : Placed). p.1.below ≤ end_of a.question.arrivals) ps →
    All (λ (p : Placed). p.1.first < p.1.below) ps → All (λ (p : Placed). 0 < choice_count p.1.offers) ps →
    (first : Course) × (more : List Schedule) × (schedules_on a turn (record { came = came; passed = ps; rest = [] }) ≡ schedule_of a.question.arrivals (came ++ first) ∷ more)
    × ((place : ℕ) → comes_at place first ≡ option_map (λ (p : Placed). coming_of p.1 (earliest (turn + 1) p.1)) (at_place place ps))
unfolding courses_in
first_is_earliest a came ps turn order alive below range some =
    let end = end_of a.question.arrivals in
    let f = courses_first (end - (turn + 1)) (turn + 1) end 0 ps (omega arith) order (λ k d lt. (alive k d lt, below k d lt, range k d lt, some k d lt)) in
    let whole = λ (course : Course). schedule_of a.question.arrivals (came ++ course) in
    (f.first, map whole f.more, ap (map whole) f.is, f.early)

-- ## what has a place

-- an arrival of a list has its place
there_at : (arrivals : List Arrival) (from step place : ℕ) (x : Arrival) → slice_get arrivals step ≡ Some x → from + step ≡ place → at_place place (placed arrivals from) ≡ Some (place, x)
there_at [] from step place x is at = absurd (none-some x is)
there_at (y ∷ rest) from zero place x is at =
    let same : from ≡ place = omega (arith, at) in
    let arrival : y ≡ x = cc in
    ap (λ (b : Bool). cond b (Some (from, y)) (at_place place (placed rest (from + 1)))) (eq-eqb from place same) ∙ (λ i. Some (same i, arrival i))
there_at (y ∷ rest) from (suc step) place x is at =
    let no : (from == place) ≡ false = ne_eqb from place (λ same. omega (arith, at, same)) in
    ap (λ (b : Bool). cond b (Some (from, y)) (at_place place (placed rest (from + 1)))) no ∙ there_at rest (from + 1) step place x is (omega (arith, at))

-- of some arrivals, where those are taken of which a list says so
kept_at : (party : List Bool) (place : ℕ) (ps : List Placed) → at_place place (filter (λ (p : Placed). slice_index_or party p.0 false) ps) ≡ cond (slice_index_or party place false) (at_place place ps) None
kept_at party place [] = go (slice_index_or party place false)
  where
    none : Option Placed
    none = None

    go : (b : Bool) → none ≡ cond b none none
    go true = refl
    go false = refl
kept_at party place (p ∷ ps) = go (slice_index_or party p.0 false) (p.0 == place) refl refl (kept_at party place ps)
  where
    kept : List Placed
    kept = filter (λ (q : Placed). slice_index_or party q.0 false) ps

    taken : Bool
    taken = slice_index_or party place false

    as_there : (b : Bool) → slice_index_or party p.0 false ≡ b → (p.0 == place) ≡ true → taken ≡ b
    as_there b is at = subst (λ (n : ℕ). slice_index_or party n false ≡ b) (eqb-true p.0 place at) is

    go : (b here : Bool) → slice_index_or party p.0 false ≡ b → (p.0 == place) ≡ here → at_place place kept ≡ cond taken (at_place place ps) None → at_place place (cond b (p ∷ kept) kept) ≡ cond taken (cond here (Some p) (at_place place ps)) None
    go true true is at more = ap (λ (d : Bool). cond d (Some p) (at_place place kept)) at ∙ sym (ap (λ (d : Bool). cond d (Some p) None) (as_there true is at))
    go true false is at more = ap (λ (d : Bool). cond d (Some p) (at_place place kept)) at ∙ more
    go false true is at more =
        let no = as_there false is at in
        more ∙ ap (λ (d : Bool). cond d (at_place place ps) None) no ∙ sym (ap (λ (d : Bool). cond d (Some p) None) no)
    go false false is at more = more

pub party_at : (party : List Bool) (arrivals : List Arrival) (place : ℕ) (x : Arrival) → slice_get arrivals place ≡ Some x → at_place place (party_in arrivals party) ≡ cond (slice_index_or party place false) (Some (place, x)) None
party_at party arrivals place x is =
    kept_at party place (placed arrivals 0) ∙ ap (λ (o : Option Placed). cond (slice_index_or party place false) o None) (there_at arrivals 0 place place x is (omega arith))

pub kept_ascend : (keeps : Placed → Bool) (low : ℕ) (ps : List Placed) → Ascends low ps → Ascends low (filter keeps ps)
unfolding Ascends
kept_ascend keeps low [] order = order
kept_ascend keeps low (p ∷ ps) order = go (keeps p) (kept_ascend keeps (p.0 + 1) ps order.1)
  where
    go : (b : Bool) → Ascends (p.0 + 1) (filter keeps ps) → Ascends low (cond b (p ∷ filter keeps ps) (filter keeps ps))
    go true more = (order.0, more)
    go false more = let first = order.0 in lower low (p.0 + 1) (filter keeps ps) (omega (arith, first)) more

pub placed_all : (P : Arrival → Type 0) (arrivals : List Arrival) (from : ℕ) → All P arrivals → All (λ (p : Placed). P p.1) (placed arrivals from)
placed_all P [] from all = All-nil (λ (p : Placed). P p.1)
placed_all P (x ∷ rest) from all = All-cons (λ (p : Placed). P p.1) (from, x) (placed rest (from + 1)) (All-head P x rest all) (placed_all P rest (from + 1) (All-tail P x rest all))

pub all_below : (arrivals : List Arrival) (end : ℕ) → end_of arrivals ≤ end → All (λ (x : Arrival). x.below ≤ end) arrivals
all_below [] end le = All-nil (λ (x : Arrival). x.below ≤ end)
all_below (x ∷ rest) end le = All-cons (λ (y : Arrival). y.below ≤ end) x rest (omega (arith, le)) (all_below rest end (omega (arith, le)))

-- ## the schedule of the earliest ways

-- a schedule by ways, arrival after arrival
same_by : (f : Placed → Option Coming) (ways : List (Option Way)) (arrivals : List Arrival) (from : ℕ) →
    ((step place : ℕ) (x : Arrival) → slice_get arrivals step ≡ Some x → from + step ≡ place → f (place, x) ≡ option_map (coming_of x) (way_at ways place)) → map f (placed arrivals from) ≡ schedule_by from arrivals ways
same_by f ways [] from each = refl
same_by f ways (x ∷ rest) from each =
    let here = each 0 from x refl (omega arith) in
    let more = same_by f ways rest (from + 1) (λ step place y is at. each (suc step) place y is (omega (arith, at))) in
    λ i. here i ∷ more i

each_by : (f : Placed → Option Coming) (ways : List (Option Way)) (arrivals : List Arrival) (from : ℕ) → schedule_by from arrivals ways ≡ map f (placed arrivals from) →
    (step place : ℕ) (x : Arrival) → slice_get arrivals step ≡ Some x → from + step ≡ place → option_map (coming_of x) (way_at ways place) ≡ f (place, x)
each_by f ways [] from same step place x is at = absurd (none-some x is)
each_by f ways (y ∷ rest) from same zero place x is at =
    let here : option_map (coming_of y) (way_at ways from) ≡ f (from, y) = ap (λ (s : Schedule). slice_index_or s 0 None) same in
    let there : from ≡ place = omega (arith, at) in
    let arrival : y ≡ x = cc in
    subst (λ (n : ℕ). option_map (coming_of x) (way_at ways n) ≡ f (n, x)) there (subst (λ (z : Arrival). option_map (coming_of z) (way_at ways from) ≡ f (from, z)) arrival here)
each_by f ways (y ∷ rest) from same (suc step) place x is at =
    let more : schedule_by (from + 1) rest ways ≡ map f (placed rest (from + 1)) = ap (λ (s : Schedule). drop 1 s) same in
    each_by f ways rest (from + 1) more step place x is (omega (arith, at))

-- what is to come has not come
came_none : (came : Course) (ps : List Placed) (place : ℕ) (p : Placed) → All (λ (c : ℕ × Coming). at_place c.0 ps ≡ None) came → at_place place ps ≡ Some p → comes_at place came ≡ None
came_none came ps place p apart there = go (find (λ (c : ℕ × Coming). c.0 == place) came) refl
  where
    go : (o : Option (ℕ × Coming)) → find (λ (c : ℕ × Coming). c.0 == place) came ≡ o → option_map (λ (c : ℕ × Coming). c.1) o ≡ None
    go None is = refl
    go (Some c) is =
        let none = find_all (λ (d : ℕ × Coming). at_place d.0 ps ≡ None) (λ (d : ℕ × Coming). d.0 == place) came c apart is in
        let at : c.0 ≡ place = find_is place came c is in
        absurd (none-some p (sym (subst (λ (n : ℕ). at_place n ps ≡ None) at none) ∙ there))

module _ (arrivals : List Arrival) (party : List Bool) (from : ℕ) (ways taken : List (Option Way)) (early : AreEarliest arrivals party from ways taken) where
  way_taken : (place : ℕ) (x : Arrival) → slice_get arrivals place ≡ Some x → (b : Bool) → slice_index_or party place false ≡ b → way_at taken place ≡ cond b (Some (earliest from x)) (way_at ways place)
  way_taken place x is b e =
      early place (slice_get_within arrivals place x is)
      ∙ ap (λ (d : Bool). cond d (option_map (earliest from) (slice_get arrivals place)) (way_at ways place)) e
      ∙ ap (λ (o : Option Arrival). cond b (option_map (earliest from) o) (way_at ways place)) is

  found_at : (place : ℕ) (x : Arrival) → slice_get arrivals place ≡ Some x → (b : Bool) → slice_index_or party place false ≡ b → at_place place (party_in arrivals party) ≡ cond b (Some (place, x)) None
  found_at place x is b e = party_at party arrivals place x is ∙ ap (λ (d : Bool). cond d (Some (place, x)) None) e

  same_schedule : (came first : Course) → schedule_in arrivals ways ≡ map (way_by came (party_in arrivals party)) (placed arrivals 0) → All (λ (c : ℕ × Coming). at_place c.0 (party_in arrivals party) ≡ None) came → IsFirst from (party_in arrivals party) first →
      schedule_of arrivals (came ++ first) ≡ schedule_in arrivals taken
  same_schedule came first by_ways apart earliest_of =
      same_by (λ (p : Placed). comes_at p.0 (came ++ first)) taken arrivals 0
      (λ step place x is at. let same : step ≡ place = omega (arith, at) in let there : slice_get arrivals place ≡ Some x = subst (λ (n : ℕ). slice_get arrivals n ≡ Some x) same is in one place x there (slice_index_or party place false) refl)
    where
      ps : List Placed
      ps = party_in arrivals party

      one : (place : ℕ) (x : Arrival) → slice_get arrivals place ≡ Some x → (b : Bool) → slice_index_or party place false ≡ b → comes_at place (came ++ first) ≡ option_map (coming_of x) (way_at taken place)
      one place x is true e =
          let found = found_at place x is true e in
          comes_append place came first
          ∙ ap (λ (o : Option Coming). option_or o (comes_at place first)) (came_none came ps place (place, x) apart found)
          ∙ earliest_of place
          ∙ ap (option_map (comes_early from)) found
          ∙ sym (ap (option_map (coming_of x)) (way_taken place x is true e))
      one place x is false e =
          let none = found_at place x is false e in
          comes_append place came first
          ∙ ap (option_or (comes_at place came)) (earliest_of place ∙ ap (option_map (comes_early from)) none)
          ∙ sym (each_by (way_by came ps) ways arrivals 0 by_ways place place x is (omega arith) ∙ ap (λ (o : Option Placed). option_or (comes_at place came) (option_map (λ (q : Placed). latest q.1) o)) none)
          ∙ sym (ap (option_map (coming_of x)) (way_taken place x is false e))

-- ## at the end of a turn

-- all places are before the next one
before_all : (party : List Bool) (arrivals : List Arrival) (from next : ℕ) → from + length arrivals ≤ next →
    filter (λ (p : Placed). slice_index_or party p.0 false && nat_lt p.0 next) (placed arrivals from) ≡ filter (λ (p : Placed). slice_index_or party p.0 false) (placed arrivals from)
before_all party [] from next le = refl
before_all party (x ∷ rest) from next le =
    let before : nat_lt from next ≡ true = lt-ltb from next (omega (arith, le)) in
    let same : (slice_index_or party from false && nat_lt from next) ≡ slice_index_or party from false = ap (λ (b : Bool). slice_index_or party from false && b) before ∙ and_true (slice_index_or party from false) in
    let more = before_all party rest (from + 1) next (omega (arith, le)) in
    λ i. cond (same i) ((from, x) ∷ more i) (more i)
  where
    and_true : (b : Bool) → (b && true) ≡ b
    and_true true = refl
    and_true false = refl

from_none : (party : List Bool) (arrivals : List Arrival) (from next : ℕ) → from + length arrivals ≤ next → filter (λ (p : Placed). slice_index_or party p.0 false && not (nat_lt p.0 next)) (placed arrivals from) ≡ []
from_none party [] from next le = refl
from_none party (x ∷ rest) from next le =
    let before : nat_lt from next ≡ true = lt-ltb from next (omega (arith, le)) in
    let none : (slice_index_or party from false && not (nat_lt from next)) ≡ false = ap (λ (b : Bool). slice_index_or party from false && not b) before ∙ and_false (slice_index_or party from false) in
    let more = from_none party rest (from + 1) next (omega (arith, le)) in
    λ i. cond (none i) ((from, x) ∷ more i) (more i)
  where
    and_false : (b : Bool) → (b && false) ≡ false
    and_false true = refl
    and_false false = refl

pub earliest_first : (a : Asking) (at : Position) (came : Course) (turn : ℕ) (ways taken : List (Option Way)) → schedule_in a.question.arrivals ways ≡ ways_in a (fork_at a at came) →
    All (λ (c : ℕ × Coming). at_place c.0 (pending (fork_at a at came)) ≡ None) came → AreEarliest a.question.arrivals at.pending (turn + 1) ways taken → IsFine a.question → length a.question.arrivals ≤ at.next →
    All (λ (p : Placed). turn + 1 < p.1.below) (party_in a.question.arrivals at.pending) → (more : List Schedule) × (left_at a at came turn ≡ schedule_in a.question.arrivals taken ∷ more)
earliest_first a at came turn ways taken by_ways apart early fine past alive =
    let arrivals = a.question.arrivals in
    let ps = party_in arrivals at.pending in
    let keeps = λ (p : Placed). slice_index_or at.pending p.0 false in
    let before = before_all at.pending arrivals 0 at.next (omega (arith, past)) in
    let behind = from_none at.pending arrivals 0 at.next (omega (arith, past)) in
    let ahead : pending (fork_at a at came) ≡ ps = (λ i. before i ++ behind i) ∙ append-nil ps in
    let left : left_at a at came turn ≡ schedules_on a turn (record { came = came; passed = ps; rest = [] }) = λ i. left_in a turn came (before i) (behind i) at.choice in
    let every = λ (P : Arrival → Type 0) (all : All P arrivals). All-filter keeps (λ (p : Placed). P p.1) (placed arrivals 0) (placed_all P arrivals 0 all) in
    let first = first_is_earliest a came ps turn (kept_ascend keeps 0 (placed arrivals 0) (placed_ascend arrivals 0)) alive
    (every (λ (x : Arrival). x.below ≤ end_of arrivals) (all_below arrivals (end_of arrivals) (omega arith)))
    (every (λ (x : Arrival). x.first < x.below) (All-weaker IsFineArrival (λ (x : Arrival). x.first < x.below) (λ x h. h.range) arrivals fine.each))
    (every (λ (x : Arrival). 0 < choice_count x.offers) (All-weaker IsFineArrival (λ (x : Arrival). 0 < choice_count x.offers) some_choice arrivals fine.each)) in
    let same = same_schedule arrivals at.pending (turn + 1) ways taken early came first.0
    (by_ways ∙ ap (λ (qs : List Placed). map (way_by came qs) (placed arrivals 0)) ahead) (subst (λ (qs : List Placed). All (λ (c : ℕ × Coming). at_place c.0 qs ≡ None) came) ahead apart) first.3 in
    (first.1, left ∙ first.2 ∙ ap (λ (s : Schedule). s ∷ first.1) same)

-- ## the earliest ways are in their ranges

in_range_at : (ways : List (Option Way)) (arrivals : List Arrival) (from : ℕ) → AreInRange from arrivals ways → (step place : ℕ) (x : Arrival) → slice_get arrivals step ≡ Some x → from + step ≡ place → IsInRange x (way_at ways place)
in_range_at ways [] from range step place x is at = absurd (none-some x is)
in_range_at ways (y ∷ rest) from range zero place x is at =
    let there : from ≡ place = omega (arith, at) in
    let arrival : y ≡ x = cc in
    subst (λ (n : ℕ). IsInRange x (way_at ways n)) there (subst (λ (z : Arrival). IsInRange z (way_at ways from)) arrival range.0)
in_range_at ways (y ∷ rest) from range (suc step) place x is at = in_range_at ways rest (from + 1) range.1 step place x is (omega (arith, at))

all_in_range : (ways : List (Option Way)) (arrivals : List Arrival) (from : ℕ) → ((step place : ℕ) (x : Arrival) → slice_get arrivals step ≡ Some x → from + step ≡ place → IsInRange x (way_at ways place)) → AreInRange from arrivals ways
all_in_range ways [] from each = tt
all_in_range ways (x ∷ rest) from each = (each 0 from x refl (omega arith), all_in_range ways rest (from + 1) (λ step place y is at. each (suc step) place y is (omega (arith, at))))

pub earliest_in_range : (a : Asking) (pending : List Bool) (from : ℕ) (ways taken : List (Option Way)) → IsFine a.question → AreInRange 0 a.question.arrivals ways → AreEarliest a.question.arrivals pending from ways taken →
    All (λ (p : Placed). from < p.1.below) (party_in a.question.arrivals pending) → AreInRange 0 a.question.arrivals taken
earliest_in_range a party from ways taken fine range early alive = all_in_range taken arrivals 0 (λ step place x is at. one step place x is at (slice_index_or party place false) refl)
  where
    arrivals : List Arrival
    arrivals = a.question.arrivals

    one : (step place : ℕ) (x : Arrival) → slice_get arrivals step ≡ Some x → 0 + step ≡ place → (b : Bool) → slice_index_or party place false ≡ b → IsInRange x (way_at taken place)
    one step place x is at b e = go b (way_taken arrivals party from ways taken early place x there b e) (found_at arrivals party from ways taken early place x there b e)
      where
        there : slice_get arrivals place ≡ Some x
        there = let same : step ≡ place = omega (arith, at) in subst (λ (n : ℕ). slice_get arrivals n ≡ Some x) same is

        arrival : IsFineArrival x
        arrival = subst IsFineArrival (get_or_from_slice_get arrivals place x x there) (fine.each place x (slice_get_within arrivals place x there))

        go : (b : Bool) → way_at taken place ≡ cond b (Some (earliest from x)) (way_at ways place) → at_place place (party_in arrivals party) ≡ cond b (Some (place, x)) None → IsInRange x (way_at taken place)
        go true way found =
            let below = find_all (λ (p : Placed). from < p.1.below) (λ (p : Placed). p.0 == place) (party_in arrivals party) (place, x) alive found in
            let some = arrival.range in
            subst (IsInRange x) (sym way) (omega arith, omega (arith, below, some), some_choice x arrival)
        go false way found = subst (IsInRange x) (sym way) (in_range_at ways arrivals 0 range step place x is at)
