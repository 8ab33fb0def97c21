-- An arrival that is laid over a script, one event after the other.
use Rattle.std.proofs.Common.{◌≡◌, ◌∙◌, ℕ, zero, suc, ◌+◌, ◌*◌, ◌<◌, ◌≤◌, Bool, true, false, List, [], ◌∷◌, ◌++◌, length, length-append, take, drop, refl, sym, ap, subst, append_assoc, arith, if◌then◌else◌, ◌==◌, ◌||◌, nat_le, nat_lt, ◌%◌}
use Rattle.std.specs.Prelude.{filter, map, is_some, slice_get, Option, Some, None}
use Rattle.std.specs.List.{All, count_by, list_all, list_any}
use Rattle.std.proofs.Math.Nat.{add-mul-mod_self_left}
use Rattle.std.proofs.lemmas.Bool.{and_from, and_parts, both_ways, eq-eqb, eqb-true, false_from_ne_true, le-leb, leb-false, leb-true, lt-leb, lt-ltb, ltb-true, or_from, or_parts}
use Rattle.std.proofs.lemmas.Bool.Decides.{nat_tests}
use Rattle.std.proofs.Math.Seq.{drop-cons}
use Rattle.std.proofs.lemmas.List.{append-nil, length-map, length-take-le, map-append, map_more, take-append-drop, take_all}
use Rattle.std.proofs.lemmas.List.Elements.{All-contains, All-head, All-push, All-tail, All-weaker, Contains-append_right, filter-append}
use Rattle.std.proofs.lemmas.List.Folds.{list_any-append}
use Rattle.std.proofs.lemmas.List.Sums.{AllPass-from_list_all, length-filter, list_all-from_AllPass, sum_by-append, sum_by-cons, sum_by_push}
use Rattle.std.proofs.lemmas.Nat.{mul-le}
use Rattle.std.proofs.lemmas.Option.{get_or_from_slice_get}
use Rattle.run_script.specs.declared.events.Event.{Event}
use Rattle.run_script.specs.Facts.{Facts, IsListed}
use Rattle.run_script.specs.Laying.{has_no_place}
use Rattle.run_script.specs.Scripts.{Listed, ScriptData, events_of, is_of, lasts, listed_of, ticks_of}
use Rattle.board_model.specs.Laid.{is_free, is_script, laid, may_be_laid, postponed}
use Rattle.board_model.specs.SameScripts.{IsLaid}
use Rattle.run_script.proofs.Adding.{more_of}

-- ## what happens in each turn tells how many events are listed of it

-- all are listed of turns that a run may have
abbrev pub AreEarly : List Listed → Type 0
AreEarly events = All (λ (d : Listed). d.0 < 1000000000) events

early_of : (s : ScriptData) → Facts s → AreEarly s.events
early_of s f = All-weaker IsListed (λ (d : Listed). d.0 < 1000000000) (λ d known. known.turn) s.events f.listed

none_late : (turn : ℕ) (events : List Listed) → AreEarly events → 1000000000 ≤ turn → filter (is_of turn) events ≡ []
none_late turn [] early late = refl
none_late turn (d ∷ ds) early late =
    let here : d.0 < 1000000000 = All-head (λ (e : Listed). e.0 < 1000000000) d ds early in
    let no : is_of turn d ≡ false = grind (arith, nat_tests) in
    rw no (none_late turn ds (All-tail (λ (e : Listed). e.0 < 1000000000) d ds early) late)

-- there ticks alone come
only_ticks : (s : ScriptData) (turn : ℕ) → AreEarly s.events → 1000000000 ≤ turn → events_of s turn ≡ ticks_of s.every turn
only_ticks s turn early late =
    ap (λ (l : List Listed). ticks_of s.every turn ++ map (λ (d : Listed). d.1) l) (none_late turn s.events early late) ∙ append-nil (ticks_of s.every turn)

-- 1 where nothing ticks, so that it is never 0
abbrev period_of : Option ℕ → ℕ
period_of None = 1
period_of (Some period) = period

-- what is used of `Facts`: where events are laid over others these are in no order, so that has no `Facts`
record IsTimed (s : ScriptData) : Type 0 where
  early : AreEarly s.events
  some : 1 ≤ period_of s.every

some_period : (s : ScriptData) (every : Option ℕ) → s.every ≡ every → Facts s → 1 ≤ period_of every
some_period s None is f = omega arith
some_period s (Some period) is f = (f.every period is).some

timed_of : (s : ScriptData) → Facts s → IsTimed s
timed_of s f = record { early = early_of s f; some = some_period s s.every refl f }

ticked : (period one other : ℕ) → 0 < one → 0 < other → one % period ≡ other % period → ticks_of (Some period) one ≡ ticks_of (Some period) other
ticked period one other some more same =
    let first : nat_lt 0 one ≡ true = grind (arith, nat_tests) in
    let second : nat_lt 0 other ≡ true = grind (arith, nat_tests) in
    rw (first, second, same) refl

-- a tick that comes comes again, whole periods later
again : (every : Option ℕ) (turn k : ℕ) → 0 < turn → ticks_of every (turn + period_of every * k) ≡ ticks_of every turn
again None turn k some = refl
again (Some period) turn k some =
    ticked period (turn + period * k) turn (omega arith) some (add-mul-mod_self_left turn period k)

none_at_0 : (every : Option ℕ) → ticks_of every 0 ≡ []
none_at_0 None = refl
none_at_0 (Some period) = refl

far_on : (turn p q : ℕ) → 1 ≤ p → 1 ≤ q → 1000000000 ≤ turn + p * (q * 1000000000)
far_on turn p q some more =
    let one = mul-le 1 1 p q some more in
    omega (arith, one)

-- so scripts of which the same happens in each turn tick alike
same_ticks : (a b : ScriptData) → IsTimed a → IsTimed b → ((turn : ℕ) → events_of a turn ≡ events_of b turn) → (turn : ℕ) → ticks_of a.every turn ≡ ticks_of b.every turn
same_ticks a b f g same zero = none_at_0 a.every ∙ sym (none_at_0 b.every)
same_ticks a b f g same (suc turn) =
    let t = suc turn in
    let p = period_of a.every in
    let q = period_of b.every in
    let u = t + p * (q * 1000000000) in
    let late : 1000000000 ≤ u = far_on t p q f.some g.some in
    let turned : u ≡ t + q * (p * 1000000000) = omega arith in
    sym (again a.every t (q * 1000000000) (omega arith))
    ∙ sym (only_ticks a u f.early late)
    ∙ same u
    ∙ only_ticks b u g.early late
    ∙ ap (λ (v : ℕ). ticks_of b.every v) turned
    ∙ again b.every t (p * 1000000000) (omega arith)

long : (s : ScriptData) (turn : ℕ) → length (events_of s turn) ≡ length (ticks_of s.every turn) + count_by (is_of turn) s.events
long s turn =
    length-append (ticks_of s.every turn) (listed_of turn s.events)
    ∙ ap (λ (n : ℕ). length (ticks_of s.every turn) + n) (length-map (filter (is_of turn) s.events) (λ (d : Listed). d.1) ∙ length-filter (is_of turn) s.events)

-- and list as many events of each turn
same_count : (a b : ScriptData) → IsTimed a → IsTimed b → ((turn : ℕ) → events_of a turn ≡ events_of b turn) → (turn : ℕ) → count_by (is_of turn) a.events ≡ count_by (is_of turn) b.events
same_count a b f g same turn =
    let one = long a turn in
    let other = long b turn in
    let all = ap length (same turn) in
    let ticks = ap length (same_ticks a b f g same turn) in
    omega (arith, one, other, all, ticks)

-- ## which events are a script, as facts in the place of tests

pub record IsScript (events : List Listed) : Type 0 where
  pub most : length events ≤ 65536
  pub each : (turn : ℕ) → count_by (is_of turn) events ≤ 8
  pub early : AreEarly events

script_of_facts : (s : ScriptData) → Facts s → IsScript s.events
script_of_facts s f = record { most = f.most; each = f.most_each; early = early_of s f }

-- with one more event of this turn they are a script
record HasPlace (events : List Listed) (turn : ℕ) : Type 0 where
  early : turn < 1000000000
  short : length events < 65536
  few : count_by (is_of turn) events < 8

with_one : (events : List Listed) (d : Listed) → IsScript events → HasPlace events d.0 → IsScript (events ++ d ∷ [])
with_one events d s place = record {
  most = omega (arith, length-append events (d ∷ []), place.short);
  each = λ turn. subst (λ n. n ≤ 8) (sym (sum_by_push (λ (e : Listed). if is_of turn e then 1 else 0) events d))
      (more_of (d.0 == turn) (count_by (is_of turn) events) (λ is. subst (λ t. count_by (is_of t) events < 8) (eqb-true d.0 turn is) place.few) (s.each turn));
  early = All-push (λ (e : Listed). e.0 < 1000000000) events d s.early place.early;
}

free_is : (events : List Listed) (d : Listed) → IsScript events → d.0 < 1000000000 → is_free events d ≡ true
free_is events d s early = and_from (nat_lt d.0 1000000000) (nat_le (count_by (is_of d.0) events) 8) (lt-ltb d.0 1000000000 early) (le-leb (count_by (is_of d.0) events) 8 (s.each d.0))

script_is : (events : List Listed) → IsScript events → is_script events ≡ true
script_is events s =
    and_from (nat_le (length events) 65536) (list_all (is_free events) events) (le-leb (length events) 65536 s.most)
    (list_all-from_AllPass (is_free events) events (All-weaker (λ (d : Listed). d.0 < 1000000000) (λ d. is_free events d ≡ true) (λ d early. free_is events d s early) events s.early))

-- one that is there counts
counted : (turn : ℕ) (before : List Listed) (d : Listed) (behind : List Listed) → d.0 ≡ turn → count_by (is_of turn) before + 1 ≤ count_by (is_of turn) (before ++ d ∷ behind)
counted turn before d behind is =
    let f : Listed → ℕ = λ e. if is_of turn e then 1 else 0 in
    let all = sum_by-append f before (d ∷ behind) in
    let rest = sum_by-cons f d behind in
    let here : f d ≡ 1 = ap (λ (b : Bool). if b then 1 else 0) (eq-eqb d.0 turn is) in
    omega (arith, all, rest, here)

-- in a script each event had a place behind those before it
had_place : (before : List Listed) (d : Listed) (behind : List Listed) → is_script (before ++ d ∷ behind) ≡ true → HasPlace before d.0
had_place before d behind is =
    let all = before ++ d ∷ behind in
    let parts = and_parts (nat_le (length all) 65536) (list_all (is_free all) all) is in
    let each = AllPass-from_list_all (is_free all) all parts.1 in
    let here : is_free all d ≡ true = All-contains (λ e. is_free all e ≡ true) all d each (Contains-append_right before (d ∷ behind) d (0, omega arith, refl)) in
    let free = and_parts (nat_lt d.0 1000000000) (nat_le (count_by (is_of d.0) all) 8) here in
    let most = leb-true (length all) 65536 parts.0 in
    let eight = leb-true (count_by (is_of d.0) all) 8 free.1 in
    record {
      early = ltb-true d.0 1000000000 free.0;
      short = omega (arith, most, length-append before (d ∷ behind));
      few = omega (arith, eight, counted d.0 before d behind refl);
    }

-- ## the first events of an arrival are laid, and they are a script with it

pub record IsLaidSoFar (other script : ScriptData) (arrival : List Listed) (time place : ℕ) : Type 0 where
  pub same : IsLaid other script (take place arrival) time
  pub count : length other.events ≡ length script.events + place
  pub free : IsScript (script.events ++ postponed time (take place arrival))

nothing_laid : (script : ScriptData) (time : ℕ) → laid script [] time ≡ script
nothing_laid script time = ap (λ (l : List Listed). record script { events = l }) (append-nil script.events)

pub none_so_far : (other script : ScriptData) (arrival : List Listed) (time : ℕ) → Facts script → other ≡ script → IsLaidSoFar other script arrival time 0
none_so_far other script arrival time f is = record {
  same = record {
    events = λ turn. ap (λ (s : ScriptData). events_of s turn) (is ∙ sym (nothing_laid script time));
    last = λ turn. ap (λ (s : ScriptData). lasts s turn) (is ∙ sym (nothing_laid script time));
  };
  count = let long = ap (λ (s : ScriptData). length s.events) is in omega (arith, long);
  free = subst IsScript (sym (append-nil script.events)) (script_of_facts script f);
}

-- the events of an arrival that come so many turns later, and those that are laid so far
abbrev later : ℕ → Listed → Listed
later time d = (time + d.0, d.1)

abbrev so_far : ScriptData → List Listed → ℕ → ℕ → List Listed
so_far script arrival time place = script.events ++ postponed time (take place arrival)

one_later : (script : ScriptData) (arrival : List Listed) (time place : ℕ) (d : Listed) → place < length arrival → slice_get arrival place ≡ Some d →
    so_far script arrival time (place + 1) ≡ so_far script arrival time place ++ later time d ∷ []
one_later script arrival time place d lt is =
    let front = postponed time (take place arrival) in
    ap (λ (l : List Listed). script.events ++ l) (map_more (later time) arrival place d lt ∙ ap (λ (e : Listed). front ++ later time e ∷ []) (get_or_from_slice_get arrival place d d is))
    ∙ sym (append_assoc script.events front (later time d ∷ []))

-- the events of an arrival, cut at one of them
at_one : (script : ScriptData) (arrival : List Listed) (time place : ℕ) (d : Listed) → place < length arrival → slice_get arrival place ≡ Some d →
    (laid script arrival time).events ≡ so_far script arrival time place ++ later time d ∷ postponed time (drop (suc place) arrival)
at_one script arrival time place d lt is =
    let front = take place arrival in
    let rest = drop (suc place) arrival in
    let cut : arrival ≡ front ++ d ∷ rest =
    sym (take-append-drop place arrival) ∙ ap (λ (l : List Listed). front ++ l) (drop-cons arrival place d lt ∙ ap (λ (e : Listed). e ∷ rest) (get_or_from_slice_get arrival place d d is)) in
    ap (λ (l : List Listed). script.events ++ postponed time l) cut
    ∙ ap (λ (l : List Listed). script.events ++ l) (map-append (later time) front (d ∷ rest))
    ∙ sym (append_assoc script.events (postponed time front) (later time d ∷ postponed time rest))

-- ## whether there is a place for the next one

has_place : (s : ScriptData) (turn : ℕ) → has_no_place s turn ≡ false → HasPlace s.events turn
has_place s turn free =
    let parts = or_parts (nat_le 1000000000 turn) (nat_le 65536 (length s.events) || nat_le 8 (count_by (is_of turn) s.events)) free in
    let full = or_parts (nat_le 65536 (length s.events)) (nat_le 8 (count_by (is_of turn) s.events)) parts.1 in
    record {
      early = leb-false 1000000000 turn parts.0;
      short = leb-false 65536 (length s.events) full.0;
      few = leb-false 8 (count_by (is_of turn) s.events) full.1;
    }

has_place_not : (s : ScriptData) (turn : ℕ) → HasPlace s.events turn → has_no_place s turn ≡ false
has_place_not s turn place =
    or_from (nat_le 1000000000 turn) (nat_le 65536 (length s.events) || nat_le 8 (count_by (is_of turn) s.events)) (lt-leb 1000000000 turn place.early)
    (or_from (nat_le 65536 (length s.events)) (nat_le 8 (count_by (is_of turn) s.events)) (lt-leb 65536 (length s.events) place.short) (lt-leb 8 (count_by (is_of turn) s.events) place.few))

-- as many are listed in all, and of each turn
record IsCountedAs (other events : List Listed) : Type 0 where
  all : length other ≡ length events
  each : (turn : ℕ) → count_by (is_of turn) other ≡ count_by (is_of turn) events

place_in : (other events : List Listed) (turn : ℕ) → IsCountedAs other events → HasPlace other turn → HasPlace events turn
place_in other events turn is place = record {
  early = place.early;
  short = omega (arith, is.all, place.short);
  few = omega (arith, is.each turn, place.few);
}

counted_turned : (other events : List Listed) → IsCountedAs other events → IsCountedAs events other
counted_turned other events is = record { all = sym is.all; each = λ turn. sym (is.each turn) }

counted_as : (other script : ScriptData) (arrival : List Listed) (time place : ℕ) → IsLaidSoFar other script arrival time place → Facts other → Facts script → place ≤ length arrival →
    IsCountedAs other.events (so_far script arrival time place)
counted_as other script arrival time place started f g le =
    let long = length-append script.events (postponed time (take place arrival)) in
    let moved = length-map (take place arrival) (later time) in
    let taken = length-take-le place arrival le in
    record {
      all = omega (arith, started.count, long, moved, taken);
      each = same_count other (laid script (take place arrival) time) (timed_of other f) (record { early = started.free.early; some = some_period script script.every refl g }) started.same.events;
    }

-- ## the next one is laid, or all of them are no script: counts only grow, so the first one without a place decides

one_listed : (turn : ℕ) (d : Listed) (b : Bool) → is_of turn d ≡ b → listed_of turn (d ∷ []) ≡ (if b then d.1 ∷ [] else [])
one_listed turn d true is = rw is refl
one_listed turn d false is = rw is refl

events_more : (script : ScriptData) (events : List Listed) (d : Listed) (turn : ℕ) →
    events_of (record script { events = events ++ d ∷ [] }) turn ≡ events_of (record script { events = events }) turn ++ (if d.0 == turn then d.1 ∷ [] else [])
events_more script events d turn =
    let ticks = ticks_of script.every turn in
    let front = filter (is_of turn) events in
    ap (λ (l : List Event). ticks ++ l)
    (ap (map (λ (e : Listed). e.1)) (filter-append (is_of turn) events (d ∷ []))
    ∙ map-append (λ (e : Listed). e.1) front (filter (is_of turn) (d ∷ []))
    ∙ ap (λ (l : List Event). listed_of turn events ++ l) (one_listed turn d (d.0 == turn) refl))
    ∙ sym (append_assoc ticks (listed_of turn events) (if d.0 == turn then d.1 ∷ [] else []))

or_turned : (a b c : Bool) → (a || (b || (c || false))) ≡ ((a || b) || c)
or_turned true b c = refl
or_turned false true c = refl
or_turned false false true = refl
or_turned false false false = refl

lasts_more : (script : ScriptData) (events : List Listed) (d : Listed) (turn : ℕ) → lasts (record script { events = events ++ d ∷ [] }) turn ≡ (lasts (record script { events = events }) turn || nat_le turn d.0)
lasts_more script events d turn =
    let p : Listed → Bool = λ e. nat_le turn e.0 in
    ap (λ (b : Bool). is_some script.every || b) (list_any-append p events (d ∷ []))
    ∙ or_turned (is_some script.every) (list_any p events) (nat_le turn d.0)

-- what an `add` gives: an event behind those of its turn
pub record HasOneMore (next other : ScriptData) (d : Listed) : Type 0 where
  pub events : (turn : ℕ) → events_of next turn ≡ events_of other turn ++ (if d.0 == turn then d.1 ∷ [] else [])
  pub last : (turn : ℕ) → lasts next turn ≡ (lasts other turn || nat_le turn d.0)
  pub count : length next.events ≡ length other.events + 1

pub one_more_laid : (next other script : ScriptData) (arrival : List Listed) (time place : ℕ) (d : Listed) → IsLaidSoFar other script arrival time place → Facts other → Facts script →
    place < length arrival → slice_get arrival place ≡ Some d → has_no_place other (time + d.0) ≡ false → HasOneMore next other (later time d) → IsLaidSoFar next script arrival time (place + 1)
one_more_laid next other script arrival time place d started f g lt is free more =
    let e = later time d in
    let before = so_far script arrival time place in
    let all : so_far script arrival time (place + 1) ≡ before ++ e ∷ [] = one_later script arrival time place d lt is in
    let found = place_in other.events before e.0 (counted_as other script arrival time place started f g (omega arith)) (has_place other e.0 free) in
    record {
      same = record {
        events = λ turn.
            more.events turn
            ∙ ap (λ (l : List Event). l ++ (if e.0 == turn then e.1 ∷ [] else [])) (started.same.events turn)
            ∙ sym (events_more script before e turn)
            ∙ ap (λ (l : List Listed). events_of (record script { events = l }) turn) (sym all);
        last = λ turn.
            more.last turn
            ∙ ap (λ (b : Bool). b || nat_le turn e.0) (started.same.last turn)
            ∙ sym (lasts_more script before e turn)
            ∙ ap (λ (l : List Listed). lasts (record script { events = l }) turn) (sym all);
      };
      count = omega (arith, more.count, started.count);
      free = subst IsScript (sym all) (with_one before e started.free found);
    }

pub no_place_for : (other script : ScriptData) (arrival : List Listed) (time place : ℕ) (d : Listed) → IsLaidSoFar other script arrival time place → Facts other → Facts script →
    place < length arrival → slice_get arrival place ≡ Some d → has_no_place other (time + d.0) ≡ true → may_be_laid script arrival time ≡ false
no_place_for other script arrival time place d started f g lt is full =
    let e = later time d in
    let before = so_far script arrival time place in
    let behind = postponed time (drop (suc place) arrival) in
    let all : (laid script arrival time).events ≡ before ++ e ∷ behind = at_one script arrival time place d lt is in
    let same = counted_turned other.events before (counted_as other script arrival time place started f g (omega arith)) in
    false_from_ne_true (may_be_laid script arrival time)
    (λ yes. both_ways (has_no_place other e.0) (has_place_not other e.0 (place_in before other.events e.0 same (had_place before e behind (ap is_script (sym all) ∙ yes)))) full)

-- ## all of them are laid

pub all_laid : (other script : ScriptData) (arrival : List Listed) (time place : ℕ) → IsLaidSoFar other script arrival time place → length arrival ≤ place →
    (may_be_laid script arrival time ≡ true) × IsLaid other script arrival time
all_laid other script arrival time place started le =
    let all : take place arrival ≡ arrival = take_all place arrival le in (
      script_is (laid script arrival time).events (subst (λ (l : List Listed). IsScript (script.events ++ postponed time l)) all started.free),
      subst (λ (l : List Listed). IsLaid other script l time) all started.same,
    )
