-- Courses that go on before a turn.
use Rattle.std.proofs.Common.{◌≡◌, ◌∙◌, ℕ, zero, suc, ◌+◌, ◌-◌, ◌<◌, ◌≤◌, ◌⊎◌, inl, inr, Bool, true, false, List, [], ◌∷◌, ◌++◌, length, map, Option, Some, None, refl, sym, ap, subst, append_assoc, append-nil, arith}
use Rattle.std.specs.Prelude.{◌==◌, ◌&&◌, ⊤, nat_le, nat_lt, cond, find, slice_index_or, Contains}
use Rattle.std.proofs.lemmas.Option.{none-some}
use Rattle.std.proofs.lemmas.Bool.{and_from, and_parts, cases_lt, eqb-true, le-leb, le-ltb, lt-ltb, ltb-true, ne_eqb}
use Rattle.std.specs.List.{All, AllZip, flat_map}
use Rattle.std.specs.Option.{option_map, option_or}
use Rattle.std.proofs.lemmas.List.Elements.{All-append, All-cons, All-contains, All-contains_itself, All-head, All-map, All-nil, All-tail, All-weaker, Contains-append_left, Contains-append_right, Contains-get_or}
use Rattle.std.proofs.lemmas.List.{get_or-map, length-map, map-append}
use Rattle.std.proofs.lemmas.Simd.{map-map}
use Rattle.run_script.specs.declared.events.Event.{Event}
use Rattle.run_script.specs.Scripts.{Listed}
use Rattle.explore_core.specs.Ahead.{is_to_come}
use Rattle.explore_core.specs.Exploring.{Ascends, at_place, latest, way_by}
use Rattle.explore_core.specs.Over.{IsOver}
use Rattle.explore_core.specs.Schedules.{Arrival, Coming, Offer, choices, comings}
use Rattle.explore_core.specs.Walked.{Course, Placed, begun_by, comes_at, comings_in, courses, courses_in, may_come_in}

-- ## lists

pub find_append : {A : Type 0} (q : A → Bool) (xs ys : List A) → find q (xs ++ ys) ≡ option_or (find q xs) (find q ys)
find_append q [] ys = refl
find_append q (x ∷ xs) ys = go (q x) (find_append q xs ys)
  where
    go : (b : Bool) → find q (xs ++ ys) ≡ option_or (find q xs) (find q ys) → cond b (Some x) (find q (xs ++ ys)) ≡ option_or (cond b (Some x) (find q xs)) (find q ys)
    go true ih = refl
    go false ih = ih

pub option_or_assoc : {A : Type 0} (a b c : Option A) → option_or (option_or a b) c ≡ option_or a (option_or b c)
option_or_assoc (Some a) b c = refl
option_or_assoc None b c = refl

-- ## who may not come is passed over

module _ (next : List Placed → List Course) (turn : ℕ) where
  begun_none : (place : ℕ) (a : Arrival) (rest : List Course) → may_come_in a turn ≡ false → begun_by place (comings_in a turn) rest ≡ []
  begun_none place a rest e = ap (λ b. begun_by place (cond b (comings a turn) []) rest) e

  pub passed_one : (passed : List Placed) (p : Placed) (rest : List Placed) → may_come_in p.1 turn ≡ false → courses_in next turn passed (p ∷ rest) ≡ courses_in next turn (passed ++ p ∷ []) rest
  unfolding courses_in
  passed_one passed p rest e = ap (λ (l : List Course). l ++ courses_in next turn (passed ++ p ∷ []) rest) (begun_none p.0 p.1 (courses_in next turn passed rest) e)

  pub passed_all : (passed rest : List Placed) → All (λ (p : Placed). may_come_in p.1 turn ≡ false) rest → courses_in next turn passed rest ≡ next (passed ++ rest)
  unfolding courses_in
  passed_all passed [] all = ap next (sym (append-nil passed))
  passed_all passed (p ∷ rest) all =
      passed_one passed p rest (All-head (λ (q : Placed). may_come_in q.1 turn ≡ false) p rest all)
      ∙ passed_all (passed ++ p ∷ []) rest (All-tail (λ (q : Placed). may_come_in q.1 turn ≡ false) p rest all)
      ∙ ap next (append_assoc passed (p ∷ []) rest)

  -- those in which none of them comes are among all
  pub passed_among : (passed rest : List Placed) (c : Course) → Contains (next (passed ++ rest)) c → Contains (courses_in next turn passed rest) c
  unfolding courses_in
  passed_among passed [] c h = subst (λ (l : List Placed). Contains (next l) c) (append-nil passed) h
  passed_among passed (p ∷ rest) c h =
      Contains-append_right (begun_by p.0 (comings_in p.1 turn) (courses_in next turn passed rest)) (courses_in next turn (passed ++ p ∷ []) rest) c
      (passed_among (passed ++ p ∷ []) rest c (subst (λ (l : List Placed). Contains (next l) c) (sym (append_assoc passed (p ∷ []) rest)) h))

-- ## turn by turn

abbrev AreBelow : ℕ → List Placed → Type 0
AreBelow end ps = All (λ (p : Placed). p.1.below ≤ end) ps

abbrev NoneMay : ℕ → List Placed → Type 0
NoneMay turn ps = All (λ (p : Placed). may_come_in p.1 turn ≡ false) ps

too_late : (end turn : ℕ) (ps : List Placed) → end ≤ turn → AreBelow end ps → NoneMay turn ps
too_late end turn [] le all = All-nil (λ (p : Placed). may_come_in p.1 turn ≡ false)
too_late end turn (p ∷ ps) le all =
    let below = All-head (λ (q : Placed). q.1.below ≤ end) p ps all in
    let none : nat_lt turn p.1.below ≡ false = le-ltb turn p.1.below (omega (arith, below, le)) in
    All-cons (λ (q : Placed). may_come_in q.1 turn ≡ false) p ps (ap (λ b. nat_le p.1.first turn && b) none ∙ and_false (nat_le p.1.first turn)) (too_late end turn ps le (All-tail (λ (q : Placed). q.1.below ≤ end) p ps all))
  where
    and_false : (b : Bool) → (b && false) ≡ false
    and_false true = refl
    and_false false = refl

-- of those that are to come in so many turns from a turn on, the rest may come in this turn
abbrev pub in_turn : ℕ → ℕ → List Placed → List Placed → List Course
in_turn end turn passed rest = courses_in (courses (end - (turn + 1)) (turn + 1)) turn passed rest

pub from_turn : (end turn : ℕ) (ps : List Placed) → AreBelow end ps → courses (end - turn) turn ps ≡ in_turn end turn [] ps
unfolding courses courses_in
from_turn end turn [] all = refl
from_turn end turn (p ∷ ps) all = go (cases_lt turn end)
  where
    go : (turn < end) ⊎ (end ≤ turn) → courses (end - turn) turn (p ∷ ps) ≡ in_turn end turn [] (p ∷ ps)
    go (inl lt) = let e : end - turn ≡ suc (end - (turn + 1)) = omega (arith, lt) in ap (λ n. courses n turn (p ∷ ps)) e
    go (inr le) =
        let e : end - turn ≡ 0 = omega (arith, le) in
        let z : end - (turn + 1) ≡ 0 = omega (arith, le) in
        ap (λ n. courses n turn (p ∷ ps)) e ∙ sym (passed_all (courses (end - (turn + 1)) (turn + 1)) turn [] (p ∷ ps) (too_late end turn (p ∷ ps) le all) ∙ ap (λ n. courses n (turn + 1) (p ∷ ps)) z)

-- where none of them may come, the next turn has the same courses
pub one_on : (end turn : ℕ) (passed rest : List Placed) → AreBelow end (passed ++ rest) → NoneMay turn rest → in_turn end turn passed rest ≡ in_turn end (turn + 1) [] (passed ++ rest)
one_on end turn passed rest below none = passed_all (courses (end - (turn + 1)) (turn + 1)) turn passed rest none ∙ from_turn end (turn + 1) (passed ++ rest) below

pub some_on : (n end turn : ℕ) (ps : List Placed) → AreBelow end ps → ((t : ℕ) → turn ≤ t → t < turn + n → NoneMay t ps) → in_turn end turn [] ps ≡ in_turn end (turn + n) [] ps
some_on zero end turn ps below none = let e : turn ≡ turn + 0 = omega arith in ap (λ t. in_turn end t [] ps) e
some_on (suc n) end turn ps below none =
    let e : turn + 1 + n ≡ turn + suc n = omega arith in
    one_on end turn [] ps below (none turn (omega arith) (omega arith))
    ∙ some_on n end (turn + 1) ps below (λ t low high. none t (omega (arith, low)) (omega (arith, high)))
    ∙ ap (λ t. in_turn end t [] ps) e

-- ## what a course has

-- at a place: what comes there, in this turn or later and with one of the choices of the arrival that has the place; or nothing, where none has
abbrev pub IsTakenAt : ℕ → Option Placed → Option Coming → Type 0
IsTakenAt turn None None = ⊤
IsTakenAt turn None (Some c) = ⊥
IsTakenAt turn (Some p) None = ⊥
IsTakenAt turn (Some p) (Some c) = (turn ≤ c.turn) × (c.turn < p.1.below) × Contains (choices p.1.offers) c.events

abbrev pub IsTaken : ℕ → List Placed → Course → Type 0
IsTaken turn ps course = (place : ℕ) → IsTakenAt turn (at_place place ps) (comes_at place course)

later_at : (turn : ℕ) (o : Option Placed) (c : Option Coming) → IsTakenAt (turn + 1) o c → IsTakenAt turn o c
later_at turn None None h = tt
later_at turn None (Some c) h = h
later_at turn (Some p) None h = h
later_at turn (Some p) (Some c) h = let le = h.0 in (omega (arith, le), h.1, h.2)

later_taken : (turn : ℕ) (ps : List Placed) (course : Course) → IsTaken (turn + 1) ps course → IsTaken turn ps course
later_taken turn ps course h = λ place. later_at turn (at_place place ps) (comes_at place course) (h place)

none_at : (place low : ℕ) (ps : List Placed) → place < low → Ascends low ps → at_place place ps ≡ None
unfolding Ascends
none_at place low [] lt h = refl
none_at place low (p ∷ ps) lt h =
    let le = h.0 in
    let no : (p.0 == place) ≡ false = ne_eqb p.0 place (λ e. omega (arith, e, le, lt)) in
    ap (λ b. cond b (Some p) (at_place place ps)) no ∙ none_at place (p.0 + 1) ps (omega (arith, le, lt)) h.1

not_below : (low : ℕ) (front : List Placed) (p : Placed) (back : List Placed) → Ascends low (front ++ p ∷ back) → low ≤ p.0
unfolding Ascends
not_below low [] p back h = h.0
not_below low (q ∷ front) p back h =
    let more = not_below (q.0 + 1) front p back h.1 in
    let first = h.0 in
    omega (arith, more, first)

-- those before an arrival have other places
pub apart_at : (low : ℕ) (front : List Placed) (p : Placed) (back : List Placed) → Ascends low (front ++ p ∷ back) → at_place p.0 front ≡ None
unfolding Ascends
apart_at low [] p back h = refl
apart_at low (q ∷ front) p back h =
    let below = not_below (q.0 + 1) front p back h.1 in
    let no : (q.0 == p.0) ≡ false = ne_eqb q.0 p.0 (λ e. omega (arith, e, below)) in
    ap (λ b. cond b (Some q) (at_place p.0 front)) no ∙ apart_at (q.0 + 1) front p back h.1

lower : (low high : ℕ) (ps : List Placed) → low ≤ high → Ascends high ps → Ascends low ps
unfolding Ascends
lower low high [] le h = h
lower low high (p ∷ ps) le h = (omega (arith, le, h.0), h.1)

pub without : (low : ℕ) (front : List Placed) (p : Placed) (back : List Placed) → Ascends low (front ++ p ∷ back) → Ascends low (front ++ back)
unfolding Ascends
without low [] p back h = lower low (p.0 + 1) back (omega (arith, h.0)) h.1
without low (q ∷ front) p back h = (h.0, without (q.0 + 1) front p back h.1)

module _ (turn low : ℕ) (passed : List Placed) (p : Placed) (rest : List Placed) (c : Coming) (order : Ascends low (passed ++ p ∷ rest)) (le : turn ≤ c.turn) (below : c.turn < p.1.below) (has : Contains (choices p.1.offers) c.events) where
  here_at : (b : Bool) (place : ℕ) (course : Course) → (p.0 == place) ≡ b → IsTakenAt turn (at_place place (passed ++ rest)) (comes_at place course) → IsTakenAt turn (at_place place (passed ++ p ∷ rest)) (comes_at place ((p.0, c) ∷ course))
  here_at true place course e h =
      let same = eqb-true p.0 place e in
      let none : at_place place passed ≡ None = subst (λ (k : ℕ). at_place k passed ≡ None) same (apart_at low passed p rest order) in
      let there : at_place place (passed ++ p ∷ rest) ≡ Some p = find_append (λ (q : Placed). q.0 == place) passed (p ∷ rest) ∙ ap (λ o. option_or o (at_place place (p ∷ rest))) none ∙ ap (λ b. cond b (Some p) (at_place place rest)) e in
      let comes : comes_at place ((p.0, c) ∷ course) ≡ Some c = ap (λ b. option_map (λ (q : ℕ × Coming). q.1) (cond b (Some (p.0, c)) (find (λ (q : ℕ × Coming). q.0 == place) course))) e in
      let P : Option Placed → Option Coming → Type 0 = λ o w. IsTakenAt turn o w in
      subst (λ o. P o (comes_at place ((p.0, c) ∷ course))) (sym there) (subst (λ w. P (Some p) w) (sym comes) (le, below, has))
  here_at false place course e h =
      let others : at_place place (passed ++ p ∷ rest) ≡ at_place place (passed ++ rest) =
      find_append (λ (q : Placed). q.0 == place) passed (p ∷ rest) ∙ ap (λ b. option_or (at_place place passed) (cond b (Some p) (at_place place rest))) e ∙ sym (find_append (λ (q : Placed). q.0 == place) passed rest) in
      let comes : comes_at place ((p.0, c) ∷ course) ≡ comes_at place course = ap (λ b. option_map (λ (q : ℕ × Coming). q.1) (cond b (Some (p.0, c)) (find (λ (q : ℕ × Coming). q.0 == place) course))) e in
      let P : Option Placed → Option Coming → Type 0 = λ o w. IsTakenAt turn o w in
      subst (λ o. P o (comes_at place ((p.0, c) ∷ course))) (sym others) (subst (λ w. P (at_place place (passed ++ rest)) w) (sym comes) h)

  taken_here : (course : Course) → IsTaken turn (passed ++ rest) course → IsTaken turn (passed ++ p ∷ rest) ((p.0, c) ∷ course)
  taken_here course h = λ place. here_at (p.0 == place) place course refl (h place)

-- each of them has a choice, in this turn
abbrev IsOne : Arrival → ℕ → Coming → Type 0
IsOne a turn c = (c.turn ≡ turn) × (c.turn < a.below) × Contains (choices a.offers) c.events

comings_are : (a : Arrival) (turn : ℕ) → All (IsOne a turn) (comings_in a turn)
comings_are a turn = go (may_come_in a turn) refl
  where
    go : (b : Bool) → may_come_in a turn ≡ b → All (IsOne a turn) (cond b (comings a turn) [])
    go true e =
        let below = ltb-true turn a.below (and_parts (nat_le a.first turn) (nat_lt turn a.below) e).1 in
        All-map (IsOne a turn) (λ events. record { turn = turn; events = events }) (choices a.offers) (All-weaker (Contains (choices a.offers)) (λ events. IsOne a turn record { turn = turn; events = events }) (λ events h. (refl, below, h)) (choices a.offers) (All-contains_itself (choices a.offers)))
    go false e = All-nil (IsOne a turn)

begun_all : (P : Course → Type 0) (R : Course → Type 0) (Q : Coming → Type 0) (place : ℕ) → ((c : Coming) → Q c → (course : Course) → R course → P ((place, c) ∷ course)) → (cs : List Coming) (rest : List Course) → All Q cs → All R rest → All P (begun_by place cs rest)
begun_all P R Q place each [] rest qs rs = All-nil P
begun_all P R Q place each (c ∷ cs) rest qs rs =
    All-append P (map (λ course. (place, c) ∷ course) rest) (begun_by place cs rest)
    (All-map P (λ course. (place, c) ∷ course) rest (All-weaker R (λ course. P ((place, c) ∷ course)) (λ course h. each c (All-head Q c cs qs) course h) rest rs))
    (begun_all P R Q place each cs rest (All-tail Q c cs qs) rs)

turn_taken : (next : List Placed → List Course) (turn low : ℕ) → ((ps : List Placed) → Ascends low ps → All (IsTaken (turn + 1) ps) (next ps)) → (rest passed : List Placed) → Ascends low (passed ++ rest) →
    All (IsTaken turn (passed ++ rest)) (courses_in next turn passed rest)
unfolding courses_in
turn_taken next turn low h [] passed order =
    let same : passed ++ [] ≡ passed = append-nil passed in
    subst (λ (ps : List Placed). All (IsTaken turn ps) (next passed)) (sym same)
    (All-weaker (IsTaken (turn + 1) passed) (IsTaken turn passed) (later_taken turn passed) (next passed) (h passed (subst (Ascends low) same order)))
turn_taken next turn low h (p ∷ rest) passed order =
    let now = courses_in next turn passed rest in
    let moved : (passed ++ p ∷ []) ++ rest ≡ passed ++ p ∷ rest = append_assoc passed (p ∷ []) rest in
    All-append (IsTaken turn (passed ++ p ∷ rest)) (begun_by p.0 (comings_in p.1 turn) now) (courses_in next turn (passed ++ p ∷ []) rest)
    (begun_all (IsTaken turn (passed ++ p ∷ rest)) (IsTaken turn (passed ++ rest)) (IsOne p.1 turn) p.0 (λ c is course taken. taken_here turn low passed p rest c order (let e = is.0 in omega (arith, e)) is.1 is.2 course taken) (comings_in p.1 turn) now (comings_are p.1 turn)
    (turn_taken next turn low h rest passed (without low passed p rest order)))
    (subst (λ (ps : List Placed). All (IsTaken turn ps) (courses_in next turn (passed ++ p ∷ []) rest)) moved (turn_taken next turn low h rest (passed ++ p ∷ []) (subst (Ascends low) (sym moved) order)))

nothing_taken : (turn : ℕ) → IsTaken turn [] []
nothing_taken turn = λ place. tt

all_taken : (left turn low : ℕ) (ps : List Placed) → Ascends low ps → All (IsTaken turn ps) (courses left turn ps)
unfolding courses
all_taken zero turn low [] order = All-cons (IsTaken turn []) [] [] (nothing_taken turn) (All-nil (IsTaken turn []))
all_taken (suc left) turn low [] order = All-cons (IsTaken turn []) [] [] (nothing_taken turn) (All-nil (IsTaken turn []))
all_taken zero turn low (p ∷ ps) order = All-nil (IsTaken turn (p ∷ ps))
all_taken (suc left) turn low (p ∷ ps) order = turn_taken (courses left (turn + 1)) turn low (λ qs o. all_taken left (turn + 1) low qs o) (p ∷ ps) [] order

pub in_turn_taken : (end turn low : ℕ) (passed rest : List Placed) → Ascends low (passed ++ rest) → All (IsTaken turn (passed ++ rest)) (in_turn end turn passed rest)
in_turn_taken end turn low passed rest order = turn_taken (courses (end - (turn + 1)) (turn + 1)) turn low (λ ps o. all_taken (end - (turn + 1)) (turn + 1) low ps o) rest passed order

-- those that are passed over come later
pub passed_taken : (end turn low : ℕ) (ps : List Placed) → Ascends low ps → All (IsTaken (turn + 1) ps) (in_turn end turn ps [])
unfolding courses_in
passed_taken end turn low ps order = all_taken (end - (turn + 1)) (turn + 1) low ps order

-- ## the ways of those that came, and of those that are to come as late as they may

abbrev pub SameBefore : ℕ → Option Coming → Option Coming → Type 0
SameBefore turn v w = (v ≡ w) ⊎ ((is_to_come turn v ≡ true) × (is_to_come turn w ≡ true))

-- each choice has an event of each offer
choice_long : (offers : List Offer) → All (λ (events : List Listed). length events ≡ length offers) (choices offers)
unfolding choices
choice_long [] = All-cons (λ (events : List Listed). length events ≡ 0) [] [] refl (All-nil (λ (events : List Listed). length events ≡ 0))
choice_long (offer ∷ rest) = each (choice_long rest) offer.events
  where
    one_more : (n m : ℕ) → n ≡ m → suc n ≡ suc m
    one_more n m e = ap (λ k. suc k) e

    each : All (λ (l : List Listed). length l ≡ length rest) (choices rest) → (events : List Event) → All (λ (l : List Listed). length l ≡ suc (length rest)) (flat_map (λ event. map (λ more. (offer.turn, event) ∷ more) (choices rest)) events)
    each ih [] = All-nil (λ (l : List Listed). length l ≡ suc (length rest))
    each ih (e ∷ events) =
        All-append (λ (l : List Listed). length l ≡ suc (length rest)) (map (λ more. (offer.turn, e) ∷ more) (choices rest)) (flat_map (λ event. map (λ more. (offer.turn, event) ∷ more) (choices rest)) events)
        (All-map (λ (l : List Listed). length l ≡ suc (length rest)) (λ more. (offer.turn, e) ∷ more) (choices rest) (All-weaker (λ (l : List Listed). length l ≡ length rest) (λ (more : List Listed). suc (length more) ≡ suc (length rest)) (λ more h. one_more (length more) (length rest) h) (choices rest) ih))
        (each ih events)

some_events : (offers : List Offer) (events : List Listed) → 0 < length offers → Contains (choices offers) events → nat_lt 0 (length events) ≡ true
some_events offers events some has = let long = All-contains (λ (l : List Listed). length l ≡ length offers) (choices offers) events (choice_long offers) has in lt-ltb 0 (length events) (omega (arith, long, some))

-- a coming is to come
one_to_come : (turn : ℕ) (a : Arrival) (c : Coming) → 0 < length a.offers → turn ≤ c.turn → Contains (choices a.offers) c.events → is_to_come turn (Some c) ≡ true
one_to_come turn a c some le has = and_from (nat_le turn c.turn) (nat_lt 0 (length c.events)) (le-leb turn c.turn le) (some_events a.offers c.events some has)

first_choice : {A : Type 0} (xs : List A) (x d : A) → Contains xs x → Contains xs (slice_index_or xs 0 d)
first_choice [] x d h = let lt = h.1 in absurd (omega (arith, lt))
first_choice (y ∷ ys) x d h = Contains-get_or (y ∷ ys) 0 d (omega arith)

-- and so is the latest, where one may come
latest_to_come : (turn : ℕ) (a : Arrival) (c : Coming) → 0 < length a.offers → turn ≤ c.turn → c.turn < a.below → Contains (choices a.offers) c.events → is_to_come turn (Some (latest a)) ≡ true
latest_to_come turn a c some le below has = one_to_come turn a (latest a) some (omega (arith, le, below)) (first_choice (choices a.offers) c.events [] has)

abbrev pub AreOffered : List Placed → Type 0
AreOffered ps = All (λ (p : Placed). 0 < length p.1.offers) ps

pub find_all : {A : Type 0} (P : A → Type 0) (q : A → Bool) (xs : List A) (x : A) → All P xs → find q xs ≡ Some x → P x
find_all P q [] x all e = absurd (none-some x e)
find_all P q (y ∷ ys) x all e = go (q y) e (find_all P q ys x (All-tail P y ys all))
  where
    go : (b : Bool) → cond b (Some y) (find q ys) ≡ Some x → (find q ys ≡ Some x → P x) → P x
    go true e more = subst P (let h : y ≡ x = cc in h) (All-head P y ys all)
    go false e more = more e

pub comes_append : (place : ℕ) (xs ys : Course) → comes_at place (xs ++ ys) ≡ option_or (comes_at place xs) (comes_at place ys)
comes_append place xs ys = ap (λ o. option_map (λ (c : ℕ × Coming). c.1) o) (find_append (λ (c : ℕ × Coming). c.0 == place) xs ys) ∙ both (find (λ (c : ℕ × Coming). c.0 == place) xs) (find (λ (c : ℕ × Coming). c.0 == place) ys)
  where
    both : (o p : Option (ℕ × Coming)) → option_map (λ (c : ℕ × Coming). c.1) (option_or o p) ≡ option_or (option_map (λ (c : ℕ × Coming). c.1) o) (option_map (λ (c : ℕ × Coming). c.1) p)
    both (Some c) p = refl
    both None p = refl

same_way : (turn : ℕ) (pending : List Placed) (o : Option Coming) (p : Option Placed) (c : Option Coming) → ((q : Placed) → p ≡ Some q → 0 < length q.1.offers) → IsTakenAt turn p c →
    SameBefore turn (option_or o (option_map (λ (q : Placed). latest q.1) p)) (option_or o c)
same_way turn pending (Some v) p c some h = inl refl
same_way turn pending None None None some h = inl refl
same_way turn pending None None (Some c) some h = absurd h
same_way turn pending None (Some q) None some h = absurd h
same_way turn pending None (Some q) (Some c) some h = inr (latest_to_come turn q.1 c (some q refl) h.0 h.1 h.2, one_to_come turn q.1 c (some q refl) h.0 h.2)

all_zip_maps : {A B : Type 0} (R : B → B → Type 0) (f g : A → B) → ((a : A) → R (f a) (g a)) → (xs : List A) → AllZip R (map f xs) (map g xs)
all_zip_maps R f g each [] = tt
all_zip_maps R f g each (x ∷ xs) = (each x, all_zip_maps R f g each xs)

-- up to a turn, a schedule that goes on from there is one with that of the board's script
pub same_before : (turn : ℕ) (arrivals : List Placed) (came more : Course) (pending : List Placed) → AreOffered pending → IsTaken turn pending more →
    AllZip (SameBefore turn) (map (way_by came pending) arrivals) (map (λ (p : Placed). comes_at p.0 (came ++ more)) arrivals)
same_before turn arrivals came more pending offered taken =
    all_zip_maps (SameBefore turn) (way_by came pending) (λ (p : Placed). comes_at p.0 (came ++ more)) each arrivals
  where
    each : (p : Placed) → SameBefore turn (way_by came pending p) (comes_at p.0 (came ++ more))
    each p = subst (λ w. SameBefore turn (way_by came pending p) w) (sym (comes_append p.0 came more))
        (same_way turn pending (comes_at p.0 came) (at_place p.0 pending) (comes_at p.0 more) (λ q is. find_all (λ (r : Placed). 0 < length r.1.offers) (λ (r : Placed). r.0 == p.0) pending q offered is) (taken p.0))

-- ## what came is over

abbrev pub SameFrom : ℕ → Option Coming → Option Coming → Type 0
SameFrom turn v w = (v ≡ w) ⊎ (IsOver turn v × (w ≡ None))

-- no arrival that came is to come
abbrev pub IsApartFrom : List Placed → Course → Type 0
IsApartFrom pending came = All (λ (c : ℕ × Coming). at_place c.0 pending ≡ None) came

over_way : (turn : ℕ) (o c : Option Coming) → ((v : Coming) → o ≡ Some v → IsOver turn (Some v) × (c ≡ None)) → SameFrom turn (option_or o c) c
over_way turn None c h = inl refl
over_way turn (Some v) c h = inr (h v refl)

not_taken : (turn : ℕ) (p : Option Placed) (c : Option Coming) → p ≡ None → IsTakenAt turn p c → c ≡ None
not_taken turn None None e h = refl
not_taken turn None (Some c) e h = absurd h
not_taken turn (Some p) c e h = absurd (let k : ⊥ = none-some p (sym e) in k)

pub find_is : (place : ℕ) (xs : Course) (x : ℕ × Coming) → find (λ (c : ℕ × Coming). c.0 == place) xs ≡ Some x → x.0 ≡ place
find_is place [] x e = absurd (none-some x e)
find_is place (y ∷ ys) x e = go (y.0 == place) refl e (find_is place ys x)
  where
    go : (b : Bool) → (y.0 == place) ≡ b → cond b (Some y) (find (λ (c : ℕ × Coming). c.0 == place) ys) ≡ Some x → (find (λ (c : ℕ × Coming). c.0 == place) ys ≡ Some x → x.0 ≡ place) → x.0 ≡ place
    go true is e more = let same : y ≡ x = cc in ap (λ (c : ℕ × Coming). c.0) (sym same) ∙ eqb-true y.0 place is
    go false is e more = more e

pub same_from : (turn : ℕ) (arrivals : List Placed) (came more : Course) (pending : List Placed) → All (λ (c : ℕ × Coming). IsOver turn (Some c.1)) came → IsApartFrom pending came → IsTaken turn pending more →
    AllZip (SameFrom turn) (map (λ (p : Placed). comes_at p.0 (came ++ more)) arrivals) (map (λ (p : Placed). comes_at p.0 more) arrivals)
same_from turn arrivals came more pending over apart taken =
    all_zip_maps (SameFrom turn) (λ (p : Placed). comes_at p.0 (came ++ more)) (λ (p : Placed). comes_at p.0 more) each arrivals
  where
    parts : (place : ℕ) (v : Coming) (o : Option (ℕ × Coming)) → find (λ (c : ℕ × Coming). c.0 == place) came ≡ o → option_map (λ (c : ℕ × Coming). c.1) o ≡ Some v → IsOver turn (Some v) × (at_place place pending ≡ None)
    parts place v None is e = absurd (none-some v e)
    parts place v (Some c) is e =
        let over_here = find_all (λ (c : ℕ × Coming). IsOver turn (Some c.1)) (λ (c : ℕ × Coming). c.0 == place) came c over is in
        let apart_here = find_all (λ (c : ℕ × Coming). at_place c.0 pending ≡ None) (λ (c : ℕ × Coming). c.0 == place) came c apart is in
        let at : c.0 ≡ place = find_is place came c is in
        let same : c.1 ≡ v = cc in
        (subst (λ (w : Coming). IsOver turn (Some w)) same over_here, subst (λ (k : ℕ). at_place k pending ≡ None) at apart_here)

    each : (p : Placed) → SameFrom turn (comes_at p.0 (came ++ more)) (comes_at p.0 more)
    each p = subst (λ w. SameFrom turn w (comes_at p.0 more)) (sym (comes_append p.0 came more))
        (over_way turn (comes_at p.0 came) (comes_at p.0 more) (λ v is. let h = parts p.0 v (find (λ (c : ℕ × Coming). c.0 == p.0) came) refl is in (h.0, not_taken turn (at_place p.0 pending) (comes_at p.0 more) h.1 (taken p.0))))

-- ## the first one that passes a test

module _ {A : Type 0} (q : A → Bool) where
  pub first_in : (g : Course → A) (xs ys : List Course) → find q (map g (xs ++ ys)) ≡ option_or (find q (map g xs)) (find q (map g ys))
  first_in g xs ys = ap (find q) (map-append g xs ys) ∙ find_append q (map g xs) (map g ys)

  -- of those that one begins
  pub first_begun : (g : Course → A) (place : ℕ) (c : Coming) (cs : List Coming) (rest : List Course) →
      find q (map g (begun_by place (c ∷ cs) rest)) ≡ option_or (find q (map (λ course. g ((place, c) ∷ course)) rest)) (find q (map g (begun_by place cs rest)))
  first_begun g place c cs rest =
      first_in g (map (λ course. (place, c) ∷ course) rest) (begun_by place cs rest)
      ∙ ap (λ o. option_or o (find q (map g (begun_by place cs rest)))) (ap (find q) (map-map g (λ (course : Course). (place, c) ∷ course) rest))

  -- where none passes it
  pub none_first : (g : Course → A) (xs : List Course) → All (λ (x : Course). q (g x) ≡ false) xs → find q (map g xs) ≡ None
  none_first g [] all = refl
  none_first g (x ∷ xs) all =
      ap (λ b. cond b (Some (g x)) (find q (map g xs))) (All-head (λ (y : Course). q (g y) ≡ false) x xs all) ∙ none_first g xs (All-tail (λ (y : Course). q (g y) ≡ false) x xs all)

  pub none_passes : (g : Course → A) (xs : List Course) → find q (map g xs) ≡ None → All (λ (x : Course). q (g x) ≡ false) xs
  none_passes g [] e = All-nil (λ (x : Course). q (g x) ≡ false)
  none_passes g (x ∷ xs) e = go (q (g x)) refl e (none_passes g xs)
    where
      go : (b : Bool) → q (g x) ≡ b → cond b (Some (g x)) (find q (map g xs)) ≡ None → (find q (map g xs) ≡ None → All (λ (y : Course). q (g y) ≡ false) xs) → All (λ (y : Course). q (g y) ≡ false) (x ∷ xs)
      go true is e more = absurd (none-some (g x) (sym e))
      go false is e more = All-cons (λ (y : Course). q (g y) ≡ false) x xs is (more e)

  -- where another test says the same of each
  pub first_alike : (r : A → Bool) (g : Course → A) (xs : List Course) → ((x : Course) → Contains xs x → q (g x) ≡ r (g x)) → find q (map g xs) ≡ find r (map g xs)
  first_alike r g [] same = refl
  first_alike r g (x ∷ xs) same =
      (λ i. cond (same x (Contains-get_or (x ∷ xs) 0 x (omega arith)) i) (Some (g x)) (first_alike r g xs (λ y has. same y (Contains-append_right (x ∷ []) xs y has)) i))

  -- where each passes it
  pub first_of_all : (g : Course → A) (x : Course) (xs : List Course) → q (g x) ≡ true → find q (map g (x ∷ xs)) ≡ Some (g x)
  first_of_all g x xs e = ap (λ b. cond b (Some (g x)) (find q (map g xs))) e

  -- at a fork: first those in which an arrival comes, and then those in which it is passed over
  module _ (next : List Placed → List Course) (turn : ℕ) (g : Course → A) where
    pub first_at_fork : (passed : List Placed) (p : Placed) (rest : List Placed) →
        find q (map g (courses_in next turn passed (p ∷ rest))) ≡ option_or (find q (map g (begun_by p.0 (comings_in p.1 turn) (courses_in next turn passed rest)))) (find q (map g (courses_in next turn (passed ++ p ∷ []) rest)))
    unfolding courses_in
    first_at_fork passed p rest = first_in g (begun_by p.0 (comings_in p.1 turn) (courses_in next turn passed rest)) (courses_in next turn (passed ++ p ∷ []) rest)

-- the whole course of one that an arrival begins
pub begun_whole : {A : Type 0} (h : Course → A) (came : Course) (x : ℕ × Coming) → ◌≡◌ {A = Course → A} (λ course. h (came ++ x ∷ course)) (λ course. h ((came ++ x ∷ []) ++ course))
begun_whole h came x = λ i course. h (sym (append_assoc came (x ∷ []) course) i)

pub Contains-cons_cases : {A : Type 0} (y : A) (ys : List A) (x : A) → Contains (y ∷ ys) x → (y ≡ x) ⊎ Contains ys x
Contains-cons_cases y ys x h = at h.0 h.1 h.2
  where
    at : (k : ℕ) → k < length (y ∷ ys) → slice_index_or (y ∷ ys) k x ≡ x → (y ≡ x) ⊎ Contains ys x
    at zero lt e = inl e
    at (suc k) lt e = inr (k, omega (arith, lt), e)

pub Contains-map : {A B : Type 0} (f : A → B) (xs : List A) (x : A) → Contains xs x → Contains (map f xs) (f x)
Contains-map f xs x h =
    let long = length-map xs f in
    (h.0, omega (arith, long, h.1), get_or-map f xs h.0 x (f x) h.1 ∙ ap f h.2)

-- among the courses of a fork are those that an arrival begins in one of its ways
pub begun_among : (place : ℕ) (c : Coming) (cs : List Coming) (rest : List Course) (course : Course) → Contains cs c → Contains rest course → Contains (begun_by place cs rest) ((place, c) ∷ course)
begun_among place c [] rest course h k = absurd (let lt = h.1 in omega (arith, lt))
begun_among place c (d ∷ cs) rest course h k = go (Contains-cons_cases d cs c h) (begun_among place c cs rest course)
  where
    go : (d ≡ c) ⊎ Contains cs c → (Contains cs c → Contains rest course → Contains (begun_by place cs rest) ((place, c) ∷ course)) → Contains (begun_by place (d ∷ cs) rest) ((place, c) ∷ course)
    go (inl e) more = Contains-append_left (map (λ (l : Course). (place, d) ∷ l) rest) (begun_by place cs rest) ((place, c) ∷ course) (subst (λ (b : Coming). Contains (map (λ (l : Course). (place, d) ∷ l) rest) ((place, b) ∷ course)) e (Contains-map (λ (l : Course). (place, d) ∷ l) rest course k))
    go (inr h) more = Contains-append_right (map (λ (l : Course). (place, d) ∷ l) rest) (begun_by place cs rest) ((place, c) ∷ course) (more h k)
