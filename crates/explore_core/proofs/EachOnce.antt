-- The courses in their order make each schedule of the product once.
--
-- A course says what comes at each place. So what is made of courses by places alone is the same, up to its order, whether they are
-- gone through turn by turn or place by place.
use Rattle.std.proofs.Common.{◌≡◌, ◌∙◌, ℕ, zero, suc, ◌+◌, ◌-◌, ◌<◌, ◌≤◌, Bool, true, false, List, [], ◌∷◌, ◌++◌, length, map, Option, Some, None, refl, sym, ap, subst, arith, add-one, append_assoc}
use Rattle.std.specs.Prelude.{◌==◌, cond, find}
use Rattle.std.specs.List.{flat_map, range_with_len}
use Rattle.std.specs.List.Sorted.{IsPermutation}
use Rattle.std.specs.Option.{option_map}
use Rattle.std.specs.Bool.{⊤}
use mathlib.Core.Logic.{◌⊎◌, inl, inr}
use Rattle.std.proofs.lemmas.Bool.{cases_lt, eqb-true, eq-eqb, ne_eqb}
use Rattle.std.proofs.lemmas.Bool.Decides.{nat_tests}
use Rattle.std.proofs.lemmas.List.{append-nil, map-append, map-id}
use Rattle.std.proofs.lemmas.List.Concat.{flat_map-append}
use Rattle.std.proofs.lemmas.List.Folds.{flat_map-map}
use Rattle.std.proofs.lemmas.List.Sorted.{IsPermutation-refl, IsPermutation-sym, IsPermutation-trans, IsPermutation-append_comm, IsPermutation-append_left, IsPermutation-append_right}
use Rattle.explore_core.specs.Exploring.{Ascends}
use Rattle.explore_core.specs.Schedules.{Arrival, Coming, Schedule, comings, all_comings, ways, schedules}
use Rattle.explore_core.specs.Walked.{Placed, Course, may_come_in, comings_in, begun_by, courses_in, courses, placed, parties, end_of, courses_of, comes_at, schedule_of}

-- ## lists up to their order

same_list : {X : Type 0} (ws bs : List X) → ws ≡ bs → IsPermutation ws bs
same_list ws bs e = subst (λ l. IsPermutation ws l) e (IsPermutation-refl ws)

then : {X : Type 0} {ws bs cs : List X} → IsPermutation ws bs → IsPermutation bs cs → IsPermutation ws cs
then {X} {ws} {bs} {cs} f g = IsPermutation-trans ws bs cs f g

both : {X : Type 0} (ws bs cs ds : List X) → IsPermutation ws bs → IsPermutation cs ds → IsPermutation (ws ++ cs) (bs ++ ds)
both ws bs cs ds f g = IsPermutation-trans (ws ++ cs) (bs ++ cs) (bs ++ ds) (IsPermutation-append_left cs ws bs f) (IsPermutation-append_right bs cs ds g)

-- the two in the middle change places
crossed : {X : Type 0} (ws bs cs ds : List X) → IsPermutation ((ws ++ bs) ++ (cs ++ ds)) ((ws ++ cs) ++ (bs ++ ds))
crossed ws bs cs ds =
    let one : (ws ++ bs) ++ (cs ++ ds) ≡ ws ++ ((bs ++ cs) ++ ds) = append_assoc ws bs (cs ++ ds) ∙ ap (λ l. ws ++ l) (sym (append_assoc bs cs ds)) in
    let two : (ws ++ cs) ++ (bs ++ ds) ≡ ws ++ ((cs ++ bs) ++ ds) = append_assoc ws cs (bs ++ ds) ∙ ap (λ l. ws ++ l) (sym (append_assoc cs bs ds)) in
    rw (one, two) (IsPermutation-append_right ws _ _ (IsPermutation-append_left ds _ _ (IsPermutation-append_comm bs cs)))

-- piece by piece
each : {X A : Type 0} (f g : X → List A) → ((x : X) → IsPermutation (f x) (g x)) → (xs : List X) → IsPermutation (flat_map f xs) (flat_map g xs)
each f g h [] = IsPermutation-refl []
each f g h (x ∷ xs) = both (f x) (g x) (flat_map f xs) (flat_map g xs) (h x) (each f g h xs)

pieces : {X A : Type 0} (f g : X → List A) (xs : List X) → IsPermutation (flat_map (λ x. f x ++ g x) xs) (flat_map f xs ++ flat_map g xs)
pieces f g [] = IsPermutation-refl []
pieces f g (x ∷ xs) =
    then (IsPermutation-append_right (f x ++ g x) _ _ (pieces f g xs)) (crossed (f x) (g x) (flat_map f xs) (flat_map g xs))

no_pieces : {X A : Type 0} (xs : List X) → flat_map {X = X} {A = A} (λ x. []) xs ≡ []
no_pieces [] = refl
no_pieces (x ∷ xs) = no_pieces xs

-- pairs, by either of the two first
turned : {X Y A : Type 0} (h : X → Y → List A) (xs : List X) (ys : List Y) →
    IsPermutation (flat_map (λ x. flat_map (h x) ys) xs) (flat_map (λ y. flat_map (λ x. h x y) xs) ys)
turned h [] ys = same_list [] _ (sym (no_pieces ys))
turned h (x ∷ xs) ys =
    then (IsPermutation-append_right (flat_map (h x) ys) _ _ (turned h xs ys))
    (IsPermutation-sym _ _ (pieces (h x) (λ y. flat_map (λ z. h z y) xs) ys))

map_flat : {X Y Z : Type 0} (f : Y → Z) (h : X → List Y) (xs : List X) → map f (flat_map h xs) ≡ flat_map (λ x. map f (h x)) xs
map_flat f h [] = refl
map_flat f h (x ∷ xs) = map-append f (h x) (flat_map h xs) ∙ ap (λ l. map f (h x) ++ l) (map_flat f h xs)

pub map_twice : {X Y Z : Type 0} (f : Y → Z) (g : X → Y) (xs : List X) → map f (map g xs) ≡ map (λ x. f (g x)) xs
map_twice f g [] = refl
map_twice f g (x ∷ xs) = ap (λ l. f (g x) ∷ l) (map_twice f g xs)

-- ## what is made of courses by places alone

-- what may come at a place
abbrev Offered : Type 0
Offered = ℕ × List Coming

abbrev after : {X : Type 0} → ℕ → Coming → (Course → X) → Course → X
after place c f course = f ((place, c) ∷ course)

abbrev IsByPlaces : {X : Type 0} → (Course → X) → Type 0
IsByPlaces f = (c d : Course) → ((place : ℕ) → comes_at place c ≡ comes_at place d) → f c ≡ f d

-- of each course that takes one coming of each of these places
picked : {X : Type 0} → (Course → X) → List Offered → List X
picked f [] = f [] ∷ []
picked f (o ∷ rest) = flat_map (λ c. picked (after o.0 c f) rest) o.1

comes_behind : (b : Bool) (x : ℕ × Coming) (o p : Option (ℕ × Coming)) → option_map (λ (c : ℕ × Coming). c.1) o ≡ option_map (λ (c : ℕ × Coming). c.1) p →
    option_map (λ (c : ℕ × Coming). c.1) (cond b (Some x) o) ≡ option_map (λ (c : ℕ × Coming). c.1) (cond b (Some x) p)
comes_behind true x o p e = refl
comes_behind false x o p e = e

after_by_places : {X : Type 0} (place : ℕ) (c : Coming) (f : Course → X) → IsByPlaces f → IsByPlaces (after place c f)
after_by_places place c f h d e same =
    h ((place, c) ∷ d) ((place, c) ∷ e) (λ at. comes_behind (place == at) (place, c) (find (λ (x : ℕ × Coming). x.0 == at) d) (find (λ (x : ℕ × Coming). x.0 == at) e) (same at))

either_first : (a b : Bool) (x y : ℕ × Coming) (o : Option (ℕ × Coming)) → (a ≡ true → b ≡ true → ⊥) →
    option_map (λ (c : ℕ × Coming). c.1) (cond a (Some x) (cond b (Some y) o)) ≡ option_map (λ (c : ℕ × Coming). c.1) (cond b (Some y) (cond a (Some x) o))
either_first true true x y o never = elim (never refl refl) [ ]
either_first true false x y o never = refl
either_first false true x y o never = refl
either_first false false x y o never = refl

-- the order of two places does not count
swapped : {X : Type 0} (f : Course → X) → IsByPlaces f → (p q : ℕ) → (p ≡ q → ⊥) → (c d : Coming) (course : Course) → after q d (after p c f) course ≡ after p c (after q d f) course
swapped f h p q apart c d course =
    h ((p, c) ∷ (q, d) ∷ course) ((q, d) ∷ (p, c) ∷ course)
    (λ at. either_first (p == at) (q == at) (p, c) (q, d) (find (λ (x : ℕ × Coming). x.0 == at) course) (λ a b. apart (eqb-true p at a ∙ sym (eqb-true q at b))))

-- none of some is at a place
IsApart : ℕ → List Offered → Type 0
IsApart place [] = ⊤
IsApart place (o ∷ rest) = (o.0 ≡ place → ⊥) × IsApart place rest

-- whichever is taken first
to_front : {X : Type 0} (f : Course → X) → IsByPlaces f → (front : List Offered) (o : Offered) (back : List Offered) → IsApart o.0 front →
    IsPermutation (picked f (front ++ o ∷ back)) (picked f (o ∷ (front ++ back)))
unfolding picked IsApart
to_front f h [] o back apart = IsPermutation-refl _
to_front f h (p ∷ front) o back apart =
    let inner = λ (c d : Coming). picked (after o.0 d (after p.0 c f)) (front ++ back) in
    let other = λ (c d : Coming). picked (after p.0 c (after o.0 d f)) (front ++ back) in
    let step : IsPermutation (flat_map (λ c. picked (after p.0 c f) (front ++ o ∷ back)) p.1) (flat_map (λ c. flat_map (inner c) o.1) p.1) =
    each _ _ (λ c. to_front (after p.0 c f) (after_by_places p.0 c f h) front o back apart.1) p.1 in
    let same : (λ (c d : Coming). inner c d) ≡ other = λ i c d. picked (λ course. swapped f h p.0 o.0 apart.0 c d course i) (front ++ back) in
    then step (then (turned inner p.1 o.1) (same_list _ _ (λ i. flat_map (λ d. flat_map (λ c. same i c d) p.1) o.1)))

-- what may come at a place comes of one part or of the other
parted : {X : Type 0} (f : Course → X) → IsByPlaces f → (front : List Offered) (place : ℕ) (some more : List Coming) (back : List Offered) → IsApart place front →
    IsPermutation (picked f (front ++ (place, some) ∷ back) ++ picked f (front ++ (place, more) ∷ back)) (picked f (front ++ (place, some ++ more) ∷ back))
unfolding picked
parted f h front place some more back apart =
    let all = front ++ back in
    let here = λ (c : Coming). picked (after place c f) all in
    let first = to_front f h front (place, some) back apart in
    let second = to_front f h front (place, more) back apart in
    let whole = to_front f h front (place, some ++ more) back apart in
    then (both _ _ _ _ first second)
    (then (same_list _ _ (sym (flat_map-append here some more))) (IsPermutation-sym _ _ whole))

-- ## turn by turn

pub lower : (low high : ℕ) (ps : List Placed) → low ≤ high → Ascends high ps → Ascends low ps
unfolding Ascends
lower low high [] le h = h
lower low high (p ∷ ps) le h = (omega (arith, le, h.0), h.1)

pub without : (low : ℕ) (front : List Placed) (p : Placed) (back : List Placed) → Ascends low (front ++ p ∷ back) → Ascends low (front ++ back)
unfolding Ascends
without low [] p back h = lower low (p.0 + 1) back (omega (arith, h.0)) h.1
without low (q ∷ front) p back h = (h.0, without (q.0 + 1) front p back h.1)

-- what may come at them in some turns from one on
abbrev within : ℕ → ℕ → Placed → Offered
within n turn p = (p.0, flat_map (comings_in p.1) (range_with_len turn n))

pub not_below : (low : ℕ) (front : List Placed) (p : Placed) (back : List Placed) → Ascends low (front ++ p ∷ back) → low ≤ p.0
unfolding Ascends
not_below low [] p back h = h.0
not_below low (q ∷ front) p back h =
    let more = not_below (q.0 + 1) front p back h.1 in
    let first = h.0 in
    omega (arith, more, first)

apart : (n turn low : ℕ) (front : List Placed) (p : Placed) (back : List Placed) → Ascends low (front ++ p ∷ back) → IsApart p.0 (map (within n turn) front)
unfolding Ascends IsApart
apart n turn low [] p back h = tt
apart n turn low (q ∷ front) p back h =
    let more = not_below (q.0 + 1) front p back h.1 in
    ((λ e. omega (arith, more, e)), apart n turn (q.0 + 1) front p back h.1)

-- the courses of some arrivals, by turns, are those by places
abbrev AreAll : (List Placed → List Course) → ℕ → ℕ → Type 1
AreAll next n turn = (X : Type 0) (f : Course → X) → IsByPlaces f → (low : ℕ) (ps : List Placed) → Ascends low ps → IsPermutation (map f (next ps)) (picked f (map (within n turn) ps))

begun : {X : Type 0} (f : Course → X) (place : ℕ) (cs : List Coming) (rest : List Course) → map f (begun_by place cs rest) ≡ flat_map (λ c. map (after place c f) rest) cs
begun f place cs rest =
    map_flat f (λ c. map (λ course. (place, c) ∷ course) rest) cs
    ∙ (λ i. flat_map (λ c. map_twice f (λ course. (place, c) ∷ course) rest i) cs)

in_turn : (next : List Placed → List Course) (n turn : ℕ) → AreAll next n (turn + 1) → (rest passed : List Placed) → (X : Type 0) (f : Course → X) → IsByPlaces f →
    (low : ℕ) → Ascends low (passed ++ rest) → IsPermutation (map f (courses_in next turn passed rest)) (picked f (map (within n (turn + 1)) passed ++ map (within (suc n) turn) rest))
unfolding courses_in picked
in_turn next n turn h [] passed X f by low order =
    let all : map (within n (turn + 1)) passed ++ [] ≡ map (within n (turn + 1)) passed = append-nil _ in
    rw all (h X f by low passed (subst (Ascends low) (append-nil passed) order))
in_turn next n turn h (p ∷ rest) passed X f by low order =
    let cs = comings_in p.1 turn in
    let front = map (within n (turn + 1)) passed in
    let back = map (within (suc n) turn) rest in
    let now = courses_in next turn passed rest in
    let later = courses_in next turn (passed ++ p ∷ []) rest in
    let fewer : Ascends low (passed ++ rest) = without low passed p rest order in
    let away : IsApart p.0 front = apart n (turn + 1) low passed p rest order in
    let come : IsPermutation (map f (begun_by p.0 cs now)) (picked f (front ++ (p.0, cs) ∷ back)) =
    then (same_list _ _ (begun f p.0 cs now))
    (then (each (λ c. map (after p.0 c f) now) (λ c. picked (after p.0 c f) (front ++ back)) (λ c. in_turn next n turn h rest passed X (after p.0 c f) (after_by_places p.0 c f by) low fewer) cs)
    (IsPermutation-sym _ _ (to_front f by front (p.0, cs) back away))) in
    let moved : (passed ++ p ∷ []) ++ rest ≡ passed ++ p ∷ rest = append_assoc passed (p ∷ []) rest in
    let waits : IsPermutation (map f later) (picked f (map (within n (turn + 1)) (passed ++ p ∷ []) ++ back)) = in_turn next n turn h rest (passed ++ p ∷ []) X f by low (subst (Ascends low) (sym moved) order) in
    let same : map (within n (turn + 1)) (passed ++ p ∷ []) ++ back ≡ front ++ within n (turn + 1) p ∷ back =
    ap (λ l. l ++ back) (map-append (within n (turn + 1)) passed (p ∷ [])) ∙ append_assoc front (within n (turn + 1) p ∷ []) back in
    then (same_list _ _ (map-append f (begun_by p.0 cs now) later))
    (then (both _ _ _ _ come (then waits (same_list _ _ (ap (picked f) same))))
    (parted f by front p.0 cs (flat_map (comings_in p.1) (range_with_len (turn + 1) n)) back away))

by_turns : (n turn : ℕ) → AreAll (courses n turn) n turn
unfolding courses picked
by_turns zero turn X f by low [] order = IsPermutation-refl _
by_turns (suc n) turn X f by low [] order = IsPermutation-refl _
by_turns zero turn X f by low (p ∷ ps) order = IsPermutation-refl _
by_turns (suc n) turn X f by low (p ∷ ps) order = in_turn (courses n (turn + 1)) n turn (by_turns n (turn + 1)) (p ∷ ps) [] X f by low order

-- ## which come

-- of each set of arrivals that has those that may not fail
unfoldable pub subsets : {X : Type 0} → (List Placed → List X) → List Placed → List X
subsets g [] = g []
subsets g (p ∷ rest) = cond p.1.may_fail (subsets g rest) [] ++ subsets (λ ps. g (p ∷ ps)) rest

-- of those in which fewer than n of those come that may fail
unfoldable pub sized : {X : Type 0} → (List Placed → List X) → ℕ → List Placed → List X
sized g n ps = flat_map (λ some. flat_map g (parties some ps)) (range_with_len 0 n)

shifted : {A : Type 0} (h : ℕ → List A) (from n : ℕ) → flat_map h (range_with_len (from + 1) n) ≡ flat_map (λ k. h (suc k)) (range_with_len from n)
shifted h from zero = refl
shifted h from (suc n) = ap (λ k. h k ++ flat_map h (range_with_len (from + 1 + 1) n)) (add-one from) ∙ ap (λ l. h (suc from) ++ l) (shifted h (from + 1) n)

pub sure : (p : Placed) (rest : List Placed) → p.1.may_fail ≡ false → (some : ℕ) → parties some (p ∷ rest) ≡ map (λ more. p ∷ more) (parties some rest)
unfolding parties
sure p rest e zero = rw e refl
sure p rest e (suc some) = rw e refl

pub none_fails : (p : Placed) (rest : List Placed) → p.1.may_fail ≡ true → parties zero (p ∷ rest) ≡ parties zero rest
unfolding parties
none_fails p rest e = rw e refl

pub some_fail : (p : Placed) (rest : List Placed) → p.1.may_fail ≡ true → (some : ℕ) → parties (suc some) (p ∷ rest) ≡ map (λ more. p ∷ more) (parties some rest) ++ parties (suc some) rest
unfolding parties
some_fail p rest e some = rw e refl

nothing_more : {X : Type 0} (g : List Placed → List X) (n from : ℕ) → flat_map (λ some. flat_map g (parties some [])) (range_with_len (from + 1) n) ≡ []
unfolding parties
nothing_more g zero from = refl
nothing_more g (suc n) from = rw (add-one from) (nothing_more g n (suc from))

none_come : (X : Type 0) (g : List Placed → List X) (n : ℕ) → sized g (suc n) [] ≡ g []
unfolding sized parties
none_come X g n =
    let rest = nothing_more g n 0 in
    ap (λ l. (g [] ++ []) ++ l) rest ∙ append-nil (g [] ++ []) ∙ append-nil (g [])

pub by_size : (ps : List Placed) (n : ℕ) → length ps < n → (X : Type 0) (g : List Placed → List X) → IsPermutation (sized g n ps) (subsets g ps)
unfolding sized subsets
by_size [] zero lt X g = let no : ⊥ = omega (arith, lt) in elim no [ ]
by_size [] (suc n) lt X g = same_list _ _ (none_come X g n)
by_size (p ∷ rest) zero lt X g = let no : ⊥ = omega (arith, lt) in elim no [ ]
by_size (p ∷ rest) (suc n) lt X g = by_first (λ m le. by_size rest m le X) p.1.may_fail refl
  where
    with_first : List Placed → List X
    with_first ps = g (p ∷ ps)

    less : length rest < suc n
    less = omega (arith, lt)

    fewer : length rest < n
    fewer = omega (arith, lt)

    by_first : ((m : ℕ) → length rest < m → (h : List Placed → List X) → IsPermutation (sized h m rest) (subsets h rest)) → (b : Bool) → p.1.may_fail ≡ b → IsPermutation (sized g (suc n) (p ∷ rest)) (cond b (subsets g rest) [] ++ subsets with_first rest)
    by_first ih false e =
        let same : (some : ℕ) → flat_map g (parties some (p ∷ rest)) ≡ flat_map with_first (parties some rest) = λ some. ap (flat_map g) (sure p rest e some) ∙ flat_map-map g (λ more. p ∷ more) (parties some rest) in
        then (same_list _ _ (λ i. flat_map (λ some. same some i) (range_with_len 0 (suc n)))) (ih (suc n) less with_first)
    by_first ih true e =
        let all : ℕ → List X = λ some. flat_map g (parties some (p ∷ rest)) in
        let without_p : ℕ → List X = λ some. flat_map g (parties some rest) in
        let with_p : ℕ → List X = λ some. flat_map with_first (parties some rest) in
        let range = range_with_len 0 n in
        let none : all 0 ≡ without_p 0 = ap (flat_map g) (none_fails p rest e) in
        let more : (k : ℕ) → all (suc k) ≡ with_p k ++ without_p (suc k) =
        λ k. ap (flat_map g) (some_fail p rest e k) ∙ flat_map-append g (map (λ more. p ∷ more) (parties k rest)) (parties (suc k) rest)
        ∙ ap (λ l. l ++ without_p (suc k)) (flat_map-map g (λ more. p ∷ more) (parties k rest)) in
        let cut : sized g (suc n) (p ∷ rest) ≡ without_p 0 ++ flat_map (λ k. with_p k ++ without_p (suc k)) range =
        (λ i. none i ++ shifted all 0 n i) ∙ (λ i. without_p 0 ++ flat_map (λ k. more k i) range) in
        let back : sized g (suc n) rest ≡ without_p 0 ++ flat_map (λ k. without_p (suc k)) range = λ i. without_p 0 ++ shifted without_p 0 n i in
        let zs = without_p 0 in
        let us = flat_map with_p range in
        let vs = flat_map (λ k. without_p (suc k)) range in
        then (same_list _ _ cut)
        (then (IsPermutation-append_right zs _ _ (then (pieces with_p (λ k. without_p (suc k)) range) (IsPermutation-append_comm us vs)))
        (then (same_list _ _ (sym (append_assoc zs vs us)))
        (both (zs ++ vs) _ us _ (then (same_list _ _ (sym back)) (ih (suc n) less g)) (ih n fewer with_first))))

-- ## the arrivals place by place, each in each of its ways

chosen : {X : Type 0} → (Placed → List Coming) → (Course → X) → List Placed → List X
chosen comes f [] = f [] ∷ []
chosen comes f (p ∷ rest) = cond p.1.may_fail (chosen comes f rest) [] ++ flat_map (λ c. chosen comes (after p.0 c f) rest) (comes p)

subsets_turned : (ps : List Placed) (X : Type 0) (h : Coming → List Placed → List X) (cs : List Coming) → IsPermutation (subsets (λ qs. flat_map (λ c. h c qs) cs) ps) (flat_map (λ c. subsets (h c) ps) cs)
unfolding subsets
subsets_turned [] X h cs = IsPermutation-refl _
subsets_turned (p ∷ rest) X h cs = go p.1.may_fail (subsets_turned rest X h cs) (subsets_turned rest X with_first cs)
  where
    with_first : Coming → List Placed → List X
    with_first c qs = h c (p ∷ qs)

    go : (b : Bool) → IsPermutation (subsets (λ qs. flat_map (λ c. h c qs) cs) rest) (flat_map (λ c. subsets (h c) rest) cs) →
        IsPermutation (subsets (λ qs. flat_map (λ c. with_first c qs) cs) rest) (flat_map (λ c. subsets (with_first c) rest) cs) →
        IsPermutation (cond b (subsets (λ qs. flat_map (λ c. h c qs) cs) rest) [] ++ subsets (λ qs. flat_map (λ c. with_first c qs) cs) rest)
        (flat_map (λ c. cond b (subsets (h c) rest) [] ++ subsets (with_first c) rest) cs)
    go true skip come = then (both _ _ _ _ skip come) (IsPermutation-sym _ _ (pieces (λ c. subsets (h c) rest) (λ c. subsets (with_first c) rest) cs))
    go false skip come = come

by_ways : (comes : Placed → List Coming) (ps : List Placed) (X : Type 0) (f : Course → X) → IsPermutation (subsets (λ qs. picked f (map (λ p. (p.0, comes p)) qs)) ps) (chosen comes f ps)
unfolding subsets picked chosen
by_ways comes [] X f = IsPermutation-refl _
by_ways comes (p ∷ rest) X f =
    let here = λ (c : Coming) (qs : List Placed). picked (after p.0 c f) (map (λ (q : Placed). (q.0, comes q)) qs) in
    both _ _ _ _ (skip p.1.may_fail (by_ways comes rest X f))
    (then (subsets_turned rest X here (comes p)) (each (λ c. subsets (here c) rest) (λ c. chosen comes (after p.0 c f) rest) (λ c. by_ways comes rest X (after p.0 c f)) (comes p)))
  where
    skip : (b : Bool) → IsPermutation (subsets (λ qs. picked f (map (λ q. (q.0, comes q)) qs)) rest) (chosen comes f rest) → IsPermutation (cond b (subsets (λ qs. picked f (map (λ q. (q.0, comes q)) qs)) rest) []) (cond b (chosen comes f rest) [])
    skip true h = h
    skip false h = IsPermutation-refl []

-- ## each set of arrivals is in ascending order

EachAscends : ℕ → List (List Placed) → Type 0
EachAscends low [] = ⊤
EachAscends low (ps ∷ rest) = Ascends low ps × EachAscends low rest

ascend_append : (low : ℕ) (xs ys : List (List Placed)) → EachAscends low xs → EachAscends low ys → EachAscends low (xs ++ ys)
unfolding EachAscends
ascend_append low [] ys h k = k
ascend_append low (x ∷ xs) ys h k = (h.0, ascend_append low xs ys h.1 k)

ascend_behind : (low : ℕ) (p : Placed) → low ≤ p.0 → (qs : List (List Placed)) → EachAscends (p.0 + 1) qs → EachAscends low (map (λ more. p ∷ more) qs)
unfolding EachAscends Ascends
ascend_behind low p le [] h = tt
ascend_behind low p le (q ∷ qs) h = ((le, h.0), ascend_behind low p le qs h.1)

ascending : (some : ℕ) (ps : List Placed) (low : ℕ) → Ascends low ps → EachAscends low (parties some ps)
unfolding EachAscends Ascends parties
ascending zero [] low h = (tt, tt)
ascending (suc some) [] low h = tt
ascending zero (p ∷ rest) low h = go p.1.may_fail (ascending zero rest low (lower low (p.0 + 1) rest (omega (arith, h.0)) h.1)) (ascending zero rest (p.0 + 1) h.1)
  where
    go : (b : Bool) → EachAscends low (parties zero rest) → EachAscends (p.0 + 1) (parties zero rest) → EachAscends low (cond b (parties zero rest) (map (λ more. p ∷ more) (parties zero rest)))
    go true skip come = skip
    go false skip come = ascend_behind low p h.0 (parties zero rest) come
ascending (suc some) (p ∷ rest) low h =
    go p.1.may_fail (ascending some rest (p.0 + 1) h.1) (ascending (suc some) rest low (lower low (p.0 + 1) rest (omega (arith, h.0)) h.1)) (ascending (suc some) rest (p.0 + 1) h.1)
  where
    go : (b : Bool) → EachAscends (p.0 + 1) (parties some rest) → EachAscends low (parties (suc some) rest) → EachAscends (p.0 + 1) (parties (suc some) rest) → EachAscends low (cond b (map (λ more. p ∷ more) (parties some rest) ++ parties (suc some) rest) (map (λ more. p ∷ more) (parties (suc some) rest)))
    go true fewer skip come = ascend_append low _ _ (ascend_behind low p h.0 (parties some rest) fewer) skip
    go false fewer skip come = ascend_behind low p h.0 (parties (suc some) rest) come

all_by_turns : (n turn low : ℕ) (X : Type 0) (f : Course → X) → IsByPlaces f → (qs : List (List Placed)) → EachAscends low qs →
    IsPermutation (flat_map (λ ps. map f (courses n turn ps)) qs) (flat_map (λ ps. picked f (map (within n turn) ps)) qs)
unfolding EachAscends
all_by_turns n turn low X f by [] h = IsPermutation-refl []
all_by_turns n turn low X f by (q ∷ qs) h = both _ _ _ _ (by_turns n turn X f by low q h.0) (all_by_turns n turn low X f by qs h.1)

-- ## the turns of a range

pub cut : (from m n : ℕ) → range_with_len from (m + n) ≡ range_with_len from m ++ range_with_len (from + m) n
cut from zero n =
    let one : 0 + n ≡ n = omega arith in
    let two : from ≡ from + 0 = omega arith in
    ap (range_with_len from) one ∙ ap (λ a. range_with_len a n) two
cut from (suc m) n =
    let one : suc m + n ≡ suc (m + n) = omega arith in
    let two : from + 1 + m ≡ from + suc m = omega arith in
    ap (range_with_len from) one ∙ ap (λ l. from ∷ l) (cut (from + 1) m n ∙ ap (λ a. range_with_len (from + 1) m ++ range_with_len a n) two)

in_none : (a : Arrival) (turn : ℕ) → may_come_in a turn ≡ false → comings_in a turn ≡ []
in_none a turn e = rw e refl

before : (a : Arrival) (from n : ℕ) → from + n ≤ a.first → flat_map (comings_in a) (range_with_len from n) ≡ []
before a from zero le = refl
before a from (suc n) le =
    let no : may_come_in a from ≡ false = grind (arith, nat_tests) in
    rw (in_none a from no) (before a (from + 1) n (omega (arith, le)))

past : (a : Arrival) (from n : ℕ) → a.below ≤ from → flat_map (comings_in a) (range_with_len from n) ≡ []
past a from zero le = refl
past a from (suc n) le =
    let no : may_come_in a from ≡ false = grind (arith, nat_tests) in
    rw (in_none a from no) (past a (from + 1) n (omega (arith, le)))

never_there : (a : Arrival) (from n : ℕ) → a.below ≤ a.first → flat_map (comings_in a) (range_with_len from n) ≡ []
never_there a from zero le = refl
never_there a from (suc n) le =
    let no : may_come_in a from ≡ false = grind (arith, nat_tests) in
    rw (in_none a from no) (never_there a (from + 1) n le)

inside : (a : Arrival) (from n : ℕ) → a.first ≤ from → from + n ≤ a.below → flat_map (comings_in a) (range_with_len from n) ≡ flat_map (comings a) (range_with_len from n)
inside a from zero low high = refl
inside a from (suc n) low high =
    let yes : may_come_in a from ≡ true = grind (arith, nat_tests) in
    let here : comings_in a from ≡ comings a from = rw yes refl in
    let more = inside a (from + 1) n (omega (arith, low)) (omega (arith, high)) in
    λ i. here i ++ more i

whole : (a : Arrival) (n : ℕ) → a.below ≤ n → flat_map (comings_in a) (range_with_len 0 n) ≡ all_comings a
whole a n le = go (cases_lt a.first a.below)
  where
    go : (a.first < a.below) ⊎ (a.below ≤ a.first) → flat_map (comings_in a) (range_with_len 0 n) ≡ all_comings a
    go (inr never) =
        let none : a.below - a.first ≡ 0 = omega (arith, never) in
        never_there a 0 n never ∙ sym (ap (λ k. flat_map (comings a) (range_with_len a.first k)) none)
    go (inl some) =
        let parts : n ≡ a.first + ((a.below - a.first) + (n - a.below)) = omega (arith, some, le) in
        let zero_first : 0 + a.first ≡ a.first = omega arith in
        let range : range_with_len 0 n ≡ range_with_len 0 a.first ++ (range_with_len a.first (a.below - a.first) ++ range_with_len (a.first + (a.below - a.first)) (n - a.below)) =
        ap (range_with_len 0) parts ∙ cut 0 a.first _ ∙ ap (λ k. range_with_len 0 a.first ++ range_with_len k ((a.below - a.first) + (n - a.below))) zero_first
        ∙ ap (λ l. range_with_len 0 a.first ++ l) (cut a.first (a.below - a.first) (n - a.below)) in
        let middle = range_with_len a.first (a.below - a.first) in
        let last = range_with_len (a.first + (a.below - a.first)) (n - a.below) in
        ap (flat_map (comings_in a)) range
        ∙ flat_map-append (comings_in a) (range_with_len 0 a.first) (middle ++ last)
        ∙ ap (λ l. l ++ flat_map (comings_in a) (middle ++ last)) (before a 0 a.first (omega arith))
        ∙ flat_map-append (comings_in a) middle last
        ∙ (λ i. inside a a.first (a.below - a.first) (omega arith) (omega (arith, some)) i ++ past a (a.first + (a.below - a.first)) (n - a.below) (omega (arith, some)) i)
        ∙ append-nil (flat_map (comings a) middle)

-- ## the product

-- no place of a course is below a number
From : ℕ → Course → Type 0
From low [] = ⊤
From low (x ∷ course) = (low ≤ x.0) × From low course

chosen_same : (comes : Placed → List Coming) (ps : List Placed) (low : ℕ) → Ascends low ps → (X : Type 0) (f g : Course → X) → ((course : Course) → From low course → f course ≡ g course) → chosen comes f ps ≡ chosen comes g ps
unfolding chosen Ascends From
chosen_same comes [] low order X f g h = ap (λ x. x ∷ []) (h [] tt)
chosen_same comes (p ∷ rest) low order X f g h =
    let less = lower low (p.0 + 1) rest (omega (arith, order.0)) order.1 in
    let skip = chosen_same comes rest low less X f g h in
    let come = λ (c : Coming). chosen_same comes rest low less X (after p.0 c f) (after p.0 c g) (λ course from. h ((p.0, c) ∷ course) (order.0, from)) in
    λ i. cond p.1.may_fail (skip i) [] ++ flat_map (λ c. come c i) (comes p)

pub placed_ascend : (arrivals : List Arrival) (place : ℕ) → Ascends place (placed arrivals place)
unfolding Ascends
placed_ascend [] place = tt
placed_ascend (a ∷ rest) place = (omega arith, placed_ascend rest (place + 1))

not_there : (place : ℕ) (course : Course) → From (place + 1) course → comes_at place course ≡ None
unfolding From
not_there place [] h = refl
not_there place (x ∷ course) h =
    let first = h.0 in
    let no : (x.0 == place) ≡ false = ne_eqb x.0 place (λ e. omega (arith, e, first)) in
    rw no (not_there place course h.1)

others : (place : ℕ) (c : Coming) (ps : List Placed) (low : ℕ) → place < low → Ascends low ps → (course : Course) → map (λ (p : Placed). comes_at p.0 ((place, c) ∷ course)) ps ≡ map (λ (p : Placed). comes_at p.0 course) ps
unfolding Ascends
others place c [] low lt h course = refl
others place c (p ∷ ps) low lt h course =
    let first = h.0 in
    let no : (place == p.0) ≡ false = ne_eqb place p.0 (λ e. omega (arith, e, first, lt)) in
    let here : comes_at p.0 ((place, c) ∷ course) ≡ comes_at p.0 course = rw no refl in
    let more = others place c ps (p.0 + 1) (omega (arith, first, lt)) h.1 course in
    λ i. here i ∷ more i

abbrev in_ranges : ℕ → Placed → List Coming
in_ranges n p = flat_map (comings_in p.1) (range_with_len 0 n)

abbrev at_places : List Placed → Course → Schedule
at_places ps course = map (λ p. comes_at p.0 course) ps

product : (n : ℕ) (arrivals : List Arrival) (place : ℕ) → end_of arrivals ≤ n → (X : Type 0) (g : Schedule → X) →
    chosen (in_ranges n) (λ course. g (at_places (placed arrivals place) course)) (placed arrivals place) ≡ map g (schedules arrivals)
unfolding chosen schedules
product n [] place le X g = refl
product n (a ∷ rest) place le X g =
    let ps = placed rest (place + 1) in
    let order = placed_ascend rest (place + 1) in
    let fits : a.below ≤ n = omega (arith, le) in
    let more : end_of rest ≤ n = omega (arith, le) in
    let by = λ (way : Option Coming). map (λ s. g (way ∷ s)) (schedules rest) in
    let skip : chosen (in_ranges n) (λ course. g (comes_at place course ∷ at_places ps course)) ps ≡ by None =
    chosen_same (in_ranges n) ps (place + 1) order X (λ course. g (comes_at place course ∷ at_places ps course)) (λ course. g (None ∷ at_places ps course))
    (λ course from. ap (λ o. g (o ∷ at_places ps course)) (not_there place course from))
    ∙ product n rest (place + 1) more X (λ s. g (None ∷ s)) in
    let there : (c : Coming) (course : Course) → comes_at place ((place, c) ∷ course) ≡ Some c = λ c course. let yes : (place == place) ≡ true = eq-eqb place place refl in rw yes refl in
    let come : (c : Coming) → chosen (in_ranges n) (λ course. g (comes_at place ((place, c) ∷ course) ∷ at_places ps ((place, c) ∷ course))) ps ≡ by (Some c) = λ c.
    (λ i. chosen (in_ranges n) (λ course. g (there c course i ∷ others place c ps (place + 1) (omega arith) order course i)) ps)
    ∙ product n rest (place + 1) more X (λ s. g (Some c ∷ s)) in
    (λ i. cond a.may_fail (skip i) [] ++ flat_map (λ c. come c i) (whole a n fits i))
    ∙ sym (ways_apart a.may_fail by (all_comings a))
    ∙ sym (map_flat g (λ way. map (λ s. way ∷ s) (schedules rest)) (ways a) ∙ (λ i. flat_map (λ way. map_twice g (λ s. way ∷ s) (schedules rest) i) (ways a)))
  where
    ways_apart : (b : Bool) (by : Option Coming → List X) (cs : List Coming) → flat_map by (cond b (None ∷ []) [] ++ map (λ c. Some c) cs) ≡ cond b (by None) [] ++ flat_map (λ c. by (Some c)) cs
    ways_apart true by cs = (λ i. by None ++ flat_map-map by (λ c. Some c) cs i)
    ways_apart false by cs = flat_map-map by (λ c. Some c) cs

pub length_placed : (arrivals : List Arrival) (place : ℕ) → length (placed arrivals place) ≡ length arrivals
length_placed [] place = refl
length_placed (a ∷ rest) place = ap suc (length_placed rest (place + 1))

pub each_once : (arrivals : List Arrival) → IsPermutation (map (schedule_of arrivals) (courses_of arrivals)) (schedules arrivals)
unfolding sized
each_once arrivals =
    let ps = placed arrivals 0 in
    let n = end_of arrivals in
    let f = schedule_of arrivals in
    let range = range_with_len 0 (length arrivals + 1) in
    let by : IsByPlaces f = λ c d same i. map (λ (p : Placed). same p.0 i) ps in
    let flat : map f (courses_of arrivals) ≡ flat_map (λ some. flat_map (λ qs. map f (courses n 0 qs)) (parties some ps)) range =
    map_flat f (λ some. flat_map (courses n 0) (parties some ps)) range ∙ (λ i. flat_map (λ some. map_flat f (courses n 0) (parties some ps) i) range) in
    let few : length ps < length arrivals + 1 = rw (length_placed arrivals 0) (omega arith) in
    then (same_list _ _ flat)
    (then (each (λ some. flat_map (λ qs. map f (courses n 0 qs)) (parties some ps)) (λ some. flat_map (λ qs. picked f (map (within n 0) qs)) (parties some ps))
    (λ some. all_by_turns n 0 0 Schedule f by (parties some ps) (ascending some ps 0 (placed_ascend arrivals 0))) range)
    (then (by_size ps (length arrivals + 1) few Schedule (λ qs. picked f (map (within n 0) qs)))
    (then (by_ways (in_ranges n) ps Schedule f)
    (same_list _ _ (product n arrivals 0 (omega arith) Schedule (λ s. s) ∙ map-id (schedules arrivals))))))
