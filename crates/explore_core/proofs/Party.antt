-- The arrivals that come, by bits.
use Rattle.std.proofs.Common.{◌≡◌, ◌∙◌, ℕ, zero, suc, ◌+◌, ◌-◌, ◌*◌, ◌/◌, ◌%◌, ◌^◌, ◌<◌, ◌≤◌, Bool, true, false, List, [], ◌∷◌, ◌++◌, length, get_or, map, drop, Some, refl, sym, ap, subst, arith, append-nil, append_assoc, length-append, map-id, pow_mono, pow_pos, pow-add, mul_comm, add-mul, mod-lt}
use Rattle.std.specs.Prelude.{◌==◌, cond, filter, slice_get}
use Rattle.std.specs.List.{All, flat_map, range_with_len}
use Rattle.std.proofs.lemmas.List.{drop_all, drop_more, get_or-map, length-map, map-append}
use Rattle.std.proofs.lemmas.List.Concat.{flat_map_single, flat_map-append}
use Rattle.std.proofs.lemmas.List.Elements.{All-cons, All-filter, All-nil}
use Rattle.std.proofs.lemmas.List.Sorted.{length_permutation}
use Rattle.std.proofs.lemmas.Nat.{one_shl, shr_high, shr_split}
use Rattle.run_question.specs.declared.question.Arrival as code
use Rattle.run_question.specs.Questions.{arrival_data}
use Rattle.explore_core.specs.Exploring.{Ascends}
use Rattle.explore_core.specs.Parties.{parties_of, party_of}
use Rattle.explore_core.specs.Schedules.{Arrival}
use Rattle.explore_core.specs.Walked.{Placed, courses, courses_of, end_of, parties, placed}
use Rattle.explore_core.proofs.EachOnce.{by_size, cut, length_placed, lower, map_twice, none_fails, placed_ascend, sized, some_fail, subsets, sure}

-- ## bits

pub bit_is : (place : ℕ) → place < 8 → 1 * 2 ^ place % 256 ≡ 2 ^ place
bit_is place lt = one_shl place 8 lt

twice : (place : ℕ) → 2 ^ (place + 1) ≡ 2 ^ place * 2
twice place = pow-add 2 place 1

pub fits_more : (bits place : ℕ) → place < 8 → bits < 2 ^ place → (bits + 2 ^ place < 2 ^ (place + 1)) × (bits + 2 ^ place < 256)
fits_more bits place lt h =
    let more = twice place in
    let most : 2 ^ place ≤ 2 ^ 7 = pow_mono {i = place} {j = 7} (omega (arith, lt)) in
    (omega (arith, h, more), omega (arith, h, most))

pub fits_still : (bits place : ℕ) → bits < 2 ^ place → bits < 2 ^ (place + 1)
fits_still bits place h = omega (arith, h, twice place)

-- whether a number has the bit of an arrival
abbrev has : ℕ → Placed → Bool
has bits p = bits / 2 ^ p.0 % 2 == 1

no_bit : (bits place : ℕ) → bits < 2 ^ place → (bits / 2 ^ place % 2 == 1) ≡ false
no_bit bits place h =
    let parts : bits ≡ 0 * 2 ^ place + bits = omega arith in
    let high : bits / 2 ^ place ≡ 0 = ap (λ n. n / 2 ^ place) parts ∙ shr_high 0 place bits h in
    rw high refl

own_bit : (bits place : ℕ) → bits < 2 ^ place → ((bits + 2 ^ place) / 2 ^ place % 2 == 1) ≡ true
own_bit bits place h =
    let parts : bits + 2 ^ place ≡ 1 * 2 ^ place + bits = omega arith in
    let high : (bits + 2 ^ place) / 2 ^ place ≡ 1 = ap (λ n. n / 2 ^ place) parts ∙ shr_high 1 place bits h in
    rw high refl

lower_bit : (bits low k place : ℕ) → place ≡ low + (k + 1) → ((bits + 2 ^ place) / 2 ^ low % 2 == 1) ≡ (bits / 2 ^ low % 2 == 1)
lower_bit bits low k place e =
    let unit = 2 ^ low in
    let power : 2 ^ place ≡ unit * (2 ^ k * 2) = ap (λ n. 2 ^ n) e ∙ pow-add 2 low (k + 1) ∙ ap (λ n. unit * n) (twice k) in
    let turned : unit * (2 ^ k * 2) ≡ (2 ^ k * 2) * unit = mul_comm unit (2 ^ k * 2) in
    let split = shr_split bits low in
    let spread = add-mul (bits / unit) (2 ^ k * 2) unit in
    let parts : bits + 2 ^ place ≡ (bits / unit + 2 ^ k * 2) * unit + bits % unit = omega (arith, power, turned, split, spread) in
    let high : (bits + 2 ^ place) / unit ≡ bits / unit + 2 ^ k * 2 = ap (λ n. n / unit) parts ∙ shr_high (bits / unit + 2 ^ k * 2) low (bits % unit) (mod-lt bits (pow_pos low)) in
    let even : (bits / unit + 2 ^ k * 2) % 2 ≡ bits / unit % 2 = omega arith in
    ap (λ n. n == 1) (ap (λ n. n % 2) high ∙ even)

none_above : (bits : ℕ) (arrivals : List Arrival) (from : ℕ) → bits < 2 ^ from → filter (has bits) (placed arrivals from) ≡ []
none_above bits [] from h = refl
none_above bits (a ∷ rest) from h = rw (no_bit bits from h) (none_above bits rest (from + 1) (fits_still bits from h))

pub no_party : (arrivals : List Arrival) → party_of arrivals 0 ≡ []
no_party arrivals = none_above 0 arrivals 0 (pow_pos 0)

behind : {X : Type 0} (b : Bool) (x : X) (more less last : List X) → more ≡ less ++ last → cond b (x ∷ more) more ≡ cond b (x ∷ less) less ++ last
behind true x more less last e = ap (λ l. x ∷ l) e
behind false x more less last e = e

bit_more : (arrivals : List Arrival) (from k place bits : ℕ) (d : Arrival) → place ≡ from + k → k < length arrivals → bits < 2 ^ place →
    filter (has (bits + 2 ^ place)) (placed arrivals from) ≡ filter (has bits) (placed arrivals from) ++ (place, get_or arrivals k d) ∷ []
bit_more [] from k place bits d e lt h = absurd (omega (arith, lt))
bit_more (a ∷ rest) from zero place bits d e lt h =
    let here : from ≡ place = omega (arith, e) in
    subst (λ low. filter (has (bits + 2 ^ place)) ((low, a) ∷ placed rest (low + 1)) ≡ filter (has bits) ((low, a) ∷ placed rest (low + 1)) ++ (place, a) ∷ []) (sym here)
    (rw (own_bit bits place h, no_bit bits place h, none_above (bits + 2 ^ place) rest (place + 1) (omega (arith, h, twice place)), none_above bits rest (place + 1) (fits_still bits place h)) refl)
bit_more (a ∷ rest) from (suc k) place bits d e lt h =
    let more = bit_more rest (from + 1) k place bits d (omega (arith, e)) (omega (arith, lt)) h in
    rw (lower_bit bits from k place (omega (arith, e))) (behind (bits / 2 ^ from % 2 == 1) (from, a) _ _ _ more)

-- with an arrival behind the others
pub one_more : (arrivals : List Arrival) (place bits n : ℕ) (d : Arrival) → place < length arrivals → bits < 2 ^ place → n ≡ bits + 2 ^ place → party_of arrivals n ≡ party_of arrivals bits ++ (place, get_or arrivals place d) ∷ []
one_more arrivals place bits n d lt h e =
    ap (party_of arrivals) e ∙ bit_more arrivals 0 place place bits d (omega arith) lt h

-- ## the parties that have these bits, and some of the arrivals from a place on

abbrev pub with_bits : List Arrival → ℕ → ℕ → ℕ → List (List Placed)
with_bits arrivals place some bits = map (λ more. party_of arrivals bits ++ more) (parties some (placed (drop place arrivals) place))

-- where no arrival is left
at_end : (some : ℕ) → (some ≡ 0 → parties some [] ≡ [] ∷ []) × ((some ≡ 0 → ⊥) → parties some [] ≡ [])
unfolding parties
at_end zero = ((λ e. refl), (λ left. absurd (left refl)))
at_end (suc some) = ((λ e. absurd (omega (arith, e))), (λ left. refl))

no_rest : (arrivals : List Arrival) (place : ℕ) → length arrivals ≤ place → placed (drop place arrivals) place ≡ []
no_rest arrivals place le = ap (λ l. placed l place) (drop_all place arrivals le)

pub ends_with : (arrivals : List Arrival) (place some bits : ℕ) (old new : List ℕ) → length arrivals ≤ place → some ≡ 0 → new ≡ old ++ bits ∷ [] →
    map (party_of arrivals) new ≡ map (party_of arrivals) old ++ with_bits arrivals place some bits
ends_with arrivals place some bits old new le none e =
    let last : with_bits arrivals place some bits ≡ (party_of arrivals bits ++ []) ∷ [] =
    ap (λ ps. map (λ more. party_of arrivals bits ++ more) (parties some ps)) (no_rest arrivals place le) ∙ ap (map (λ more. party_of arrivals bits ++ more)) ((at_end some).0 none) in
    ap (map (party_of arrivals)) e ∙ map-append (party_of arrivals) old (bits ∷ [])
    ∙ ap (λ (p : List Placed). map (party_of arrivals) old ++ p ∷ []) (sym (append-nil (party_of arrivals bits)))
    ∙ ap (λ l. map (party_of arrivals) old ++ l) (sym last)

pub ends_without : (arrivals : List Arrival) (place some bits : ℕ) (old : List ℕ) → length arrivals ≤ place → (some ≡ 0 → ⊥) →
    map (party_of arrivals) old ≡ map (party_of arrivals) old ++ with_bits arrivals place some bits
ends_without arrivals place some bits old le left =
    let last : with_bits arrivals place some bits ≡ [] =
    ap (λ ps. map (λ more. party_of arrivals bits ++ more) (parties some ps)) (no_rest arrivals place le) ∙ ap (map (λ more. party_of arrivals bits ++ more)) ((at_end some).1 left) in
    sym (append-nil _) ∙ ap (λ l. map (party_of arrivals) old ++ l) (sym last)

-- with the arrival of the place, or without it
module _ (arrivals : List Arrival) (place bits : ℕ) (d : Arrival) (lt : place < length arrivals) where
  a : Arrival
  a = get_or arrivals place d

  rest : List Placed
  rest = placed (drop (place + 1) arrivals) (place + 1)

  here : placed (drop place arrivals) place ≡ (place, a) ∷ rest
  unfolding a rest
  here = ap (λ l. placed l place) (drop_more arrivals place d lt)

  with_it : (n : ℕ) → bits < 2 ^ place → n ≡ bits + 2 ^ place → (ps : List (List Placed)) → map (λ more. party_of arrivals n ++ more) ps ≡ map (λ more. party_of arrivals bits ++ more) (map (λ more. (place, a) ∷ more) ps)
  unfolding a
  with_it n h e ps =
      let one : (more : List Placed) → party_of arrivals n ++ more ≡ party_of arrivals bits ++ (place, a) ∷ more = λ more. ap (λ l. l ++ more) (one_more arrivals place bits n d lt h e) ∙ append_assoc (party_of arrivals bits) ((place, a) ∷ []) more in
      (λ i. map (λ more. one more i) ps) ∙ sym (map_twice (λ more. party_of arrivals bits ++ more) (λ more. (place, a) ∷ more) ps)

  pub comes : (some n : ℕ) → bits < 2 ^ place → n ≡ bits + 2 ^ place → (get_or arrivals place d).may_fail ≡ false → with_bits arrivals (place + 1) some n ≡ with_bits arrivals place some bits
  unfolding a rest
  comes some n h e sure_to =
      with_it n h e (parties some rest) ∙ ap (map (λ more. party_of arrivals bits ++ more)) (sym (sure (place, a) rest sure_to some) ∙ ap (parties some) (sym here))

  pub stays_away : (some : ℕ) → some ≡ 0 → (get_or arrivals place d).may_fail ≡ true → with_bits arrivals (place + 1) some bits ≡ with_bits arrivals place some bits
  unfolding a rest
  stays_away some none may =
      let least : parties some rest ≡ parties some ((place, a) ∷ rest) = subst (λ k. parties k rest ≡ parties k ((place, a) ∷ rest)) (sym none) (sym (none_fails (place, a) rest may)) in
      ap (map (λ more. party_of arrivals bits ++ more)) (least ∙ ap (parties some) (sym here))

  pub comes_or_not : (some n : ℕ) → 0 < some → bits < 2 ^ place → n ≡ bits + 2 ^ place → (get_or arrivals place d).may_fail ≡ true →
      with_bits arrivals (place + 1) (some - 1) n ++ with_bits arrivals (place + 1) some bits ≡ with_bits arrivals place some bits
  unfolding a rest
  comes_or_not zero n lt0 h e may = absurd (omega (arith, lt0))
  comes_or_not (suc some) n lt0 h e may =
      let less : suc some - 1 ≡ some = omega arith in
      let onto = λ (more : List Placed). party_of arrivals bits ++ more in
      (λ i. with_bits arrivals (place + 1) (less i) n ++ with_bits arrivals (place + 1) (suc some) bits)
      ∙ ap (λ l. l ++ with_bits arrivals (place + 1) (suc some) bits) (with_it n h e (parties some rest))
      ∙ sym (map-append onto (map (λ more. (place, a) ∷ more) (parties some rest)) (parties (suc some) rest))
      ∙ ap (map onto) (sym (some_fail (place, a) rest may some) ∙ ap (parties (suc some)) (sym here))

-- what was added in two steps
pub joined : {X : Type 0} (old first more whole mid all : List X) → all ≡ mid → mid ≡ old ++ first → first ++ more ≡ whole → all ++ more ≡ old ++ whole
joined old first more whole mid all same e h = ap (λ l. l ++ more) (same ∙ e) ∙ append_assoc old first more ∙ ap (λ l. old ++ l) h

-- the same of the arrivals of the code
pub may_fail_there : (arrivals : List code.Arrival) (place : ℕ) (d : code.Arrival) (b : Bool) → place < length arrivals → (get_or arrivals place d).may_fail ≡ b → (get_or (map arrival_data arrivals) place (arrival_data d)).may_fail ≡ b
may_fail_there arrivals place d b lt e = ap (λ (x : Arrival). x.may_fail) (get_or-map arrival_data arrivals place d (arrival_data d) lt) ∙ e

-- ## all parties

pub with_no_bits : (arrivals : List Arrival) (some : ℕ) → with_bits arrivals 0 some 0 ≡ parties some (placed arrivals 0)
with_no_bits arrivals some =
    ap (λ (p : List Placed). map (λ more. p ++ more) (parties some (placed arrivals 0))) (no_party arrivals) ∙ map-id (parties some (placed arrivals 0))

abbrev pub parties_below : List Arrival → ℕ → List (List Placed)
parties_below arrivals n = flat_map (λ some. parties some (placed arrivals 0)) (range_with_len 0 n)

pub parties_more : (arrivals : List Arrival) (n : ℕ) (old new : List ℕ) → map (party_of arrivals) old ≡ parties_below arrivals n → map (party_of arrivals) new ≡ map (party_of arrivals) old ++ with_bits arrivals 0 n 0 →
    map (party_of arrivals) new ≡ parties_below arrivals (n + 1)
parties_more arrivals n old new h e =
    let by = λ (some : ℕ). parties some (placed arrivals 0) in
    let last : 0 + n ≡ n = omega arith in
    let range : range_with_len 0 (n + 1) ≡ range_with_len 0 n ++ n ∷ [] = cut 0 n 1 ∙ ap (λ k. range_with_len 0 n ++ k ∷ []) last in
    let whole : parties_below arrivals (n + 1) ≡ parties_below arrivals n ++ by n =
    ap (flat_map by) range ∙ flat_map-append by (range_with_len 0 n) (n ∷ []) ∙ ap (λ l. parties_below arrivals n ++ l) (append-nil (by n)) in
    e ∙ (λ i. h i ++ with_no_bits arrivals n i) ∙ sym whole

-- at most one of each set
few_subsets : {X : Type 0} (g : List Placed → List X) → ((qs : List Placed) → length (g qs) ≤ 1) → (ps : List Placed) → length (subsets g ps) ≤ 2 ^ length ps
unfolding subsets
few_subsets g one [] = one []
few_subsets g one (p ∷ rest) =
    let more : 2 ^ suc (length rest) ≡ 2 ^ length rest * 2 = let e : suc (length rest) ≡ length rest + 1 = omega arith in ap (λ n. 2 ^ n) e ∙ twice (length rest) in
    let skip = skipped p.1.may_fail (few_subsets g one rest) in
    let come = few_subsets (λ ps. g (p ∷ ps)) (λ qs. one (p ∷ qs)) rest in
    let all = length-append (cond p.1.may_fail (subsets g rest) []) (subsets (λ ps. g (p ∷ ps)) rest) in
    omega (arith, more, skip, come, all)
  where
    skipped : (b : Bool) → length (subsets g rest) ≤ 2 ^ length rest → length (cond b (subsets g rest) []) ≤ 2 ^ length rest
    skipped true h = h
    skipped false h = omega arith

few_parties : (arrivals : List Arrival) → length (parties_of arrivals) ≤ 2 ^ length arrivals
unfolding sized
few_parties arrivals =
    let ps = placed arrivals 0 in
    let n = length arrivals + 1 in
    let one = λ (qs : List Placed). qs ∷ [] in
    let long = length_placed arrivals 0 in
    let each : (qss : List (List Placed)) → flat_map one qss ≡ qss = λ qss. flat_map_single (λ (qs : List Placed). qs) qss ∙ map-id qss in
    let same : sized one n ps ≡ parties_of arrivals = λ i. flat_map (λ some. each (parties some ps) i) (range_with_len 0 n) in
    let sizes : length (sized one n ps) ≡ length (subsets one ps) = sym (length_permutation _ _ (by_size ps n (omega (arith, long)) (List Placed) one)) in
    let few = few_subsets one (λ qs. omega arith) ps in
    let count : length (parties_of arrivals) ≡ length (subsets one ps) = ap length (sym same) ∙ sizes in
    let most : 2 ^ length ps ≡ 2 ^ length arrivals = ap (λ k. 2 ^ k) long in
    omega (arith, few, count, most)

pub at_most : (arrivals : List Arrival) (list : List ℕ) → length arrivals ≤ 8 → map (party_of arrivals) list ≡ parties_of arrivals → length list ≤ 256
at_most arrivals list le e =
    let few = few_parties arrivals in
    let most : 2 ^ length arrivals ≤ 2 ^ 8 = pow_mono {i = length arrivals} {j = 8} le in
    let long = length-map list (party_of arrivals) in
    let same = ap length e in
    omega (arith, few, most, long, same)

-- ## the courses, party by party

flat_twice : {X Y Z : Type 0} (f : Y → List Z) (h : X → List Y) (xs : List X) → flat_map (λ x. flat_map f (h x)) xs ≡ flat_map f (flat_map h xs)
flat_twice f h [] = refl
flat_twice f h (x ∷ xs) = ap (λ l. flat_map f (h x) ++ l) (flat_twice f h xs) ∙ sym (flat_map-append f (h x) (flat_map h xs))

pub courses_by_parties : (arrivals : List Arrival) → courses_of arrivals ≡ flat_map (courses (end_of arrivals) 0) (parties_of arrivals)
courses_by_parties arrivals = flat_twice (courses (end_of arrivals) 0) (λ some. parties some (placed arrivals 0)) (range_with_len 0 (length arrivals + 1))

-- ## the arrivals of a party

ascends_still : (test : Placed → Bool) (ps : List Placed) (low : ℕ) → Ascends low ps → Ascends low (filter test ps)
unfolding Ascends
ascends_still test [] low h = h
ascends_still test (p ∷ ps) low h =
    kept (test p) (ascends_still test ps (p.0 + 1) h.1)
  where
    kept : (b : Bool) → Ascends (p.0 + 1) (filter test ps) → Ascends low (cond b (p ∷ filter test ps) (filter test ps))
    kept true more = (h.0, more)
    kept false more = lower low (p.0 + 1) (filter test ps) (omega (arith, h.0)) more

pub party_ascends : (arrivals : List Arrival) (bits : ℕ) → Ascends 0 (party_of arrivals bits)
party_ascends arrivals bits = ascends_still (has bits) (placed arrivals 0) 0 (placed_ascend arrivals 0)

at_seam : (done more : List Arrival) (a : Arrival) → slice_get (done ++ a ∷ more) (length done) ≡ Some a
at_seam [] more a = refl
at_seam (x ∷ done) more a = at_seam done more a

abbrev IsAmong : List Arrival → Placed → Type 0
IsAmong arrivals p = slice_get arrivals p.0 ≡ Some p.1

placed_among : (arrivals done rest : List Arrival) (place : ℕ) → arrivals ≡ done ++ rest → place ≡ length done → All (IsAmong arrivals) (placed rest place)
placed_among arrivals done [] place e at = All-nil (IsAmong arrivals)
placed_among arrivals done (a ∷ rest) place e at =
    let first : slice_get arrivals place ≡ Some a = (λ i. slice_get (e i) (at i)) ∙ at_seam done rest a in
    let more : arrivals ≡ (done ++ a ∷ []) ++ rest = e ∙ sym (append_assoc done (a ∷ []) rest) in
    let next : place + 1 ≡ length (done ++ a ∷ []) = omega (arith, at, length-append done (a ∷ [])) in
    All-cons (IsAmong arrivals) (place, a) (placed rest (place + 1)) first (placed_among arrivals (done ++ a ∷ []) rest (place + 1) more next)

pub party_among : (arrivals : List Arrival) (bits : ℕ) → All (λ p. slice_get arrivals p.0 ≡ Some p.1) (party_of arrivals bits)
party_among arrivals bits = All-filter (has bits) (IsAmong arrivals) (placed arrivals 0) (placed_among arrivals [] arrivals 0 refl refl)
