-- The most events of one turn.
use Rattle.std.proofs.Common.{◌≡◌, ◌∙◌, ℕ, zero, suc, ◌+◌, ◌<◌, ◌≤◌, max, Bool, true, false, cond, ◌==◌, nat_cmp, is_lt, List, [], ◌∷◌, ◌++◌, length, map, get_or, take, fold, count_by, sum_by, refl, sym, ap, subst, inl, inr, ◌⊎◌, Equal, Greater, le_refl, le_trans, le_antisymm, arith}
use Rattle.std.specs.Prelude.{slice_index}
use Rattle.std.specs.List.{All}
use Rattle.std.specs.List.Sorted.{IsNonDecreasingBy}
use Rattle.std.specs.Ordering.{ord_max}
use Rattle.std.proofs.Math.Nat.{le-max_left, le-max_right, max-le, max-eq_left, max-eq_right}
use Rattle.std.proofs.lemmas.Bool.{cases_eq, cases_lt, eq-eqb, le-ltb, lt-ltb, ne_eqb}
use Rattle.std.proofs.lemmas.List.{get_or-map, length-map, length-take, take_all, take_more}
use Rattle.std.proofs.lemmas.List.Elements.{All-get_or, All-more, All-nil, All-weaker}
use Rattle.std.proofs.lemmas.List.Folds.{fold-map}
use Rattle.std.proofs.lemmas.List.Sums.{count_by-le-length, fold_more, sum_by-cons, sum_by-take-le, sum_by_more, sum_by_push}
use Rattle.run_script.specs.declared.events.Event.TheVariants.{Tick}
use Rattle.run_script.specs.Scripts.{Listed}
use Rattle.run_question.specs.Questions.{Offer, offer_data}
use Rattle.run_question.specs.declared.question.Offer.{Offer as OfferCode}
use Rattle.explore_core.specs.Refusals.{most_of_turn, times_in, turns_listed}

-- ## the greater of two

no_less : (b : Bool) → is_lt (cond b Equal Greater) ≡ false
no_less true = refl
no_less false = refl

pub max_is : (n m : ℕ) → ord_max nat_cmp n m ≡ max n m
max_is n m =
    elim (cases_lt m n) [
      | inl lt ↦ rw (lt-ltb m n lt) (sym (max-eq_left (omega (arith, lt))))
      | inr le ↦ rw (le-ltb m n le) (ap (λ (b : Bool). cond b n m) (no_less (m == n)) ∙ sym (max-eq_right le))
    ]

-- ## the greatest of some

abbrev pub best : {X : Type 0} → (X → ℕ) → ℕ → List X → ℕ
best h from xs = fold (λ most x. max most (h x)) from xs

best_from : {X : Type 0} (h : X → ℕ) (from : ℕ) (xs : List X) → from ≤ best h from xs
best_from h from [] = le_refl from
best_from h from (x ∷ xs) = le_trans (le-max_left from (h x)) (best_from h (max from (h x)) xs)

within_best : {X : Type 0} (h : X → ℕ) (from : ℕ) (xs : List X) (k : ℕ) (d : X) → k < length xs → h (get_or xs k d) ≤ best h from xs
within_best h from [] k d lt = absurd (omega (arith, lt))
within_best h from (x ∷ xs) zero d lt = le_trans (le-max_right from (h x)) (best_from h (max from (h x)) xs)
within_best h from (x ∷ xs) (suc k) d lt = within_best h (max from (h x)) xs k d (omega (arith, lt))

best_least : {X : Type 0} (h : X → ℕ) (from n : ℕ) (xs : List X) → from ≤ n → ((x : X) → h x ≤ n) → best h from xs ≤ n
best_least h from n [] low all = low
best_least h from n (x ∷ xs) low all = best_least h (max from (h x)) n xs (max-le low (all x)) all

-- ## how often a turn is there

there_or_not : (turn : ℕ) (turns : List ℕ) → (times_in turns turn ≡ 0) ⊎ ((k : ℕ) × (k < length turns) × ((d : ℕ) → get_or turns k d ≡ turn))
there_or_not turn [] = inl refl
there_or_not turn (t ∷ turns) =
    let cut = sum_by-cons (λ (n : ℕ). cond (n == turn) 1 0) t turns in
    elim (cases_eq t turn) [
      | inl is ↦ inr (0, omega (arith), λ d. is)
      | inr other ↦ elim (there_or_not turn turns) [
        | inl none ↦ inl (omega (arith, cut, ap {B = ℕ} (λ (b : Bool). cond b 1 0) (ne_eqb t turn other), none))
        | inr (k, lt, is) ↦ inr (suc k, omega (arith, lt), is)
      ]
    ]

pub times_within : (turns : List ℕ) (turn : ℕ) → times_in turns turn ≤ most_of_turn turns
times_within turns turn =
    elim (there_or_not turn turns) [
      | inl none ↦ subst (λ n. n ≤ most_of_turn turns) (sym none) (omega arith)
      | inr (k, lt, is) ↦ subst (λ t. times_in turns t ≤ most_of_turn turns) (is 0) (within_best (times_in turns) 0 turns k 0 lt)
    ]

pub most_least : (turns : List ℕ) (n : ℕ) → ((turn : ℕ) → times_in turns turn ≤ n) → most_of_turn turns ≤ n
most_least turns n all = best_least (times_in turns) 0 n turns (omega arith) all

pub most_within : (turns : List ℕ) → most_of_turn turns ≤ length turns
most_within turns = most_least turns (length turns) (λ turn. count_by-le-length (λ (t : ℕ). t == turn) turns)

-- ## with one turn more

with_one : (turns : List ℕ) (t turn : ℕ) → times_in (turns ++ t ∷ []) turn ≡ times_in turns turn + cond (t == turn) 1 0
with_one turns t turn = sum_by_push (λ (n : ℕ). cond (n == turn) 1 0) turns t

with_itself : (turns : List ℕ) (t : ℕ) → times_in (turns ++ t ∷ []) t ≡ times_in turns t + 1
with_itself turns t = with_one turns t t ∙ ap (λ (b : Bool). times_in turns t + cond b 1 0) (eq-eqb t t refl)

below_more : (turns : List ℕ) (t turn : ℕ) → times_in (turns ++ t ∷ []) turn ≤ max (most_of_turn turns) (times_in turns t + 1)
below_more turns t turn =
    elim (cases_eq t turn) [
      | inl is ↦ subst (λ u. times_in (turns ++ t ∷ []) u ≤ max (most_of_turn turns) (times_in turns t + 1)) is
          (subst (λ n. n ≤ max (most_of_turn turns) (times_in turns t + 1)) (sym (with_itself turns t)) (le-max_right (most_of_turn turns) (times_in turns t + 1)))
      | inr other ↦
          let same : times_in (turns ++ t ∷ []) turn ≡ times_in turns turn + 0 = with_one turns t turn ∙ ap (λ (b : Bool). times_in turns turn + cond b 1 0) (ne_eqb t turn other) in
          le_trans (omega (arith, same, times_within turns turn)) (le-max_left (most_of_turn turns) (times_in turns t + 1))
    ]

pub most_more : (turns : List ℕ) (t : ℕ) → most_of_turn (turns ++ t ∷ []) ≡ max (most_of_turn turns) (times_in turns t + 1)
most_more turns t =
    let all = turns ++ t ∷ [] in
    le_antisymm (most_least all (max (most_of_turn turns) (times_in turns t + 1)) (below_more turns t))
    (max-le (most_least turns (most_of_turn all) (λ turn. omega (arith, with_one turns t turn, times_within all turn))) (omega (arith, with_itself turns t, times_within all t)))

-- a turn above all others is new
pub none_yet : (turns : List ℕ) (last t : ℕ) → All (λ n. n ≤ last) turns → last < t → times_in turns t ≡ 0
none_yet turns last t all lt =
    elim (there_or_not t turns) [
      | inl none ↦ none
      | inr (k, in', is) ↦ absurd (omega (arith, All-get_or (λ n. n ≤ last) turns k 0 in' all, is 0, lt))
    ]

-- ## turns that ascend, one by one

-- after some of them: the last one, how often it is there, and the most of one turn
pub record IsCounted (turns : List ℕ) (done most last same : ℕ) : Type 0 where
  pub most_of : most ≡ most_of_turn (take done turns)
  pub same_of : same ≡ times_in (take done turns) last
  pub behind : All (λ t. t ≤ last) (take done turns)
  pub ahead : (k : ℕ) → done ≤ k → k < length turns → last ≤ slice_index turns k

pub none_counted : (turns : List ℕ) → IsCounted turns 0 0 0 0
none_counted turns = record { most_of = refl; same_of = refl; behind = All-nil (λ t. t ≤ 0); ahead = λ k low high. omega arith }

one_counted : (turns : List ℕ) (done most last same next : ℕ) → IsCounted turns done most last same → done < length turns → IsNonDecreasingBy (λ t. t) turns →
    next ≡ times_in (take done turns) (slice_index turns done) + 1 → IsCounted turns (done + 1) (max most next) (slice_index turns done) next
one_counted turns done most last same next c lt up is =
    let t = slice_index turns done in
    let cut : take (done + 1) turns ≡ take done turns ++ t ∷ [] = take_more turns done 0 lt in
    record {
      most_of = ap (λ (n : ℕ). max n next) c.most_of ∙ ap (max (most_of_turn (take done turns))) is ∙ sym (most_more (take done turns) t) ∙ ap most_of_turn (sym cut);
      same_of = is ∙ sym (with_itself (take done turns) t) ∙ ap (λ (l : List ℕ). times_in l t) (sym cut);
      behind = All-more (λ n. n ≤ t) turns done 0 lt (All-weaker (λ n. n ≤ last) (λ n. n ≤ t) (λ n le. le_trans le (c.ahead done (le_refl done) lt)) (take done turns) c.behind) (le_refl t);
      ahead = λ k low high. up done k 0 (omega (arith, low)) high;
    }

-- the next one is the last one again
pub counted_again : (turns : List ℕ) (done most last same : ℕ) → IsCounted turns done most last same → done < length turns → IsNonDecreasingBy (λ t. t) turns →
    slice_index turns done ≡ last → IsCounted turns (done + 1) (max most (same + 1)) (slice_index turns done) (same + 1)
counted_again turns done most last same c lt up is =
    one_counted turns done most last same (same + 1) c lt up (ap (λ (n : ℕ). n + 1) (c.same_of ∙ ap (times_in (take done turns)) (sym is)))

-- or another one
pub counted_first : (turns : List ℕ) (done most last same : ℕ) → IsCounted turns done most last same → done < length turns → IsNonDecreasingBy (λ t. t) turns →
    (slice_index turns done ≡ last → ⊥) → IsCounted turns (done + 1) (max most 1) (slice_index turns done) 1
counted_first turns done most last same c lt up other =
    let t = slice_index turns done in
    let more : last < t = omega (arith, c.ahead done (le_refl done) lt, other) in
    one_counted turns done most last same 1 c lt up (sym (ap (λ (n : ℕ). n + 1) (none_yet (take done turns) last t c.behind more)))

-- the next one, whichever it is
pub counted_on : (turns : List ℕ) (done most last same turn next more : ℕ) → IsCounted turns done most last same → done < length turns → IsNonDecreasingBy (λ t. t) turns → turn ≡ slice_index turns done →
    more ≡ ord_max nat_cmp most next → ((turn ≡ last) × (next ≡ same + 1)) ⊎ ((turn ≡ last → ⊥) × (next ≡ 1)) → IsCounted turns (done + 1) more turn next
counted_on turns done most last same turn next more c lt up at greater (inl (is, one)) =
    rw (greater ∙ max_is most next, at, one) (counted_again turns done most last same c lt up (sym at ∙ is))
counted_on turns done most last same turn next more c lt up at greater (inr (other, one)) =
    rw (greater ∙ max_is most next, at, one) (counted_first turns done most last same c lt up (λ e. other (at ∙ e)))

pub same_within : (turns : List ℕ) (done most last same : ℕ) → IsCounted turns done most last same → same ≤ done
same_within turns done most last same c =
    omega (arith, c.same_of, count_by-le-length (λ (t : ℕ). t == last) (take done turns), length-take done turns)

pub all_counted : (turns : List ℕ) (done most last same : ℕ) → IsCounted turns done most last same → length turns ≤ done → most ≡ most_of_turn turns
all_counted turns done most last same c le = c.most_of ∙ ap most_of_turn (take_all done turns le)

-- the turns of a list of events ascend as the events do
pub turns_ascend : (events : List Listed) → IsNonDecreasingBy (λ (d : Listed). d.0) events → IsNonDecreasingBy (λ t. t) (turns_listed events)
turns_ascend events up i j d le lt =
    let first : Listed = (0, Tick) in
    let in' : j < length events = omega (arith, lt, length-map events (λ (e : Listed). e.0)) in
    rw (get_or-map (λ (e : Listed). e.0) events i first d (omega (arith, le, in')), get_or-map (λ (e : Listed). e.0) events j first d in') (up i j first le in')

-- ## the offers of an arrival, one by one

abbrev pub turns_of : List OfferCode → List ℕ
turns_of offers = map (λ o. o.turn) (map offer_data offers)

times_offered : (offers : List OfferCode) (turn : ℕ) → times_in (turns_of offers) turn ≡ count_by (λ (o : OfferCode). o.turn == turn) offers
times_offered offers turn =
    fold-map (λ (n : ℕ) (t : ℕ). n + cond (t == turn) 1 0) (λ (o : Offer). o.turn) 0 (map offer_data offers)
    ∙ fold-map (λ (n : ℕ) (o : Offer). n + cond (o.turn == turn) 1 0) offer_data 0 offers

mapped : {X Y : Type 0} (f : X → Y) (xs : List X) (i : ℕ) (x : X) → i < length xs → x ≡ get_or xs i x → get_or (map f xs) i (f x) ≡ f x
mapped f xs i x lt is = get_or-map f xs i x (f x) lt ∙ ap f (sym is)

pub best_on : (offers : List OfferCode) (i most count next : ℕ) (o : OfferCode) → i < length offers → o ≡ get_or offers i o → most ≡ best (times_in (turns_of offers)) 0 (take i (turns_of offers)) →
    count ≡ count_by (λ (x : OfferCode). x.turn == o.turn) offers → next ≡ ord_max nat_cmp most count → next ≡ best (times_in (turns_of offers)) 0 (take (i + 1) (turns_of offers))
best_on offers i most count next o lt is done of greater =
    let turns = turns_of offers in
    let turn : get_or turns i o.turn ≡ o.turn =
    get_or-map (λ (x : Offer). x.turn) (map offer_data offers) i (offer_data o) o.turn (omega (arith, lt, length-map offers offer_data)) ∙ ap (λ (x : Offer). x.turn) (mapped offer_data offers i o lt is) in
    let long : length turns ≡ length offers = length-map (map offer_data offers) (λ (x : Offer). x.turn) ∙ length-map offers offer_data in
    let cut = fold_more (λ (m : ℕ) (t : ℕ). max m (times_in turns t)) 0 turns i o.turn (omega (arith, lt, long)) in
    greater ∙ max_is most count
    ∙ ap (λ (n : ℕ). max n count) done
    ∙ ap (max (best (times_in turns) 0 (take i turns))) (of ∙ sym (times_offered offers o.turn) ∙ ap (times_in turns) (sym turn))
    ∙ sym cut

pub best_of_all : (offers : List OfferCode) (i most : ℕ) → most ≡ best (times_in (turns_of offers)) 0 (take i (turns_of offers)) → length offers ≤ i → most ≡ most_of_turn (turns_of offers)
best_of_all offers i most done le =
    let long : length (turns_of offers) ≡ length offers = length-map (map offer_data offers) (λ (x : Offer). x.turn) ∙ length-map offers offer_data in
    done ∙ ap (best (times_in (turns_of offers)) 0) (take_all i (turns_of offers) (omega (arith, le, long)))

-- ## a sum over all arrivals, one by one

pub sum_on : {X Y : Type 0} (f : X → Y) (g : Y → ℕ) (xs : List X) (i : ℕ) (x : X) → i < length xs → x ≡ get_or xs i x → sum_by g (take (i + 1) (map f xs)) ≡ sum_by g (take i (map f xs)) + g (f x)
sum_on f g xs i x lt is =
    sum_by_more g (map f xs) i (f x) (omega (arith, lt, length-map xs f)) ∙ ap (λ y. sum_by g (take i (map f xs)) + g y) (mapped f xs i x lt is)

pub sum_fits : {X Y : Type 0} (f : X → Y) (g : Y → ℕ) (xs : List X) (i : ℕ) (x : X) → i < length xs → x ≡ get_or xs i x → sum_by g (take i (map f xs)) + g (f x) ≤ sum_by g (map f xs)
sum_fits f g xs i x lt is = omega (arith, sum_on f g xs i x lt is, sum_by-take-le g (map f xs) (i + 1))

pub sum_of_all : {X Y : Type 0} (f : X → Y) (g : Y → ℕ) (xs : List X) (i : ℕ) → length xs ≤ i → sum_by g (take i (map f xs)) ≡ sum_by g (map f xs)
sum_of_all f g xs i le = ap (sum_by g) (take_all i (map f xs) (omega (arith, le, length-map xs f)))
