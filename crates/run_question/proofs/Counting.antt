-- Products and sums of counts that are capped.
use Rattle.std.proofs.Common.{◌≡◌, ℕ, suc, zero, ◌+◌, ◌*◌, ◌<◌, ◌≤◌, Bool, true, false, nat_le, List, [], ◌∷◌, length, get_or, drop, map, refl, ap, ◌∙◌, sym, arith, mul_assoc, mul_comm}
use Rattle.std.proofs.lemmas.Bool.Decides.{nat_tests}
use Rattle.std.proofs.lemmas.List.{drop_all, drop_more}
use Rattle.run_question.specs.declared.question.Arrival as arrival_code
use Rattle.run_question.specs.declared.question.Offer as offer_code
use Rattle.run_question.specs.Drafts.{capped}
use Rattle.run_question.specs.Questions.{Arrival, Offer, arrival_data, offer_data}
use Rattle.run_question.specs.Reading.{choice_count, schedule_count, way_count}

few : (most n : ℕ) → nat_le n most ≡ true → capped most n ≡ n
few most n h = rw h refl

many : (most n : ℕ) → nat_le n most ≡ false → capped most n ≡ most + 1
many most n h = rw h refl

above : (most n : ℕ) → most < n → capped most n ≡ most + 1
above most n h =
    let e : nat_le n most ≡ false = grind (arith, nat_tests) in
    many most n e

times_by : (most a b : ℕ) (t : Bool) → nat_le a most ≡ t → capped most (capped most a * b) ≡ capped most (a * b)
times_by most a b true h = ap (λ x. capped most (x * b)) (few most a h)
times_by most a zero false h =
    let e : (most + 1) * 0 ≡ a * 0 = omega arith in
    ap (λ x. capped most (x * 0)) (many most a h) ∙ ap (capped most) e
times_by most a (suc b) false h =
    let big : most < a = grind (arith, nat_tests) in
    let one : most < (most + 1) * suc b = omega arith in
    let other : most < a * suc b = omega (arith, big) in
    ap (λ x. capped most (x * suc b)) (many most a h) ∙ above most ((most + 1) * suc b) one ∙ sym (above most (a * suc b) other)

capped_times : (most a b : ℕ) → capped most (capped most a * b) ≡ capped most (a * b)
capped_times most a b = times_by most a b (nat_le a most) refl

times_capped : (most a b : ℕ) → capped most (a * capped most b) ≡ capped most (a * b)
times_capped most a b = ap (capped most) (mul_comm a (capped most b)) ∙ capped_times most b a ∙ ap (capped most) (mul_comm b a)

plus_by : (most a k : ℕ) (t : Bool) → nat_le a most ≡ t → capped most (capped most a + k) ≡ capped most (a + k)
plus_by most a k true h = ap (λ x. capped most (x + k)) (few most a h)
plus_by most a k false h =
    let big : most < a = grind (arith, nat_tests) in
    let one : most < most + 1 + k = omega arith in
    let other : most < a + k = omega (arith, big) in
    ap (λ x. capped most (x + k)) (many most a h) ∙ above most (most + 1 + k) one ∙ sym (above most (a + k) other)

pub capped_plus : (most n a k r : ℕ) → n ≡ capped most a → r ≡ capped most (n + k) → r ≡ capped most (a + k)
capped_plus most n a k r e h = h ∙ ap (λ x. capped most (x + k)) e ∙ plus_by most a k (nat_le a most) refl

le_by : (most n : ℕ) (t : Bool) → nat_le n most ≡ t → nat_le (capped most n) most ≡ nat_le n most
le_by most n true h = ap (λ x. nat_le x most) (few most n h)
le_by most n false h =
    let e : nat_le (most + 1) most ≡ false = grind (arith, nat_tests) in
    ap (λ x. nat_le x most) (many most n h) ∙ e ∙ sym h

-- ---- a factor more

further : (most whole count next factor rest more : ℕ) → whole ≡ capped most (count * rest) → rest ≡ factor * more → next ≡ capped most (count * factor) → whole ≡ capped most (next * more)
further most whole count next factor rest more w e n =
    w ∙ ap (λ x. capped most (count * x)) e ∙ ap (capped most) (sym (mul_assoc count factor more))
    ∙ sym (capped_times most (count * factor) more) ∙ ap (λ x. capped most (x * more)) (sym n)

item : {X : Type 0} → (xs : List X) (i : ℕ) (x : X) → i < length xs → x ≡ get_or xs i x → drop i xs ≡ x ∷ drop (i + 1) xs
item xs i x lt e = drop_more xs i x lt ∙ ap (λ y. y ∷ drop (i + 1) xs) (sym e)

no_choice : choice_count [] ≡ 1
unfolding choice_count
no_choice = refl

one_choice : (o : Offer) (offers : List Offer) → choice_count (o ∷ offers) ≡ length o.events * choice_count offers
unfolding choice_count
one_choice o offers = refl

pub choices_more : (most whole count next i : ℕ) (offers : List offer_code.Offer) (o : offer_code.Offer) → i < length offers → o ≡ get_or offers i o →
    whole ≡ capped most (count * choice_count (map offer_data (drop i offers))) → next ≡ capped most (count * length o.events.items) → whole ≡ capped most (next * choice_count (map offer_data (drop (i + 1) offers)))
choices_more most whole count next i offers o lt e w n =
    further most whole count next (length o.events.items) (choice_count (map offer_data (drop i offers))) (choice_count (map offer_data (drop (i + 1) offers))) w
    (ap (λ (l : List offer_code.Offer). choice_count (map offer_data l)) (item offers i o lt e) ∙ one_choice (offer_data o) (map offer_data (drop (i + 1) offers))) n

pub choices_end : (most whole count last i : ℕ) (offers : List offer_code.Offer) → length offers ≤ i → whole ≡ capped most (count * choice_count (map offer_data (drop i offers))) → last ≡ capped most (count * 1) → last ≡ whole
choices_end most whole count last i offers le w h =
    h ∙ sym (w ∙ ap (λ (l : List offer_code.Offer). capped most (count * choice_count (map offer_data l))) (drop_all i offers le) ∙ ap (λ n. capped most (count * n)) no_choice)

no_schedule : schedule_count [] ≡ 1
unfolding schedule_count
no_schedule = refl

one_arrival : (a : Arrival) (arrivals : List Arrival) → schedule_count (a ∷ arrivals) ≡ way_count a * schedule_count arrivals
unfolding schedule_count
one_arrival a arrivals = refl

pub schedules_more : (most whole count next n i : ℕ) (arrivals : List arrival_code.Arrival) (a : arrival_code.Arrival) → i < length arrivals → a ≡ get_or arrivals i a →
    whole ≡ capped most (count * schedule_count (map arrival_data (drop i arrivals))) → n ≡ capped most (way_count (arrival_data a)) → next ≡ capped most (count * n) → whole ≡ capped most (next * schedule_count (map arrival_data (drop (i + 1) arrivals)))
schedules_more most whole count next n i arrivals a lt e w k h =
    further most whole count next (way_count (arrival_data a)) (schedule_count (map arrival_data (drop i arrivals))) (schedule_count (map arrival_data (drop (i + 1) arrivals))) w
    (ap (λ (l : List arrival_code.Arrival). schedule_count (map arrival_data l)) (item arrivals i a lt e) ∙ one_arrival (arrival_data a) (map arrival_data (drop (i + 1) arrivals)))
    (h ∙ ap (λ x. capped most (count * x)) k ∙ times_capped most count (way_count (arrival_data a)))

pub schedules_end : (most all count i : ℕ) (arrivals : List arrival_code.Arrival) → length arrivals ≤ i → capped most all ≡ capped most (count * schedule_count (map arrival_data (drop i arrivals))) → nat_le count most ≡ nat_le all most
schedules_end most all count i arrivals le w =
    let one : count * 1 ≡ count = omega arith in
    let same : capped most all ≡ capped most count = w ∙ ap (λ (l : List arrival_code.Arrival). capped most (count * schedule_count (map arrival_data l))) (drop_all i arrivals le) ∙ ap (λ n. capped most (count * n)) no_schedule ∙ ap (capped most) one in
    sym (le_by most count (nat_le count most) refl) ∙ ap (λ x. nat_le x most) (sym same) ∙ le_by most all (nat_le all most) refl
