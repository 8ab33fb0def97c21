-- What has come is over, and what is written down.
use Rattle.std.proofs.Common.{◌≡◌, ◌∙◌, ℕ, zero, suc, ◌+◌, ◌/◌, ◌%◌, ◌<◌, Bool, true, false, List, [], ◌∷◌, ◌++◌, length, map, get_or, Option, Some, None, refl, sym, ap, subst, arith}
use Rattle.std.specs.Prelude.{◌==◌, ◌&&◌, cond, filter, nat_lt, not, option_map, slice_get, slice_index_or}
use Rattle.std.specs.List.{All}
use Rattle.std.specs.Option.{option_or}
use Rattle.std.proofs.lemmas.Bool.{eq-eqb, ne_eqb}
use Rattle.std.proofs.lemmas.List.{get_or-map}
use Rattle.std.proofs.lemmas.List.Elements.{All-cons, All-head, All-nil, All-tail}
use Rattle.std.proofs.lemmas.Option.{none-some, slice_get-get_or, slice_get-map}
use Rattle.run_script.specs.declared.events.Event.TheVariants.{Tick}
use Rattle.run_script.specs.Scripts.{Listed}
use Rattle.run_question.specs.declared.question.Arrival as code
use Rattle.run_question.specs.Questions.{arrival_data}
use Rattle.run_question.specs.Reading.{choice_count}
use Rattle.explore_core.specs.declared.position.Position.{Position}
use Rattle.explore_core.specs.declared.watch.Watched.{Watched}
use Rattle.explore_core.specs.declared.ways.Way.{Way}
use Rattle.explore_core.specs.Answers.{Asking}
use Rattle.explore_core.specs.Exploring.{IsOverBefore, at_place, pending}
use Rattle.explore_core.specs.Over.{IsOver}
use Rattle.explore_core.specs.Schedules.{Arrival, Coming, Offer}
use Rattle.explore_core.specs.Searching.{AreOverAt, HasCome, fork_at, party_before, party_from}
use Rattle.explore_core.specs.Walked.{Course, Placed, placed}
use Rattle.explore_core.specs.Watching.{Judged, is_open, judged}
use Rattle.explore_core.specs.Ways.{chosen}
use Rattle.explore_core.proofs.Onward.{find_append}

-- the arrival at a place, as it is said
pub arrival_there : (arrivals : List code.Arrival) (place : ℕ) (a : code.Arrival) → place < length arrivals → a ≡ get_or arrivals place a → slice_get (map arrival_data arrivals) place ≡ Some (arrival_data a)
arrival_there arrivals place a lt is = slice_get-map arrival_data arrivals place ∙ ap (option_map arrival_data) (slice_get-get_or arrivals place a lt ∙ ap (λ (x : code.Arrival). Some x) (sym is))

some_same : {A : Type 0} (x y : A) (o : Option A) → o ≡ Some x → o ≡ Some y → x ≡ y
some_same x y o h k = cc

pub over_here : (arrivals : List code.Arrival) (place : ℕ) (x : code.Arrival) (a : Arrival) (way : Way) (turn : ℕ) → place < length arrivals → x ≡ get_or arrivals place x → slice_get (map arrival_data arrivals) place ≡ Some a →
    All (λ (o : Offer). way.turn + o.turn < turn) (arrival_data x).offers → All (λ (o : Offer). way.turn + o.turn < turn) a.offers
over_here arrivals place x a way turn lt is there over =
    subst (λ (b : Arrival). All (λ (o : Offer). way.turn + o.turn < turn) b.offers) (some_same (arrival_data x) a (slice_get (map arrival_data arrivals) place) (arrival_there arrivals place x lt is) there) over

-- what is found of the property at a place
pub written_at : (ws : List Watched) (place : ℕ) (d : Watched) (w : Judged) (o p r : Option (List (Option Way))) (ways : List (Option Way)) → place < length ws → r ≡ option_or o (cond (is_open (get_or ws place d).verdict) None (Some ways)) → o ≡ p →
    r ≡ option_or p (cond (is_open (get_or (map judged ws) place w).1) None (Some ways))
written_at ws place d w o p r ways lt is same =
    is ∙ ap (λ (q : Option (List (Option Way))). option_or q (cond (is_open (get_or ws place d).verdict) None (Some ways))) same
    ∙ ap (λ (j : Judged). option_or p (cond (is_open j.1) None (Some ways))) (sym (get_or-map judged ws place d w lt))

-- ## which are still to come

neither : (b t : Bool) → (b && t) ≡ false → (b && not t) ≡ false → b ≡ false
neither false t e f = refl
neither true true e f = e
neither true false e f = f

-- the arrival at a place is not among those that pass a test
not_among : (test : Placed → Bool) (arrivals : List Arrival) (from k place : ℕ) (a : Arrival) → place ≡ from + k → slice_get arrivals k ≡ Some a → at_place place (filter test (placed arrivals from)) ≡ None → test (place, a) ≡ false
not_among test [] from k place a at there none = absurd (none-some a there)
not_among test (x ∷ xs) from zero place a at there none =
    let same : x ≡ a = cc in
    let here : from ≡ place = omega (arith, at) in
    subst (λ (p : Placed). test p ≡ false) (λ i. (here i, same i)) (go (test (from, x)) refl none)
  where
    go : (b : Bool) → test (from, x) ≡ b → at_place place (cond b ((from, x) ∷ filter test (placed xs (from + 1))) (filter test (placed xs (from + 1)))) ≡ None → b ≡ false
    go false is e = refl
    go true is e =
        let found : (from == place) ≡ true = eq-eqb from place (omega (arith, at)) in
        absurd (none-some (from, x) (sym e ∙ ap (λ (b : Bool). cond b (Some (from, x)) (at_place place (filter test (placed xs (from + 1))))) found))
not_among test (x ∷ xs) from (suc k) place a at there none =
    not_among test xs (from + 1) k place a (omega (arith, at)) there (go (test (from, x)) none)
  where
    go : (b : Bool) → at_place place (cond b ((from, x) ∷ filter test (placed xs (from + 1))) (filter test (placed xs (from + 1)))) ≡ None → at_place place (filter test (placed xs (from + 1))) ≡ None
    go false e = e
    go true e =
        let other : (from == place) ≡ false = ne_eqb from place (λ h. omega (arith, h, at)) in
        sym (ap (λ (b : Bool). cond b (Some (from, x)) (at_place place (filter test (placed xs (from + 1))))) other) ∙ e

both_none : {A : Type 0} (o p : Option A) → option_or o p ≡ None → (o ≡ None) × (p ≡ None)
both_none None p e = (refl, e)
both_none (Some x) p e = absurd (none-some x (sym e))

not_pending : (arrivals : List Arrival) (party : List Bool) (next place : ℕ) (a : Arrival) → slice_get arrivals place ≡ Some a →
    at_place place (party_before arrivals party next ++ party_from arrivals party next) ≡ None → slice_index_or party place false ≡ false
not_pending arrivals party next place a there none =
    let before = λ (p : Placed). slice_index_or party p.0 false && nat_lt p.0 next in
    let behind = λ (p : Placed). slice_index_or party p.0 false && not (nat_lt p.0 next) in
    let parts = both_none (at_place place (party_before arrivals party next)) (at_place place (party_from arrivals party next))
    (sym (find_append (λ (p : Placed). p.0 == place) (party_before arrivals party next) (party_from arrivals party next)) ∙ none) in
    neither (slice_index_or party place false) (nat_lt place next)
    (not_among before arrivals 0 place place a (omega arith) there parts.0)
    (not_among behind arrivals 0 place place a (omega arith) there parts.1)

-- ## what has come

chosen_over : (from turn : ℕ) (offers : List Offer) (choice : ℕ) → All (λ (o : Offer). from + o.turn < turn) offers → All (λ (d : Listed). from + d.0 < turn) (chosen offers choice)
chosen_over from turn [] choice all = All-nil (λ (d : Listed). from + d.0 < turn)
chosen_over from turn (o ∷ rest) choice all =
    All-cons (λ (d : Listed). from + d.0 < turn) (o.turn, slice_index_or o.events (choice / choice_count rest % length o.events) Tick) (chosen rest choice)
    (All-head (λ (p : Offer). from + p.turn < turn) o rest all)
    (chosen_over from turn rest choice (All-tail (λ (p : Offer). from + p.turn < turn) o rest all))

pub over_before : (a : Asking) (at : Position) (came : Course) (turn : ℕ) (ways : List (Option Way)) → AreOverAt a.question.arrivals at.pending turn ways → All (HasCome a.question.arrivals ways) came →
    All (λ c. at_place c.0 (pending (fork_at a at came)) ≡ None) came → IsOverBefore turn came
over_before a at came turn ways over come apart = λ k d lt. one (get_or came k d) (come k d lt) (apart k d lt)
  where
    one : (c : ℕ × Coming) → HasCome a.question.arrivals ways c → at_place c.0 (pending (fork_at a at came)) ≡ None → IsOver turn (Some c.1)
    one c h none =
        let still = not_pending a.question.arrivals at.pending at.next c.0 h.arrival h.at none in
        subst (λ (v : Coming). IsOver turn (Some v)) (sym h.same) (chosen_over h.way.turn turn h.arrival.offers h.way.choice (over c.0 h.arrival h.way h.at still h.taken))
