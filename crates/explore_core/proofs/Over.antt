-- Two schedules that are one from a turn on have one run from there.
use Rattle.std.proofs.Common.{◌≡◌, ◌∙◌, ℕ, ◌+◌, ◌<◌, ◌≤◌, ◌⊎◌, inl, inr, Bool, false, List, [], ◌∷◌, ◌++◌, map, Option, Some, None, refl, sym, ap, arith}
use Rattle.std.specs.Prelude.{◌==◌, ◌||◌, nat_le, filter, is_some}
use Rattle.std.specs.List.{All, list_any}
use Rattle.std.proofs.lemmas.Bool.{lt-leb, ne_eqb}
use Rattle.std.proofs.lemmas.List.Elements.{All-head, All-tail, filter-append}
use Rattle.std.proofs.lemmas.List.Folds.{list_any-append}
use Rattle.run_script.specs.Scripts.{Listed, is_of, ticks_of}
use Rattle.board_model.specs.Laid.{postponed}
use Rattle.board_model.specs.SameScripts.{AgreeFor}
use Rattle.board_model.specs.Script.{Scenario}
use Rattle.explore_core.specs.Over.{AreSameFrom, IsOver}
use Rattle.explore_core.specs.Schedules.{Coming, Schedule, events_of_schedule, events_of_way, scheduled}

abbrev from_turn : ℕ → Listed → Bool
from_turn turn d = nat_le turn d.0

-- ## of what is over

none_of : (at turn time : ℕ) (events : List Listed) → turn ≤ at → All (λ (d : Listed). time + d.0 < turn) events → filter (is_of at) (postponed time events) ≡ []
none_of at turn time [] le all = refl
none_of at turn time (d ∷ ds) le all =
    let here = All-head (λ (e : Listed). time + e.0 < turn) d ds all in
    let other : (time + d.0 == at) ≡ false = ne_eqb (time + d.0) at (λ e. omega (arith, e, le, here)) in
    rw other (none_of at turn time ds le (All-tail (λ (e : Listed). time + e.0 < turn) d ds all))

none_from : (at turn time : ℕ) (events : List Listed) → turn ≤ at → All (λ (d : Listed). time + d.0 < turn) events → list_any (from_turn at) (postponed time events) ≡ false
none_from at turn time [] le all = refl
none_from at turn time (d ∷ ds) le all =
    let here = All-head (λ (e : Listed). time + e.0 < turn) d ds all in
    let before : nat_le at (time + d.0) ≡ false = lt-leb at (time + d.0) (omega (arith, le, here)) in
    rw before (none_from at turn time ds le (All-tail (λ (e : Listed). time + e.0 < turn) d ds all))

nothing_of : (at turn : ℕ) (way : Option Coming) → turn ≤ at → IsOver turn way → filter (is_of at) (events_of_way way) ≡ []
nothing_of at turn None le h = refl
nothing_of at turn (Some c) le h = none_of at turn c.turn c.events le h

nothing_from : (at turn : ℕ) (way : Option Coming) → turn ≤ at → IsOver turn way → list_any (from_turn at) (events_of_way way) ≡ false
nothing_from at turn None le h = refl
nothing_from at turn (Some c) le h = none_from at turn c.turn c.events le h

-- ## of two schedules

abbrev SameFrom : ℕ → Option Coming → Option Coming → Type 0
SameFrom turn v w = (v ≡ w) ⊎ (IsOver turn v × (w ≡ None))

one_happens : (at turn : ℕ) (v w : Option Coming) → turn ≤ at → SameFrom turn v w → filter (is_of at) (events_of_way v) ≡ filter (is_of at) (events_of_way w)
one_happens at turn v w le (inl e) = ap (λ way. filter (is_of at) (events_of_way way)) e
one_happens at turn v w le (inr h) = nothing_of at turn v le h.0 ∙ sym (ap (λ way. filter (is_of at) (events_of_way way)) h.1)

one_lasts : (at turn : ℕ) (v w : Option Coming) → turn ≤ at → SameFrom turn v w → list_any (from_turn at) (events_of_way v) ≡ list_any (from_turn at) (events_of_way w)
one_lasts at turn v w le (inl e) = ap (λ way. list_any (from_turn at) (events_of_way way)) e
one_lasts at turn v w le (inr h) = nothing_from at turn v le h.0 ∙ sym (ap (λ way. list_any (from_turn at) (events_of_way way)) h.1)

all_happen : (at turn : ℕ) (one other : Schedule) → turn ≤ at → AreSameFrom turn one other → filter (is_of at) (events_of_schedule one) ≡ filter (is_of at) (events_of_schedule other)
all_happen at turn [] [] le h = refl
all_happen at turn [] (w ∷ ws) le h = absurd h
all_happen at turn (v ∷ vs) [] le h = absurd h
all_happen at turn (v ∷ vs) (w ∷ ws) le h =
    filter-append (is_of at) (events_of_way v) (events_of_schedule vs)
    ∙ (λ i. one_happens at turn v w le h.0 i ++ all_happen at turn vs ws le h.1 i)
    ∙ sym (filter-append (is_of at) (events_of_way w) (events_of_schedule ws))

all_last : (at turn : ℕ) (one other : Schedule) → turn ≤ at → AreSameFrom turn one other → list_any (from_turn at) (events_of_schedule one) ≡ list_any (from_turn at) (events_of_schedule other)
all_last at turn [] [] le h = refl
all_last at turn [] (w ∷ ws) le h = absurd h
all_last at turn (v ∷ vs) [] le h = absurd h
all_last at turn (v ∷ vs) (w ∷ ws) le h =
    list_any-append (from_turn at) (events_of_way v) (events_of_schedule vs)
    ∙ (λ i. one_lasts at turn v w le h.0 i || all_last at turn vs ws le h.1 i)
    ∙ sym (list_any-append (from_turn at) (events_of_way w) (events_of_schedule ws))

pub agree_from : (x : Scenario) (one other : Schedule) (turn from n : ℕ) → turn ≤ from → AreSameFrom turn one other → AgreeFor (scheduled x other).script (scheduled x one).script from n
agree_from x one other turn from n le h = record {
  events = λ at low high.
      let all = all_happen at turn one other (omega (arith, low, le)) h in
      let events = x.script.events in
      ap (λ (l : List Listed). ticks_of x.script.every at ++ map (λ (d : Listed). d.1) l)
      (filter-append (is_of at) events (events_of_schedule one) ∙ ap (λ (l : List Listed). filter (is_of at) events ++ l) all ∙ sym (filter-append (is_of at) events (events_of_schedule other)));
  last = λ at low high.
      let all = all_last at turn one other (omega (arith, low, le)) h in
      let events = x.script.events in
      ap (λ (b : Bool). is_some x.script.every || b)
      (list_any-append (from_turn at) events (events_of_schedule one) ∙ ap (λ (b : Bool). list_any (from_turn at) events || b) all ∙ sym (list_any-append (from_turn at) events (events_of_schedule other)));
}
