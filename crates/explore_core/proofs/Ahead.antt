-- Two schedules that are one before a turn have one run up to there.
use Rattle.std.proofs.Common.{◌≡◌, ◌∙◌, ℕ, ◌+◌, ◌<◌, ◌≤◌, ◌⊎◌, inl, inr, Bool, true, false, List, [], ◌∷◌, ◌++◌, length, map, Option, Some, None, refl, sym, ap, arith}
use Rattle.std.specs.Prelude.{◌==◌, ◌||◌, nat_le, nat_lt, filter, is_some}
use Rattle.std.specs.List.{list_any}
use Rattle.std.proofs.lemmas.Bool.{and_parts, false≢true, leb-true, le-leb, ne_eqb}
use Rattle.std.proofs.lemmas.List.Elements.{filter-append}
use Rattle.std.proofs.lemmas.List.Folds.{list_any-append}
use Rattle.run_script.specs.Scripts.{Listed, is_of, lasts, ticks_of}
use Rattle.task_table.specs.model.State.{State}
use Rattle.task_table.specs.model.Sane.{Sane}
use Rattle.board_model.specs.declared.outcomes.Level.{Level}
use Rattle.board_model.specs.Laid.{postponed}
use Rattle.board_model.specs.Run.{run}
use Rattle.board_model.specs.SameScripts.{AgreeFor}
use Rattle.board_model.specs.Script.{Scenario}
use Rattle.board_model.proofs.SameScripts.{same_run}
use Rattle.explore_core.specs.Ahead.{AreSameBefore, is_to_come}
use Rattle.explore_core.specs.Schedules.{Coming, Schedule, events_of_schedule, events_of_way, scheduled}

abbrev from_turn : ℕ → Listed → Bool
from_turn turn d = nat_le turn d.0

-- ## of what is to come

none_before : (turn time : ℕ) (events : List Listed) → turn < time → filter (is_of turn) (postponed time events) ≡ []
none_before turn time [] lt = refl
none_before turn time (d ∷ ds) lt =
    let other : (time + d.0 == turn) ≡ false = ne_eqb (time + d.0) turn (λ e. omega (arith, e, lt)) in
    rw other (none_before turn time ds lt)

some_from : (turn time : ℕ) (events : List Listed) → turn ≤ time → nat_lt 0 (length events) ≡ true → list_any (from_turn turn) (postponed time events) ≡ true
some_from turn time [] le some = absurd (false≢true some)
some_from turn time (d ∷ ds) le some =
    let here : nat_le turn (time + d.0) ≡ true = le-leb turn (time + d.0) (omega (arith, le)) in
    ap (λ b. b || list_any (from_turn turn) (postponed time ds)) here

nothing_yet : (at turn : ℕ) (way : Option Coming) → at < turn → is_to_come turn way ≡ true → filter (is_of at) (events_of_way way) ≡ []
nothing_yet at turn None lt e = absurd (false≢true e)
nothing_yet at turn (Some c) lt e =
    let le = leb-true turn c.turn (and_parts (nat_le turn c.turn) (nat_lt 0 (length c.events)) e).0 in
    none_before at c.turn c.events (omega (arith, le, lt))

lasting : (at turn : ℕ) (way : Option Coming) → at ≤ turn → is_to_come turn way ≡ true → list_any (from_turn at) (events_of_way way) ≡ true
lasting at turn None lt e = absurd (false≢true e)
lasting at turn (Some c) lt e =
    let parts = and_parts (nat_le turn c.turn) (nat_lt 0 (length c.events)) e in
    let le = leb-true turn c.turn parts.0 in
    some_from at c.turn c.events (omega (arith, le, lt)) parts.1

-- ## of two schedules

abbrev SameBefore : ℕ → Option Coming → Option Coming → Type 0
SameBefore turn v w = (v ≡ w) ⊎ ((is_to_come turn v ≡ true) × (is_to_come turn w ≡ true))

one_happens : (at turn : ℕ) (v w : Option Coming) → at < turn → SameBefore turn v w → filter (is_of at) (events_of_way v) ≡ filter (is_of at) (events_of_way w)
one_happens at turn v w lt (inl e) = ap (λ way. filter (is_of at) (events_of_way way)) e
one_happens at turn v w lt (inr h) = nothing_yet at turn v lt h.0 ∙ sym (nothing_yet at turn w lt h.1)

one_lasts : (at turn : ℕ) (v w : Option Coming) → at ≤ turn → SameBefore turn v w → list_any (from_turn at) (events_of_way v) ≡ list_any (from_turn at) (events_of_way w)
one_lasts at turn v w lt (inl e) = ap (λ way. list_any (from_turn at) (events_of_way way)) e
one_lasts at turn v w lt (inr h) = lasting at turn v lt h.0 ∙ sym (lasting at turn w lt h.1)

all_happen : (at turn : ℕ) (one other : Schedule) → at < turn → AreSameBefore turn one other → filter (is_of at) (events_of_schedule one) ≡ filter (is_of at) (events_of_schedule other)
all_happen at turn [] [] lt h = refl
all_happen at turn [] (w ∷ ws) lt h = absurd h
all_happen at turn (v ∷ vs) [] lt h = absurd h
all_happen at turn (v ∷ vs) (w ∷ ws) lt h =
    filter-append (is_of at) (events_of_way v) (events_of_schedule vs)
    ∙ (λ i. one_happens at turn v w lt h.0 i ++ all_happen at turn vs ws lt h.1 i)
    ∙ sym (filter-append (is_of at) (events_of_way w) (events_of_schedule ws))

all_last : (at turn : ℕ) (one other : Schedule) → at ≤ turn → AreSameBefore turn one other → list_any (from_turn at) (events_of_schedule one) ≡ list_any (from_turn at) (events_of_schedule other)
all_last at turn [] [] lt h = refl
all_last at turn [] (w ∷ ws) lt h = absurd h
all_last at turn (v ∷ vs) [] lt h = absurd h
all_last at turn (v ∷ vs) (w ∷ ws) lt h =
    list_any-append (from_turn at) (events_of_way v) (events_of_schedule vs)
    ∙ (λ i. one_lasts at turn v w lt h.0 i || all_last at turn vs ws lt h.1 i)
    ∙ sym (list_any-append (from_turn at) (events_of_way w) (events_of_schedule ws))

pub agree : (x : Scenario) (one other : Schedule) (turn from n : ℕ) → from + n ≤ turn → AreSameBefore turn one other → AgreeFor (scheduled x one).script (scheduled x other).script from n
agree x one other turn from n le h = record {
  events = λ at low high.
      let all = all_happen at turn one other (omega (arith, high, le)) h in
      let events = x.script.events in
      ap (λ (l : List Listed). ticks_of x.script.every at ++ map (λ (d : Listed). d.1) l)
      (filter-append (is_of at) events (events_of_schedule other) ∙ ap (λ (l : List Listed). filter (is_of at) events ++ l) (sym all) ∙ sym (filter-append (is_of at) events (events_of_schedule one)));
  last = λ at low high.
      let all = all_last at turn one other (omega (arith, high, le)) h in
      let events = x.script.events in
      ap (λ (b : Bool). is_some x.script.every || b)
      (list_any-append (from_turn at) events (events_of_schedule other) ∙ ap (λ (b : Bool). list_any (from_turn at) events || b) (sym all) ∙ sym (list_any-append (from_turn at) events (events_of_schedule one)));
}

pub one_run : (level : Level) (x : Scenario) (one other : Schedule) (turn n : ℕ) (s : State) → Sane x.setup s → s.turn + n ≤ turn → AreSameBefore turn one other → run level (scheduled x other) n s ≡ run level (scheduled x one) n s
one_run level x one other turn n s sane le h = same_run level (scheduled x one) (scheduled x other).script n s sane (agree x one other turn s.turn n le h)

-- and both last there, or neither does
pub lasts_too : (x : Scenario) (one other : Schedule) (turn : ℕ) → AreSameBefore turn one other → lasts (scheduled x other).script turn ≡ lasts (scheduled x one).script turn
lasts_too x one other turn h =
    let all = all_last turn turn one other (omega arith) h in
    let events = x.script.events in
    ap (λ (b : Bool). is_some x.script.every || b)
    (list_any-append (from_turn turn) events (events_of_schedule other) ∙ ap (λ (b : Bool). list_any (from_turn turn) events || b) (sym all) ∙ sym (list_any-append (from_turn turn) events (events_of_schedule one)))
