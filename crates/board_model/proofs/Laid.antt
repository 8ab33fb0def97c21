-- Before an arrival comes, and once it is over, the same happens as without it, or at any other time.
use Rattle.std.proofs.Common.{◌≡◌, ◌∙◌, ℕ, ◌+◌, ◌<◌, ◌≤◌, Bool, true, false, List, [], ◌∷◌, ◌++◌, refl, sym, ap, arith}
use Rattle.std.proofs.lemmas.Bool.{and_parts}
use Rattle.std.specs.Prelude.{◌||◌, nat_le, nat_lt, filter, map, is_some}
use Rattle.std.specs.List.{list_any, list_all}
use Rattle.std.proofs.lemmas.Bool.Decides.{nat_tests}
use Rattle.std.proofs.lemmas.List.{append-nil}
use Rattle.std.proofs.lemmas.List.Elements.{filter-append}
use Rattle.std.proofs.lemmas.List.Folds.{list_any-append}
use Rattle.run_script.specs.Scripts.{Listed, ScriptData, events_of, lasts, is_of, ticks_of}
use Rattle.board_model.specs.Laid.{postponed, laid, is_over}
use Rattle.board_model.specs.SameScripts.{AgreeFor}

-- ## what of it is of a turn

none_before : (turn time : ℕ) (arrival : List Listed) → turn < time → filter (is_of turn) (postponed time arrival) ≡ []
none_before turn time [] lt = refl
none_before turn time (d ∷ ds) lt =
    let no : is_of turn (time + d.0, d.1) ≡ false = grind (arith, nat_tests) in
    rw no (none_before turn time ds lt)

none_after : (turn time : ℕ) (events : List Listed) → list_all (λ (d : Listed). nat_lt d.0 time) events ≡ true → time ≤ turn → filter (is_of turn) events ≡ []
none_after turn time [] over le = refl
none_after turn time (d ∷ ds) over le =
    let p = and_parts (nat_lt d.0 time) (list_all (λ (d : Listed). nat_lt d.0 time) ds) over in
    let here = p.0 in
    let no : is_of turn d ≡ false = grind (arith, nat_tests) in
    rw no (none_after turn time ds p.1 le)

without : (script : ScriptData) (arrival : List Listed) (time turn : ℕ) → filter (is_of turn) (postponed time arrival) ≡ [] → events_of (laid script arrival time) turn ≡ events_of script turn
without script arrival time turn none =
    let all : filter (is_of turn) (script.events ++ postponed time arrival) ≡ filter (is_of turn) script.events =
    filter-append (is_of turn) script.events (postponed time arrival) ∙ ap (λ (l : List Listed). filter (is_of turn) script.events ++ l) none ∙ append-nil (filter (is_of turn) script.events) in
    ap (λ (l : List Listed). ticks_of script.every turn ++ map (λ (d : Listed). d.1) l) all

pub nothing_before : (script : ScriptData) (arrival : List Listed) (time turn : ℕ) → turn < time → events_of (laid script arrival time) turn ≡ events_of script turn
nothing_before script arrival time turn lt = without script arrival time turn (none_before turn time arrival lt)

pub nothing_after : (script : ScriptData) (arrival : List Listed) (time from turn : ℕ) → is_over arrival time from ≡ true → from ≤ turn → events_of (laid script arrival time) turn ≡ events_of script turn
nothing_after script arrival time from turn over le = without script arrival time turn (none_after turn from (postponed time arrival) over le)

-- ## whether it lasts

abbrev from_turn : ℕ → Listed → Bool
from_turn turn d = nat_le turn d.0

lasts_laid : (script : ScriptData) (arrival : List Listed) (time turn : ℕ) → lasts (laid script arrival time) turn ≡ (is_some script.every || (list_any (from_turn turn) script.events || list_any (from_turn turn) (postponed time arrival)))
lasts_laid script arrival time turn = ap (λ (b : Bool). is_some script.every || b) (list_any-append (from_turn turn) script.events (postponed time arrival))

-- as long as it has not come, it lasts where it has an event at all
waited : (turn time later : ℕ) (arrival : List Listed) → turn ≤ time → turn ≤ later → list_any (from_turn turn) (postponed time arrival) ≡ list_any (from_turn turn) (postponed later arrival)
waited turn time later [] le more = refl
waited turn time later (d ∷ ds) le more =
    let one : from_turn turn (time + d.0, d.1) ≡ true = grind (arith, nat_tests) in
    let other : from_turn turn (later + d.0, d.1) ≡ true = grind (arith, nat_tests) in
    rw (one, other) refl

pub lasts_before : (script : ScriptData) (arrival : List Listed) (time later turn : ℕ) → turn ≤ time → turn ≤ later → lasts (laid script arrival time) turn ≡ lasts (laid script arrival later) turn
lasts_before script arrival time later turn le more =
    lasts_laid script arrival time turn
    ∙ ap (λ (b : Bool). is_some script.every || (list_any (from_turn turn) script.events || b)) (waited turn time later arrival le more)
    ∙ sym (lasts_laid script arrival later turn)

none_lasts : (turn time : ℕ) (events : List Listed) → list_all (λ (d : Listed). nat_lt d.0 time) events ≡ true → time ≤ turn → list_any (from_turn turn) events ≡ false
none_lasts turn time [] over le = refl
none_lasts turn time (d ∷ ds) over le =
    let p = and_parts (nat_lt d.0 time) (list_all (λ (d : Listed). nat_lt d.0 time) ds) over in
    let here = p.0 in
    let no : from_turn turn d ≡ false = grind (arith, nat_tests) in
    rw no (none_lasts turn time ds p.1 le)

or_false : (a : Bool) → (a || false) ≡ a
or_false true = refl
or_false false = refl

pub lasts_after : (script : ScriptData) (arrival : List Listed) (time from turn : ℕ) → is_over arrival time from ≡ true → from ≤ turn → lasts (laid script arrival time) turn ≡ lasts script turn
lasts_after script arrival time from turn over le =
    lasts_laid script arrival time turn
    ∙ ap (λ (b : Bool). is_some script.every || (list_any (from_turn turn) script.events || b)) (none_lasts turn from (postponed time arrival) over le)
    ∙ ap (λ (b : Bool). is_some script.every || b) (or_false (list_any (from_turn turn) script.events))

-- ## the scripts agree

-- of two arrival times neither has come
pub agree_before : (script : ScriptData) (arrival : List Listed) (time later from n : ℕ) → from + n ≤ time → from + n ≤ later → AgreeFor (laid script arrival later) (laid script arrival time) from n
agree_before script arrival time later from n le more = record {
  events = λ turn start lt. nothing_before script arrival time turn (omega (arith, lt, le)) ∙ sym (nothing_before script arrival later turn (omega (arith, lt, more)));
  last = λ turn start lt. lasts_before script arrival time later turn (omega (arith, lt, le)) (omega (arith, lt, more));
}

-- it is over
pub agree_after : (script : ScriptData) (arrival : List Listed) (time from n : ℕ) → is_over arrival time from ≡ true → AgreeFor script (laid script arrival time) from n
agree_after script arrival time from n over = record {
  events = λ turn le lt. nothing_after script arrival time from turn over le;
  last = λ turn le lt. lasts_after script arrival time from turn over le;
}
