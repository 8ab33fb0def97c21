-- What is so of a question that is not refused beside a script and a board.
use Rattle.std.proofs.Common.{get_or, take, ◌≡◌, ◌∙◌, ℕ, ◌+◌, ◌-◌, ◌<◌, ◌≤◌, ◌==◌, zero, suc, count_by, sum_by, flat_map, le_refl, le_trans, Bool, true, false, cond, not, ◌&&◌, ◌||◌, List, [], ◌∷◌, ◌++◌, length, map, Option, Some, None, refl, sym, ap, subst, inl, inr, ◌⊎◌, arith}
use Rattle.std.specs.Prelude.{⊤, nat_le, nat_lt, find, is_some, slice_get, if◌then◌else◌}
use Rattle.std.specs.List.{All, list_all, list_any, range_with_len}
use Rattle.std.specs.Option.{option_map}
use Rattle.std.proofs.lemmas.Bool.{and_from, and_parts, both_ways, cases_eq, eq-eqb, le-leb, le-ltb, leb-true, lt-ltb, ltb-false, ltb-true, ne_eqb, not-false, or_cases, or_parts}
use Rattle.std.proofs.lemmas.List.Elements.{All-append, All-cons, All-contains, All-get_or, All-head, All-map, All-nil, All-tail, All-weaker}
use Rattle.std.proofs.lemmas.List.{get_or-map, get_or-take, length-append, length-map, length-take-le, take_all}
use Rattle.std.proofs.lemmas.List.Folds.{fold-map, list_any_none}
use Rattle.std.proofs.lemmas.List.Sums.{list_all-from_AllPass, sum_by-append, sum_by-cons, sum_by-le-sum_by}
use Rattle.std.proofs.lemmas.List.Recursion.{found_at, found_nowhere}
use Rattle.std.proofs.lemmas.Option.{none-some}
use Rattle.mem_banks.specs.Memory.{Memory, byte_at}
use Rattle.task_table.specs.model.State.{State}
use Rattle.run_script.specs.declared.events.Event.{Event}
use Rattle.run_script.specs.Facts.{Facts, IsListed}
use Rattle.run_script.specs.Scripts.{Listed, Refusal, ScriptData, is_of}
use Rattle.run_question.specs.Questions.{Arrival, Offer, Question, Stated, stated_data}
use Rattle.run_question.specs.declared.question.Stated.{Stated as StatedCode}
use Rattle.run_question.specs.declared.asked.Fact.{Fact}
use Rattle.run_question.specs.declared.asked.Fact.TheVariants as fact
use Rattle.run_question.specs.declared.asked.Property.{Property}
use Rattle.run_question.specs.declared.asked.Property.TheVariants as property
use Rattle.explore_core.specs.Refusals.{all_together, are_no_scripts, first_unknown, has_all_of, has_byte_at, has_fact, has_word_at, is_late, may_be_late, most_of_turn, most_together, question_refusal, turns_listed, turns_offered}
use Rattle.board_model.specs.Laid.{is_free, is_script, postponed}
use Rattle.explore_core.specs.Answers.{Asking}
use Rattle.explore_core.specs.Exploring.{AreScripts}
use Rattle.explore_core.specs.Schedules.{Coming, Schedule, all_comings, choices, comings, events_of_schedule, events_of_way, schedules, ways}
use Rattle.explore_core.specs.There.{AreThere, IsThere, LiesInOne}
use Rattle.explore_core.proofs.Turns.{times_within}

-- ## neither cause

neither : {X : Type 0} (bad : Bool) (r : Refusal) (f : X → Refusal) (o : Option X) → (if bad then Some r else option_map f o) ≡ None → (bad ≡ false) × (o ≡ None)
neither true r f o e = absurd (none-some r (sym e))
neither false r f None e = (refl, refl)
neither false r f (Some x) e = absurd (none-some (f x) (sym e))

pub unrefused : (s : State) (script : ScriptData) (q : Question) → question_refusal s script q ≡ None → (are_no_scripts script q.arrivals ≡ false) × (first_unknown s q.properties ≡ None)
unrefused s script q e = neither (are_no_scripts script q.arrivals) (6, 0) (λ (p : Stated). (7, p.line)) (first_unknown s q.properties) e

-- ## cause 7

not_first : {X : Type 0} (b : Bool) (x : X) (o : Option X) → cond b (Some x) o ≡ None → (b ≡ false) × (o ≡ None)
not_first true x o e = absurd (none-some x (sym e))
not_first false x o e = (refl, e)

none_found : {X : Type 0} (p : X → Bool) (xs : List X) → find p xs ≡ None → All (λ x. p x ≡ false) xs
none_found p [] e = All-nil (λ x. p x ≡ false)
none_found p (x ∷ xs) e =
    let parts = not_first (p x) x (find p xs) e in
    All-cons (λ x. p x ≡ false) x xs parts.0 (none_found p xs parts.1)

-- a byte is not below the flash
lies_above : (high flash : Bool) (one other : Option ℕ) → is_some (if high then one else (if flash then other else None)) ≡ true → (high ≡ true) ⊎ (flash ≡ true)
lies_above true flash one other e = inl refl
lies_above false true one other e = inr refl
lies_above false false one other e = absurd (both_ways false refl e)

above_flash : (m : Memory) (at : ℕ) → is_some (byte_at m at) ≡ true → 0x08000000 ≤ at
above_flash m at e =
    elim (lies_above (nat_le 0x20000000 at) (nat_le 0x08000000 at) (slice_get m.ram (at - 0x20000000)) (slice_get m.flash (at - 0x08000000)) e) [
      | inl high ↦ omega (arith, leb-true 0x20000000 at high)
      | inr low ↦ leb-true 0x08000000 at low
    ]

word_lies : (s : State) (at : ℕ) → has_word_at s at ≡ true → LiesInOne at
word_lies s at e =
    let fits = nat_lt (at + 3) 4294967296 in
    let first = has_byte_at s at in
    let last = has_byte_at s (at + 3) in
    let one = nat_lt (at + 3) 0x20000000 || nat_le 0x20000000 at in
    let parts : ((fits && first && last) ≡ true) × (one ≡ true) = and_parts (fits && first && last) one e in
    let more : ((fits && first) ≡ true) × (last ≡ true) = and_parts (fits && first) last parts.0 in
    let most : (fits ≡ true) × (first ≡ true) = and_parts fits first more.0 in
    elim (or_cases (nat_lt (at + 3) 0x20000000) (nat_le 0x20000000 at) parts.1) [
      | inl low ↦ inl (above_flash s.memory at most.1, ltb-true (at + 3) 0x20000000 low)
      | inr high ↦ inr (leb-true 0x20000000 at high, ltb-true (at + 3) 4294967296 most.0)
    ]

fact_there : (f : Fact) (s : State) → has_fact s f ≡ true → IsThere f s
fact_there (fact.Byte at test value) s e = tt
fact_there (fact.Word at test value) s e = word_lies s at e
fact_there (fact.Task task f) s e = ltb-true task (length s.tasks) e
fact_there (fact.Waiting device) s e = tt

one_there : (p : Property) (s : State) → has_all_of s p ≡ true → AreThere p s
one_there (property.NeverTold line) s e = tt
one_there (property.NeverChanged at but) s e = tt
one_there (property.NeverSo c turns) s e = fact_there c.fact s e
one_there (property.EndsSo c) s e = fact_there c.fact s e
one_there property.EndsStill s e = tt
one_there (property.Answered line answer turns) s e = tt

-- what each property asks of a state speaks of what is there
pub all_there : (s : State) (script : ScriptData) (q : Question) → question_refusal s script q ≡ None → All (λ (p : Stated). AreThere p.property s) q.properties
all_there s script q e =
    All-weaker (λ (p : Stated). not (has_all_of s p.property) ≡ false) (λ (p : Stated). AreThere p.property s)
    (λ p is. one_there p.property s (not-false (has_all_of s p.property) is)) q.properties
    (none_found (λ (p : Stated). not (has_all_of s p.property)) q.properties (unrefused s script q e).1)

-- the first of some that is not
unknown_line : {X : Type 0} (b : Bool) (x : X) (o : Option X) (f : X → ℕ) → option_map f (cond b (Some x) o) ≡ cond b (Some (f x)) (option_map f o)
unknown_line true x o f = refl
unknown_line false x o f = refl

abbrev line_of : State → List StatedCode → Option ℕ
line_of s ws = option_map (λ (p : Stated). p.line) (first_unknown s (map stated_data ws))

line_step : (s : State) (w : StatedCode) (ws : List StatedCode) → line_of s (w ∷ ws) ≡ cond (not (has_all_of s w.property)) (Some w.line) (line_of s ws)
line_step s w ws = unknown_line (not (has_all_of s w.property)) (stated_data w) (first_unknown s (map stated_data ws)) (λ (p : Stated). p.line)

known_before : (s : State) (ws : List StatedCode) (i : ℕ) (d : StatedCode) → i ≤ length ws → All (λ (w : StatedCode). has_all_of s w.property ≡ true) (take i ws) → (k : ℕ) → k < i → not (has_all_of s (get_or ws k d).property) ≡ false
known_before s ws i d le all k lt =
    let here = All-get_or (λ (w : StatedCode). has_all_of s w.property ≡ true) (take i ws) k d (omega (arith, lt, length-take-le i ws le)) all in
    ap not (ap (λ (w : StatedCode). has_all_of s w.property) (sym (get_or-take i ws k d lt)) ∙ here)

pub first_line : (s : State) (ws : List StatedCode) (i : ℕ) (w : StatedCode) → i < length ws → w ≡ get_or ws i w → All (λ (v : StatedCode). has_all_of s v.property ≡ true) (take i ws) → has_all_of s w.property ≡ false → Some w.line ≡ line_of s ws
first_line s ws i w lt is all none =
    let here : not (has_all_of s (get_or ws i w).property) ≡ true = ap (λ (v : StatedCode). not (has_all_of s v.property)) (sym is) ∙ ap not none in
    ap (λ (v : StatedCode). Some v.line) is
    ∙ sym (found_at (line_of s) (λ (v : StatedCode). not (has_all_of s v.property)) (λ (v : StatedCode). Some v.line) None refl (line_step s) ws i w lt (known_before s ws i w (omega (arith, lt)) all) here)

pub no_line : (s : State) (ws : List StatedCode) (i : ℕ) → length ws ≤ i → All (λ (v : StatedCode). has_all_of s v.property ≡ true) (take i ws) → None ≡ line_of s ws
no_line s [] i le all = refl
no_line s (w ∷ ws) i le all =
    let whole = subst (λ (l : List StatedCode). All (λ (v : StatedCode). has_all_of s v.property ≡ true) l) (take_all i (w ∷ ws) le) all in
    sym (found_nowhere (line_of s) (λ (v : StatedCode). not (has_all_of s v.property)) (λ (v : StatedCode). Some v.line) None refl (line_step s) (w ∷ ws) w
    (λ k lt. ap not (All-get_or (λ (v : StatedCode). has_all_of s v.property ≡ true) (w ∷ ws) k w lt whole)))

-- ## cause 6

pub any_mapped : {X Y : Type 0} (p : Y → Bool) (f : X → Y) (xs : List X) → list_any p (map f xs) ≡ list_any (λ x. p (f x)) xs
any_mapped p f [] = refl
any_mapped p f (x ∷ xs) = ap (λ b. p (f x) || b) (any_mapped p f xs)

pub late_only : (script : ScriptData) (arrivals : List Arrival) (late : Bool) → Facts script → most_together script arrivals ≤ 8 → all_together script arrivals ≤ 65536 → late ≡ list_any may_be_late arrivals → late ≡ are_no_scripts script arrivals
late_only script arrivals late facts few all is =
    let one = sym (le-ltb 8 (most_together script arrivals) few) in
    let two = sym (le-ltb 65536 (all_together script arrivals) all) in
    let own = list_any_none (λ (d : Listed). is_late d.0) script.events (All-weaker IsListed (λ (d : Listed). is_late d.0 ≡ false) (λ d l. le-ltb 999999999 d.0 (omega (arith, l.turn))) script.events facts.listed) in
    is ∙ (λ i. one i || two i || sym own i || list_any may_be_late arrivals)

-- ## each schedule is a script

-- those turns that are one later each
shifted : (by turn : ℕ) (turns : List ℕ) → count_by (λ (t : ℕ). by + t == turn) turns ≤ most_of_turn turns
shifted by turn turns =
    le_trans (sum_by-le-sum_by (λ (t : ℕ). cond (by + t == turn) 1 0) (λ (t : ℕ). cond (t == turn - by) 1 0) turns one) (times_within turns (turn - by))
  where
    one : (t : ℕ) → cond (by + t == turn) 1 0 ≤ cond (t == turn - by) 1 0
    one t =
        elim (cases_eq (by + t) turn) [
          | inl is ↦ rw (eq-eqb (by + t) turn is, eq-eqb t (turn - by) (omega (arith, is))) (omega arith)
          | inr other ↦ rw (ne_eqb (by + t) turn other) (omega arith)
        ]

none_of : {X : Type 0} (p : X → Bool) (xs : List X) → list_any p xs ≡ false → All (λ x. p x ≡ false) xs
none_of p [] e = All-nil (λ x. p x ≡ false)
none_of p (x ∷ xs) e =
    let parts = or_parts (p x) (list_any p xs) e in
    All-cons (λ x. p x ≡ false) x xs parts.0 (none_of p xs parts.1)

all_flat : {X Y : Type 0} (P : Y → Type 0) (Q : X → Type 0) (f : X → List Y) (xs : List X) → All Q xs → ((x : X) → Q x → All P (f x)) → All P (flat_map f xs)
all_flat P Q f [] all each = All-nil P
all_flat P Q f (x ∷ xs) all each = All-append P (f x) (flat_map f xs) (each x (All-head Q x xs all)) (all_flat P Q f xs (All-tail Q x xs all) each)

in_range : (from n : ℕ) → All (λ t. (from ≤ t) × (t < from + n)) (range_with_len from n)
in_range from zero = All-nil (λ t. (from ≤ t) × (t < from + zero))
in_range from (suc n) =
    All-cons (λ t. (from ≤ t) × (t < from + suc n)) from (range_with_len (from + 1) n) (le_refl from, omega arith)
    (All-weaker (λ t. (from + 1 ≤ t) × (t < from + 1 + n)) (λ t. (from ≤ t) × (t < from + suc n)) (λ t h. (omega (arith, h.0), omega (arith, h.1))) (range_with_len (from + 1) n) (in_range (from + 1) n))

anything : {X : Type 0} (xs : List X) → All (λ x. ⊤) xs
anything xs k d lt = tt

-- each choice has the turns that are offered
chosen_turns : (offers : List Offer) → All (λ (events : List Listed). turns_listed events ≡ map (λ o. o.turn) offers) (choices offers)
unfolding choices
chosen_turns [] = All-cons (λ (events : List Listed). turns_listed events ≡ []) [] [] refl (All-nil (λ (events : List Listed). turns_listed events ≡ []))
chosen_turns (offer ∷ rest) =
    let P = λ (events : List Listed). turns_listed events ≡ offer.turn ∷ map (λ o. o.turn) rest in
    all_flat P (λ (e : Event). ⊤) (λ event. map (λ more. (offer.turn, event) ∷ more) (choices rest)) offer.events (anything offer.events)
    (λ event any. All-map P (λ (more : List Listed). (offer.turn, event) ∷ more) (choices rest)
    (All-weaker (λ (more : List Listed). turns_listed more ≡ map (λ o. o.turn) rest) (λ more. P ((offer.turn, event) ∷ more)) (λ more is. ap (λ l. offer.turn ∷ l) is) (choices rest) (chosen_turns rest)))

-- what comes with an arrival: no more than is offered, and nothing late
record IsWithin (top total : ℕ) (may_late : Bool) (events : List Listed) : Type 0 where
  many : length events ≤ total
  most : (turn : ℕ) → count_by (is_of turn) events ≤ top
  early : may_late ≡ false → All (λ (d : Listed). d.0 < 1000000000) events

no_events : (most many : ℕ) (late : Bool) → IsWithin most many late []
no_events most many late = record { many = omega arith; most = λ turn. omega arith; early = λ e. All-nil (λ (d : Listed). d.0 < 1000000000) }

abbrev IsWayOf : Arrival → Option Coming → Type 0
IsWayOf a way = IsWithin (most_of_turn (turns_offered a)) (length a.offers) (may_be_late a) (events_of_way way)

way_within : (a : Arrival) (turn : ℕ) (events : List Listed) → turn < a.below → turns_listed events ≡ turns_offered a → IsWayOf a (Some (record { turn = turn; events = events }))
way_within a turn events lt same = record {
  many = omega (arith, length-map {B = Listed} events (λ (d : Listed). (turn + d.0, d.1)), length-map events (λ (d : Listed). d.0), ap (λ (l : List ℕ). length l) same, length-map a.offers (λ (o : Offer). o.turn));
  most = λ at. subst (λ n. n ≤ most_of_turn (turns_offered a)) (sym (counted at)) (shifted turn at (turns_offered a));
  early = λ e. All-map (λ (d : Listed). d.0 < 1000000000) (λ (d : Listed). (turn + d.0, d.1)) events (early_each e);
}
  where
    counted : (at : ℕ) → count_by (is_of at) (postponed turn events) ≡ count_by (λ (t : ℕ). turn + t == at) (turns_offered a)
    counted at =
        fold-map (λ (n : ℕ) (d : Listed). n + cond (d.0 == at) 1 0) (λ (d : Listed). (turn + d.0, d.1)) 0 events
        ∙ sym (fold-map (λ (n : ℕ) (t : ℕ). n + cond (turn + t == at) 1 0) (λ (d : Listed). d.0) 0 events)
        ∙ ap (count_by (λ (t : ℕ). turn + t == at)) same

    early_turn : may_be_late a ≡ false → All (λ (t : ℕ). turn + t < 1000000000) (turns_listed events)
    early_turn e =
        let none = none_of (λ (o : Offer). is_late (a.below - 1 + o.turn)) a.offers e in
        subst (λ (l : List ℕ). All (λ (t : ℕ). turn + t < 1000000000) l) (sym same)
        (All-map (λ (t : ℕ). turn + t < 1000000000) (λ (o : Offer). o.turn) a.offers
        (All-weaker (λ (o : Offer). is_late (a.below - 1 + o.turn) ≡ false) (λ (o : Offer). turn + o.turn < 1000000000) (λ o is. omega (arith, ltb-false 999999999 (a.below - 1 + o.turn) is, lt)) a.offers none))

    early_each : may_be_late a ≡ false → All (λ (d : Listed). turn + d.0 < 1000000000) events
    early_each e k d at =
        subst (λ (t : ℕ). turn + t < 1000000000) (get_or-map (λ (x : Listed). x.0) events k d 0 at) (early_turn e k 0 (omega (arith, at, length-map events (λ (x : Listed). x.0))))

ways_within : (a : Arrival) → All (IsWayOf a) (ways a)
ways_within a =
    All-append (IsWayOf a) (if a.may_fail then None ∷ [] else []) (map (λ c. Some c) (all_comings a)) (failing a.may_fail)
    (All-map (IsWayOf a) (λ (c : Coming). Some c) (all_comings a)
    (all_flat (λ (c : Coming). IsWayOf a (Some c)) (λ t. (a.first ≤ t) × (t < a.first + (a.below - a.first))) (comings a) (range_with_len a.first (a.below - a.first)) (in_range a.first (a.below - a.first))
    (λ t h. All-map (λ (c : Coming). IsWayOf a (Some c)) (λ (events : List Listed). record { turn = t; events = events }) (choices a.offers)
    (All-weaker (λ (events : List Listed). turns_listed events ≡ turns_offered a) (λ (events : List Listed). IsWayOf a (Some (record { turn = t; events = events }))) (λ events same. way_within a t events (omega (arith, h.0, h.1)) same) (choices a.offers) (chosen_turns a.offers)))))
  where
    failing : (fails : Bool) → All (IsWayOf a) (if fails then None ∷ [] else [])
    failing true = All-cons (IsWayOf a) None [] (no_events (most_of_turn (turns_offered a)) (length a.offers) (may_be_late a)) (All-nil (IsWayOf a))
    failing false = All-nil (IsWayOf a)

both_within : (most most' many many' : ℕ) (late late' : Bool) (events more : List Listed) → IsWithin most many late events → IsWithin most' many' late' more → IsWithin (most + most') (many + many') (late || late') (events ++ more)
both_within most most' many many' late late' events more one other = record {
  many = omega (arith, length-append events more, one.many, other.many);
  most = λ turn. omega (arith, sum_by-append (λ (d : Listed). cond (is_of turn d) 1 0) events more, one.most turn, other.most turn);
  early = λ e.
      let parts = or_parts late late' e in
      All-append (λ (d : Listed). d.0 < 1000000000) events more (one.early parts.0) (other.early parts.1);
}

abbrev IsScheduleOf : List Arrival → Schedule → Type 0
IsScheduleOf arrivals schedule = IsWithin (sum_by (λ (a : Arrival). most_of_turn (turns_offered a)) arrivals) (sum_by (λ (a : Arrival). length a.offers) arrivals) (list_any may_be_late arrivals) (events_of_schedule schedule)

schedules_within : (arrivals : List Arrival) → All (IsScheduleOf arrivals) (schedules arrivals)
unfolding schedules
schedules_within [] = All-cons (IsScheduleOf []) [] [] (no_events 0 0 false) (All-nil (IsScheduleOf []))
schedules_within (a ∷ rest) =
    let P = IsScheduleOf (a ∷ rest) in
    all_flat P (IsWayOf a) (λ way. map (λ more. way ∷ more) (schedules rest)) (ways a) (ways_within a)
    (λ way one. All-map P (λ (more : Schedule). way ∷ more) (schedules rest) (All-weaker (IsScheduleOf rest) (λ more. P (way ∷ more)) (λ more other. with_first a rest way more one other) (schedules rest) (schedules_within rest)))
  where
    with_first : (a : Arrival) (rest : List Arrival) (way : Option Coming) (more : Schedule) → IsWayOf a way → IsScheduleOf rest more → IsScheduleOf (a ∷ rest) (way ∷ more)
    with_first a rest way more one other =
        rw (sum_by-cons (λ (x : Arrival). most_of_turn (turns_offered x)) a rest, sum_by-cons (λ (x : Arrival). length x.offers) a rest)
        (both_within (most_of_turn (turns_offered a)) (sum_by (λ (x : Arrival). most_of_turn (turns_offered x)) rest) (length a.offers) (sum_by (λ (x : Arrival). length x.offers) rest) (may_be_late a) (list_any may_be_late rest) (events_of_way way) (events_of_schedule more) one other)

-- the script's own events as well
script_is : (events : List Listed) → length events ≤ 65536 → ((turn : ℕ) → count_by (is_of turn) events ≤ 8) → All (λ (d : Listed). d.0 < 1000000000) events → is_script events ≡ true
script_is events few each early =
    and_from (nat_le (length events) 65536) (list_all (is_free events) events) (le-leb (length events) 65536 few)
    (list_all-from_AllPass (is_free events) events (All-weaker (λ (d : Listed). d.0 < 1000000000) (λ d. is_free events d ≡ true)
    (λ d lt. and_from (nat_lt d.0 1000000000) (nat_le (count_by (is_of d.0) events) 8) (lt-ltb d.0 1000000000 lt) (le-leb (count_by (is_of d.0) events) 8 (each d.0))) events early))

own_within : (events : List Listed) → list_any (λ (d : Listed). is_late d.0) events ≡ false → IsWithin (most_of_turn (turns_listed events)) (length events) false events
own_within events none = record {
  many = le_refl (length events);
  most = λ turn. subst (λ n. n ≤ most_of_turn (turns_listed events)) (fold-map (λ (n : ℕ) (t : ℕ). n + cond (t == turn) 1 0) (λ (d : Listed). d.0) 0 events) (times_within (turns_listed events) turn);
  early = λ e. All-weaker (λ (d : Listed). is_late d.0 ≡ false) (λ (d : Listed). d.0 < 1000000000) (λ d is. omega (arith, ltb-false 999999999 d.0 is)) events (none_of (λ (d : Listed). is_late d.0) events none);
}

-- where the question is not refused, each schedule is a script
pub all_scripts : (a : Asking) → are_no_scripts a.scenario.script a.question.arrivals ≡ false → AreScripts a
all_scripts a e schedule has =
    let script = a.scenario.script in
    let arrivals = a.question.arrivals in
    let many = nat_lt 8 (most_together script arrivals) in
    let long = nat_lt 65536 (all_together script arrivals) in
    let own = list_any (λ (d : Listed). is_late d.0) script.events in
    let late = list_any may_be_late arrivals in
    let parts : ((many || long || own) ≡ false) × (late ≡ false) = or_parts (many || long || own) late e in
    let more : ((many || long) ≡ false) × (own ≡ false) = or_parts (many || long) own parts.0 in
    let most : (many ≡ false) × (long ≡ false) = or_parts many long more.0 in
    let all = both_within _ _ _ _ false late script.events (events_of_schedule schedule) (own_within script.events more.1) (All-contains (IsScheduleOf arrivals) (schedules arrivals) schedule (schedules_within arrivals) has) in
    script_is (script.events ++ events_of_schedule schedule)
    (omega (arith, all.many, ltb-false 65536 (all_together script arrivals) most.1))
    (λ turn. omega (arith, all.most turn, ltb-false 8 (most_together script arrivals) most.0))
    (all.early parts.1)
