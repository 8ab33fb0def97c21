-- The text of a script is read as that script, line by line.
use Rattle.std.proofs.Common.{◌≡◌, ℕ, ◌+◌, ◌^◌, ◌<◌, ◌≤◌, suc, true, false, not, List, [], ◌∷◌, ◌++◌, length, drop, get_or, Option, Some, None, Ok, refl, sym, subst, ap, ◌∙◌, arith, Bool, append_assoc, codes, if◌then◌else◌, nat_eq, nat_le, nat_lt, ◌||◌, ◌==◌, length-append}
use Rattle.std.specs.Prelude.{decimal}
use Rattle.std.specs.List.{count_by, flat_map, list_all}
use Rattle.std.proofs.lemmas.Bool.{and_from, and_parts, not-true}
use Rattle.std.proofs.lemmas.Bool.Decides.{nat_tests}
use Rattle.std.proofs.lemmas.List.{append-nil, drop_all, get_or_at, get_or-append-add, get_or_append_left, take_all}
use Rattle.std.proofs.lemmas.List.Sums.{sum_by-append, sum_by-cons}
use Rattle.text_lines.specs.Text.{lines_of, with_first}
use Rattle.run_script.specs.declared.events.Event.{Event}
use Rattle.run_script.specs.declared.events.Event.TheVariants.{Tick, Irq, Feed}
use Rattle.run_script.specs.Facts.{Facts, HasDevice, HasLine, IsListed, IsPeriod}
use Rattle.run_script.specs.Words.{ends_word, is_allowed, is_blank, words}
use Rattle.run_script.specs.Quotes.{before_text, text_from}
use Rattle.run_script.specs.Statements.{Said, Every, Lists, at_said, byte_in, device_in, feed_of, irq_on, line_in, once, period_in, period_said, statement_of, turn_in, words_said}
use Rattle.run_script.specs.Scripts.{Listed, Reading, ScriptData, inserted, is_full, is_of, no_script, reading, script_or_fault, with_lines, with_listed, with_series, with_statement}
use Rattle.run_script.specs.Texts.{event_line, event_text, period_line, script_text}
use Rattle.run_script.proofs.Adding.{inserted_is}
use Rattle.run_script.proofs.Decimals.{decimal_then, is_plain, number_back, plain_then}
use Rattle.run_script.proofs.Series.{goes_on as each_on, series_end}
use Rattle.run_script.proofs.Walk.{goes_on, no_line}

-- ---- lines

allowed : (line : List ℕ) → list_all is_plain line ≡ true → list_all is_allowed line ≡ true
allowed [] h = refl
allowed (c ∷ cs) h =
    let p = and_parts (is_plain c) (list_all is_plain cs) h in
    and_from (is_allowed c) (list_all is_allowed cs) (and_parts (is_allowed c) (not (c == 34)) p.0).0 (allowed cs p.1)

no_quote : (c : ℕ) → is_plain c ≡ true → (c == 34) ≡ false
no_quote c h = not-true (c == 34) (and_parts (is_allowed c) (not (c == 34)) h).1

-- a line without a quote has no text
no_text : (begins : Bool) (line : List ℕ) → list_all is_plain line ≡ true → (before_text begins line ≡ line) × (text_from begins line ≡ [])
unfolding before_text text_from
no_text begins [] h = (refl, refl)
no_text true (c ∷ cs) h =
    let p = and_parts (is_plain c) (list_all is_plain cs) h in
    let rest = no_text (is_blank c) cs p.1 in
    let other = no_quote c p.0 in
    (rw other (ap (λ (l : List ℕ). c ∷ l) rest.0), rw other rest.1)
no_text false (c ∷ cs) h =
    let p = and_parts (is_plain c) (list_all is_plain cs) h in
    let rest = no_text (is_blank c) cs p.1 in
    (ap (λ (l : List ℕ). c ∷ l) rest.0, rest.1)

no_end : (c : ℕ) → is_allowed c ≡ true → nat_eq c 10 ≡ false
no_end c h = grind (arith, nat_tests)

no_return : (c : ℕ) → is_allowed c ≡ true → nat_eq c 13 ≡ false
no_return c h = grind (arith, nat_tests)

one_more : (c : ℕ) (cs : List ℕ) → nat_eq c 10 ≡ false → nat_eq c 13 ≡ false → lines_of (c ∷ cs) ≡ with_first c (lines_of cs)
unfolding lines_of
one_more c cs h k = rw (h, k) refl

line_ends : (rest : List ℕ) → lines_of (10 ∷ rest) ≡ [] ∷ lines_of rest
unfolding lines_of
line_ends rest = refl

no_line_left : lines_of [] ≡ []
unfolding lines_of
no_line_left = refl

-- a line of bytes that it may have
pub line_then : (line rest : List ℕ) → list_all is_allowed line ≡ true → lines_of (line ++ 10 ∷ rest) ≡ line ∷ lines_of rest
line_then [] rest h = line_ends rest
line_then (c ∷ cs) rest h =
    let p = and_parts (is_allowed c) (list_all is_allowed cs) h in
    one_more c (cs ++ 10 ∷ rest) (no_end c p.0) (no_return c p.0) ∙ ap (with_first c) (line_then cs rest p.1)

-- ---- what a line says

said_by : (line : List ℕ) (ws : List (List ℕ)) (said : Said) → list_all is_plain line ≡ true → words line ≡ ws → words_said ws ≡ said → statement_of line ≡ said
unfolding statement_of
said_by line ws said h e is =
    let none = no_text true line h in
    rw (allowed line h, none.0, none.1) (ap words_said e ∙ is)

-- how a line begins
at_words : (behind : List ℕ) → words (codes "at " ++ behind) ≡ codes "at" ∷ words behind
unfolding words
at_words behind = refl

every_words : (behind : List ℕ) → words (codes "every " ++ behind) ≡ codes "every" ∷ words behind
unfolding words
every_words behind = refl

tick_words : words (codes " tick") ≡ codes "tick" ∷ []
unfolding words
tick_words = refl

irq_words : (behind : List ℕ) → words (codes " irq " ++ behind) ≡ codes "irq" ∷ words behind
unfolding words
irq_words behind = refl

in_words : (behind : List ℕ) → words (codes " in " ++ behind) ≡ codes "in" ∷ words behind
unfolding words
in_words behind = refl

blank_words : (behind : List ℕ) → words (codes " " ++ behind) ≡ words behind
unfolding words
blank_words behind = refl

no_words : words [] ≡ []
unfolding words
no_words = refl

last_word : (n : ℕ) → n < 2 ^ 64 → words (decimal n) ≡ decimal n ∷ []
last_word n h = ap words (sym (append-nil (decimal n))) ∙ decimal_then n [] h refl ∙ ap (λ (ws : List (List ℕ)). decimal n ∷ ws) no_words

last_plain : (n : ℕ) → n < 2 ^ 64 → list_all is_plain (decimal n) ≡ true
last_plain n h = ap (list_all is_plain) (sym (append-nil (decimal n))) ∙ plain_then n [] h refl

-- a line behind `at` and a turn
at_line : (turn : ℕ) (behind : List ℕ) (ws : List (List ℕ)) (said : Said) → turn < 1000000000 → list_all is_plain behind ≡ true → ends_word behind ≡ true → words behind ≡ ws → at_said (decimal turn ∷ ws) ≡ said →
    (list_all is_plain (codes "at " ++ (decimal turn ++ behind)) ≡ true) × (statement_of (codes "at " ++ (decimal turn ++ behind)) ≡ said)
at_line turn behind ws said soon ok ends is says =
    let h : turn < 2 ^ 64 = omega arith in
    let fine : list_all is_plain (codes "at " ++ (decimal turn ++ behind)) ≡ true = plain_then turn behind h ok in
    let pieces : words (codes "at " ++ (decimal turn ++ behind)) ≡ codes "at" ∷ decimal turn ∷ ws =
    at_words (decimal turn ++ behind) ∙ ap (λ (l : List (List ℕ)). codes "at" ∷ l) (decimal_then turn behind h ends ∙ ap (λ (l : List (List ℕ)). decimal turn ∷ l) is) in
    (fine, said_by (codes "at " ++ (decimal turn ++ behind)) (codes "at" ∷ decimal turn ∷ ws) said fine pieces says)

turn_back : (turn : ℕ) → turn < 1000000000 → turn_in (decimal turn) ≡ Some turn
turn_back turn h = number_back 0 999999999 turn (omega arith) (omega arith) (omega arith)

tick_says : (turn : ℕ) → turn < 1000000000 → at_said (decimal turn ∷ codes "tick" ∷ []) ≡ Lists turn 0 (Tick ∷ [])
tick_says turn h = ap (λ (o : Option ℕ). once o (Ok Tick)) (turn_back turn h)

irq_says : (turn line : ℕ) → turn < 1000000000 → line < 64 → at_said (decimal turn ∷ codes "irq" ∷ decimal line ∷ []) ≡ Lists turn 0 (Irq line ∷ [])
irq_says turn line h k =
    let second : line_in (decimal line) ≡ Some line = number_back 0 63 line (omega arith) (omega arith) (omega arith) in
    ap (λ (o : Option ℕ). once (turn_in (decimal turn)) (irq_on o)) second ∙ ap (λ (o : Option ℕ). once o (Ok (Irq line))) (turn_back turn h)

feed_says : (turn device byte : ℕ) → turn < 1000000000 → device < 8 → byte < 256 → at_said (decimal turn ∷ codes "in" ∷ decimal device ∷ decimal byte ∷ []) ≡ Lists turn 0 (Feed device byte ∷ [])
feed_says turn device byte h k l =
    let second : device_in (decimal device) ≡ Some device = number_back 0 7 device (omega arith) (omega arith) (omega arith) in
    let third : byte_in (decimal byte) ≡ Some byte = number_back 0 255 byte (omega arith) (omega arith) (omega arith) in
    ap (λ (o : Option ℕ). once (turn_in (decimal turn)) (feed_of o (byte_in (decimal byte)))) second
    ∙ ap (λ (o : Option ℕ). once (turn_in (decimal turn)) (feed_of (Some device) o)) third
    ∙ ap (λ (o : Option ℕ). once o (Ok (Feed device byte))) (turn_back turn h)

-- the line of an event, without the LF that ends it
abbrev unended : ℕ → Event → List ℕ
unended turn event = codes "at " ++ (decimal turn ++ (codes " " ++ event_text event))

event_said : (turn : ℕ) (event : Event) → turn < 1000000000 → HasLine event → HasDevice event → (list_all is_plain (unended turn event) ≡ true) × (statement_of (unended turn event) ≡ Lists turn 0 (event ∷ []))
event_said turn Tick soon line device = at_line turn (codes " tick") (codes "tick" ∷ []) (Lists turn 0 (Tick ∷ [])) soon refl refl tick_words (tick_says turn soon)
event_said turn (Irq own) soon line device =
    let below : own < 64 = line own refl in
    let h : own < 2 ^ 64 = omega arith in
    at_line turn (codes " irq " ++ decimal own) (codes "irq" ∷ decimal own ∷ []) (Lists turn 0 (Irq own ∷ [])) soon (last_plain own h) refl
    (irq_words (decimal own) ∙ ap (λ (l : List (List ℕ)). codes "irq" ∷ l) (last_word own h)) (irq_says turn own soon below)
event_said turn (Feed own byte) soon line device =
    let both : (own < 8) × (byte < 256) = device own byte refl in
    let h : own < 2 ^ 64 = omega (arith, both.0) in
    let k : byte < 2 ^ 64 = omega (arith, both.1) in
    let turned : codes " " ++ event_text (Feed own byte) ≡ codes " in " ++ (decimal own ++ (codes " " ++ decimal byte)) = ap (λ (l : List ℕ). codes " in " ++ l) (append_assoc (decimal own) (codes " ") (decimal byte)) in
    let is = at_line turn (codes " in " ++ (decimal own ++ (codes " " ++ decimal byte))) (codes "in" ∷ decimal own ∷ decimal byte ∷ []) (Lists turn 0 (Feed own byte ∷ [])) soon
    (plain_then own (codes " " ++ decimal byte) h (last_plain byte k)) refl
    (in_words (decimal own ++ (codes " " ++ decimal byte)) ∙ ap (λ (l : List (List ℕ)). codes "in" ∷ l)
    (decimal_then own (codes " " ++ decimal byte) h refl ∙ ap (λ (l : List (List ℕ)). decimal own ∷ l) (blank_words (decimal byte) ∙ last_word byte k)))
    (feed_says turn own byte soon both.0 both.1) in
    subst (λ (l : List ℕ). (list_all is_plain (codes "at " ++ (decimal turn ++ l)) ≡ true) × (statement_of (codes "at " ++ (decimal turn ++ l)) ≡ Lists turn 0 (Feed own byte ∷ []))) (sym turned) is

ended : (a b c rest : List ℕ) → (((a ++ b) ++ c) ++ (10 ∷ [])) ++ rest ≡ (a ++ (b ++ c)) ++ 10 ∷ rest
ended a b c rest = append_assoc ((a ++ b) ++ c) (10 ∷ []) rest ∙ ap (λ (l : List ℕ). l ++ 10 ∷ rest) (append_assoc a b c)

line_is : (turn : ℕ) (event : Event) (rest : List ℕ) → event_line (turn, event) ++ rest ≡ unended turn event ++ 10 ∷ rest
unfolding event_line
line_is turn event rest = simp append_assoc

-- the line of a period, without the LF that ends it
abbrev unended_period : ℕ → List ℕ
unended_period period = codes "every " ++ (decimal period ++ codes " tick")

period_said_back : (period : ℕ) → IsPeriod period → (list_all is_plain (unended_period period) ≡ true) × (statement_of (unended_period period) ≡ Every period)
period_said_back period p =
    let h : period < 2 ^ 64 = omega (arith, p.most) in
    let fine : list_all is_plain (unended_period period) ≡ true = plain_then period (codes " tick") h refl in
    let pieces : words (unended_period period) ≡ codes "every" ∷ decimal period ∷ codes "tick" ∷ [] =
    every_words (decimal period ++ codes " tick") ∙ ap (λ (l : List (List ℕ)). codes "every" ∷ l) (decimal_then period (codes " tick") h refl ∙ ap (λ (l : List (List ℕ)). decimal period ∷ l) tick_words) in
    let is : period_in (decimal period) ≡ Some period = number_back 1 1000000000 period (omega (arith, p.some)) p.most (omega arith) in
    (fine, said_by (unended_period period) (codes "every" ∷ decimal period ∷ codes "tick" ∷ []) (Every period) fine pieces (ap period_said is))

period_is : (period : ℕ) (rest : List ℕ) → period_line (Some period) ++ rest ≡ unended_period period ++ 10 ∷ rest
period_is period rest = simp append_assoc

-- ---- an event more

no_above : (turn n : ℕ) → n ≤ turn → nat_lt turn n ≡ false
no_above turn n h = grind (arith, nat_tests)

at_the_end : (turn : ℕ) (event : Event) (front : List Listed) → ((k : ℕ) (d : Listed) → k < length front → (get_or front k d).0 ≤ turn) → inserted turn event front ≡ front ++ (turn, event) ∷ []
at_the_end turn event front before =
    sym (inserted_is turn (length front) event front (omega arith) before (λ k d a lt. absurd (omega (arith, a, lt))))
    ∙ ap (λ (l : List Listed). l ++ (turn, event) ∷ drop (length front) front) (take_all (length front) front (omega arith))
    ∙ ap (λ (l : List Listed). front ++ (turn, event) ∷ l) (drop_all (length front) front (omega arith))

own_turn : (turn : ℕ) → (turn == turn) ≡ true
own_turn turn = grind (arith, nat_tests)

one_of_it : (turn : ℕ) (event : Event) (rest : List Listed) → count_by (is_of turn) ((turn, event) ∷ rest) ≡ 1 + count_by (is_of turn) rest
one_of_it turn event rest = sum_by-cons (λ (d : Listed). if is_of turn d then 1 else 0) (turn, event) rest ∙ ap (λ (b : Bool). (if b then 1 else 0) + count_by (is_of turn) rest) (own_turn turn)

has_room : (size n : ℕ) → size < 65536 → n < 8 → (nat_le 65536 size || nat_le 8 n) ≡ false
has_room size n h k = grind arith

module _ (every : Option ℕ) (front : List Listed) (turn : ℕ) (event : Event) (rest : List Listed) where
  before : Facts (record { every = every; events = front ++ (turn, event) ∷ rest }) → (k : ℕ) (d : Listed) → k < length front → (get_or front k d).0 ≤ turn
  before f k d lt =
      let long : length (front ++ (turn, event) ∷ rest) ≡ length front + length ((turn, event) ∷ rest) = length-append front ((turn, event) ∷ rest) in
      let order = f.ascending k (length front) d (omega arith) (omega (arith, long)) in
      let own = get_or_append_left front ((turn, event) ∷ rest) d k lt in
      let here = get_or_at front (turn, event) rest d (length front) refl in
      subst (λ (z : Listed). z.0 ≤ turn) own (subst (λ (z : Listed). (get_or (front ++ (turn, event) ∷ rest) k d).0 ≤ z.0) here order)

  room : Facts (record { every = every; events = front ++ (turn, event) ∷ rest }) → is_full front turn ≡ false
  room f =
      let long : length (front ++ (turn, event) ∷ rest) ≡ length front + length ((turn, event) ∷ rest) = length-append front ((turn, event) ∷ rest) in
      let all : count_by (is_of turn) (front ++ (turn, event) ∷ rest) ≡ count_by (is_of turn) front + count_by (is_of turn) ((turn, event) ∷ rest) = sum_by-append (λ (d : Listed). if is_of turn d then 1 else 0) front ((turn, event) ∷ rest) in
      has_room (length front) (count_by (is_of turn) front) (omega (arith, long, f.most)) (omega (arith, all, one_of_it turn event rest, f.most_each turn))

  added : Facts (record { every = every; events = front ++ (turn, event) ∷ rest }) → with_listed (record { every = every; events = front }) turn event ≡ Ok (record { every = every; events = front ++ (turn, event) ∷ [] })
  added f = rw (room f) (ap (λ (l : List Listed). Ok (record { every = every; events = l })) (at_the_end turn event front (before f)))

  -- the line of that event, where it is none too early
  taken : (from : ℕ) → from ≤ turn → Facts (record { every = every; events = front ++ (turn, event) ∷ rest }) →
      with_statement (reading from (record { every = every; events = front })) (Lists turn 0 (event ∷ [])) ≡ Ok (reading turn (record { every = every; events = front ++ (turn, event) ∷ [] }))
  taken from le f =
      let now : nat_lt turn from ≡ false = no_above turn from le in
      let script : ScriptData = record { every = every; events = front } in
      let next : ScriptData = record { every = every; events = front ++ (turn, event) ∷ [] } in
      let series : with_series script turn 0 (event ∷ []) ≡ Ok next = each_on script next turn 0 event [] (event ∷ []) refl (added f) ∙ series_end next (turn + 0) 0 in
      rw (now, series) refl

  later : Facts (record { every = every; events = front ++ (turn, event) ∷ rest }) → (k : ℕ) (d : Listed) → k < length rest → turn ≤ (get_or rest k d).0
  later f k d lt =
      let long : length (front ++ (turn, event) ∷ rest) ≡ length front + length ((turn, event) ∷ rest) = length-append front ((turn, event) ∷ rest) in
      let order = f.ascending (length front) (length front + suc k) d (omega arith) (omega (arith, long, lt)) in
      let here = get_or_at front (turn, event) rest d (length front) refl in
      let there = get_or-append-add front ((turn, event) ∷ rest) (suc k) d in
      subst (λ (z : Listed). turn ≤ z.0) there (subst (λ (z : Listed). z.0 ≤ (get_or (front ++ (turn, event) ∷ rest) (length front + suc k) d).0) here order)

  listed_here : Facts (record { every = every; events = front ++ (turn, event) ∷ rest }) → IsListed (turn, event)
  listed_here f =
      let long : length (front ++ (turn, event) ∷ rest) ≡ length front + length ((turn, event) ∷ rest) = length-append front ((turn, event) ∷ rest) in
      let here = get_or_at front (turn, event) rest (turn, event) (length front) refl in
      subst IsListed here (f.listed (length front) (turn, event) (omega (arith, long)))

-- the events that are left are read behind those before
rest_read : (every : Option ℕ) (rest front : List Listed) (from number : ℕ) → ((k : ℕ) (d : Listed) → k < length rest → from ≤ (get_or rest k d).0) → Facts (record { every = every; events = front ++ rest }) →
    with_lines (reading from (record { every = every; events = front })) number (lines_of (flat_map event_line rest)) ≡ Ok (record { every = every; events = front ++ rest })
rest_read every [] front from number due f =
    ap (with_lines (reading from (record { every = every; events = front })) number) no_line_left ∙ no_line (reading from (record { every = every; events = front })) number
    ∙ ap (λ (l : List Listed). Ok (record { every = every; events = l })) (sym (append-nil front))
rest_read every (y ∷ rest) front from number due f =
    let known : IsListed (y.0, y.1) = listed_here every front y.0 y.1 rest f in
    let line = unended y.0 y.1 in
    let before : Reading = reading from (record { every = every; events = front }) in
    let next : Reading = reading y.0 (record { every = every; events = front ++ y ∷ [] }) in
    let said = event_said y.0 y.1 known.turn known.line known.device in
    let turned : (front ++ y ∷ []) ++ rest ≡ front ++ y ∷ rest = append_assoc front (y ∷ []) rest in
    let cut : lines_of (flat_map event_line (y ∷ rest)) ≡ line ∷ lines_of (flat_map event_line rest) =
    ap lines_of (line_is y.0 y.1 (flat_map event_line rest)) ∙ line_then line (flat_map event_line rest) (allowed line said.0) in
    let step : with_statement before (statement_of line) ≡ Ok next =
    ap (with_statement before) said.1 ∙ taken every front y.0 y.1 rest from (due 0 y (omega arith)) f in
    let more = rest_read every rest (front ++ y ∷ []) y.0 (number + 1) (later every front y.0 y.1 rest f) (subst (λ (l : List Listed). Facts (record { every = every; events = l })) (sym turned) f) in
    goes_on before next number line (lines_of (flat_map event_line rest)) (lines_of (flat_map event_line (y ∷ rest))) cut step
    ∙ more ∙ ap (λ (l : List Listed). Ok (record { every = every; events = l })) turned

whole : (every : Option ℕ) (events : List Listed) → Facts (record { every = every; events = events }) → script_or_fault (period_line every ++ flat_map event_line events) ≡ Ok (record { every = every; events = events })
whole None events f = rest_read None events [] 0 1 (λ k d lt. omega arith) f
whole (Some period) events f =
    let next : Reading = reading 0 (record { every = Some period; events = [] }) in
    let line = unended_period period in
    let text = flat_map event_line events in
    let said = period_said_back period (f.every period refl) in
    let cut : lines_of (period_line (Some period) ++ text) ≡ line ∷ lines_of text = ap lines_of (period_is period text) ∙ line_then line text (allowed line said.0) in
    let step : with_statement (reading 0 no_script) (statement_of line) ≡ Ok next = ap (with_statement (reading 0 no_script)) said.1 in
    goes_on (reading 0 no_script) next 1 line (lines_of text) (lines_of (period_line (Some period) ++ text)) cut step ∙ rest_read (Some period) events [] 0 2 (λ k d lt. omega arith) f

pub text_read : (script : ScriptData) → Facts script → script_or_fault (script_text script) ≡ Ok script
unfolding script_text
text_read script f = whole script.every script.events f
