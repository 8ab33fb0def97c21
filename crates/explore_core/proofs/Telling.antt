-- The text of an answer, item by item, and that it is the answer.
use Rattle.std.proofs.Common.{◌≡◌, ◌∙◌, ℕ, zero, suc, ◌+◌, ◌-◌, ◌*◌, ◌/◌, ◌%◌, ◌<◌, ◌≤◌, Bool, true, false, List, [], ◌∷◌, ◌++◌, length, map, drop, subst, get_or, slice_index_or, sum_by, Option, Some, None, refl, sym, ap, append_assoc, arith, mul-pos}
use Rattle.std.specs.Prelude.{Contains, IfSome, codes, cond, decimal, find, if◌then◌else◌, is_some, slice_get, unwrap_or}
use Rattle.std.specs.List.{All, AllZip, flat_map, range_with_len}
use Rattle.std.specs.Option.{option_map, option_or}
use Rattle.std.proofs.Math.Nat.{mul-div_cancel_left}
use Rattle.std.proofs.lemmas.List.{drop_all, drop_more, length-append, length-map}
use Rattle.std.proofs.lemmas.List.Elements.{All-head, All-tail}
use Rattle.std.proofs.lemmas.List.FromFn.{length-range_with_len}
use Rattle.std.proofs.lemmas.List.Sorted.{Contains-permutation}
use Rattle.std.proofs.lemmas.List.Sums.{sum_by-cons}
use Rattle.std.proofs.lemmas.Option.{slice_get_within, unwrap_or-slice_get}
use Rattle.std.proofs.lemmas.Slice.Zip.{AllZip-long}
use Rattle.run_script.specs.declared.events.Event.{Event}
use Rattle.run_script.specs.declared.events.Event.TheVariants.{Tick}
use Rattle.run_script.specs.Scripts.{Listed, ScriptData}
use Rattle.run_script.specs.Events.{script_data}
use Rattle.run_script.specs.Texts.{event_line}
use Rattle.run_question.specs.declared.asked.Property.{Property}
use Rattle.run_question.specs.Questions.{Question, Stated, question_data, stated_data}
use Rattle.run_question.specs.Reading.{choice_count, once_if, schedule_count, way_count}
use Rattle.explore_core.specs.declared.found.Answer.{Answer}
use Rattle.explore_core.specs.declared.found.Answer.TheVariants.{Broken, Holds, Unasked}
use Rattle.explore_core.specs.declared.found.Found.{Found}
use Rattle.explore_core.specs.declared.given.Given.{Given}
use Rattle.explore_core.specs.declared.ways.Way.{Way}
use Rattle.explore_core.specs.Answers.{Asking, answer_to, breaks_in, broken_line, byte_word, byte_words, explored_text, first_broken, first_of_all, in_order, is_any_broken, kept_line, schedule_words, schedules_line, script_or_nothing, way_word}
use Rattle.explore_core.specs.Exploring.{AreScripts}
use Rattle.explore_core.specs.Fine.{IsFineArrival, IsFineOffer}
use Rattle.explore_core.specs.Found.{IsAnswer, IsAnswered, IsFirst}
use Rattle.explore_core.specs.Schedules.{Arrival, Coming, Offer, Schedule, all_comings, choices, comings, events_of_schedule, events_of_way, how_many, schedules, ways}
use Rattle.explore_core.specs.Telling.{AreLaid, answer_line, answer_lines, first_ways, found_script, found_text, ways_of}
use Rattle.explore_core.specs.Ways.{chosen, coming_of, schedule_by, schedule_in, way_at}
use Rattle.explore_core.proofs.Chosen.{choices_long, some_of_offers}
use Rattle.explore_core.proofs.EachOnce.{each_once}

-- ## one item more

pub item : {X : Type 0} (xs : List X) (i : ℕ) (x : X) → i < length xs → x ≡ get_or xs i x → drop i xs ≡ x ∷ drop (i + 1) xs
item xs i x lt e = drop_more xs i x lt ∙ ap (λ y. y ∷ drop (i + 1) xs) (sym e)

pub mapped_item : {X Y : Type 0} (f : X → Y) (xs : List X) (i : ℕ) (x : X) → i < length xs → x ≡ get_or xs i x → map f (drop i xs) ≡ f x ∷ map f (drop (i + 1) xs)
mapped_item {X} {Y} f xs i x lt e = ap (λ (l : List X). map f l) (item xs i x lt e)

pub none_mapped : {X Y : Type 0} (f : X → Y) (xs : List X) (i : ℕ) → length xs ≤ i → map f (drop i xs) ≡ []
none_mapped {X} {Y} f xs i le = ap (λ (l : List X). map f l) (drop_all i xs le)

-- ## choices

one_choice : (o : Offer) (offers : List Offer) → choice_count (o ∷ offers) ≡ length o.events * choice_count offers
unfolding choice_count
one_choice o offers = refl

-- the choices of the offers behind one
pub behind_one : (now : List Offer) (n len : ℕ) (o : Offer) (rest : List Offer) → now ≡ o ∷ rest → All IsFineOffer now → len ≡ length o.events → n ≡ choice_count now → n / len ≡ choice_count rest
behind_one now n len o rest e fine long is =
    let here : All IsFineOffer (o ∷ rest) = subst (All IsFineOffer) e fine in
    let some : 0 < length o.events = (All-head IsFineOffer o rest here).some in
    let whole : n ≡ length o.events * choice_count rest = is ∙ ap choice_count e ∙ one_choice o rest in
    ap (λ k. n / k) long ∙ ap (λ k. k / length o.events) whole ∙ mul-div_cancel_left (choice_count rest) some

pub fine_here : (now : List Offer) (o : Offer) (rest : List Offer) → now ≡ o ∷ rest → All IsFineOffer now → 0 < length o.events
fine_here now o rest e fine = (All-head IsFineOffer o rest (subst (All IsFineOffer) e fine)).some

pub fine_behind : (now : List Offer) (o : Offer) (rest : List Offer) → now ≡ o ∷ rest → All IsFineOffer now → All IsFineOffer rest
fine_behind now o rest e fine = All-tail IsFineOffer o rest (subst (All IsFineOffer) e fine)

pub some_behind : (n : ℕ) (rest : List Offer) → n ≡ choice_count rest → All IsFineOffer rest → 0 < n
some_behind n rest is fine = subst (λ k. 0 < k) (sym is) (some_of_offers rest fine)

no_bytes : (k : ℕ) → byte_words [] (chosen [] k) ≡ []
unfolding byte_words
no_bytes k = refl

one_byte : (o : Offer) (rest : List Offer) (k : ℕ) →
    byte_words (o ∷ rest) (chosen (o ∷ rest) k) ≡ byte_word o (slice_index_or o.events (k / choice_count rest % length o.events) Tick) ++ byte_words rest (chosen rest k)
unfolding byte_words
one_byte o rest k = refl

pub byte_more : (now : List Offer) (o : Offer) (rest : List Offer) (k n : ℕ) (e : Event) → now ≡ o ∷ rest → n ≡ choice_count rest → e ≡ slice_index_or o.events (k / n % length o.events) Tick →
    byte_words now (chosen now k) ≡ byte_word o e ++ byte_words rest (chosen rest k)
byte_more now o rest k n e is count event =
    let same : e ≡ slice_index_or o.events (k / choice_count rest % length o.events) Tick = event ∙ ap (λ m. slice_index_or o.events (k / m % length o.events) Tick) count in
    ap (λ (l : List Offer). byte_words l (chosen l k)) is ∙ one_byte o rest k ∙ ap (λ (x : Event). byte_word o x ++ byte_words rest (chosen rest k)) (sym same)

pub bytes_end : (now : List Offer) (k : ℕ) → now ≡ [] → byte_words now (chosen now k) ≡ []
bytes_end now k e = ap (λ (l : List Offer). byte_words l (chosen l k)) e ∙ no_bytes k

-- ## ways

no_way : (place : ℕ) (ws : List (Option Way)) → schedule_words [] (schedule_by place [] ws) ≡ []
unfolding schedule_words
no_way place ws = refl

one_way : (a : Arrival) (rest : List Arrival) (place : ℕ) (ws : List (Option Way)) →
    schedule_words (a ∷ rest) (schedule_by place (a ∷ rest) ws) ≡ way_word a (option_map (coming_of a) (way_at ws place)) ++ schedule_words rest (schedule_by (place + 1) rest ws)
unfolding schedule_words
one_way a rest place ws = refl

pub way_more : (now : List Arrival) (a : Arrival) (rest : List Arrival) (place : ℕ) (ws : List (Option Way)) (w : Option Way) → now ≡ a ∷ rest → w ≡ way_at ws place →
    schedule_words now (schedule_by place now ws) ≡ way_word a (option_map (coming_of a) w) ++ schedule_words rest (schedule_by (place + 1) rest ws)
way_more now a rest place ws w is e =
    ap (λ (l : List Arrival). schedule_words l (schedule_by place l ws)) is ∙ one_way a rest place ws
    ∙ ap (λ (x : Option Way). way_word a (option_map (coming_of a) x) ++ schedule_words rest (schedule_by (place + 1) rest ws)) (sym e)

pub ways_end : (now : List Arrival) (place : ℕ) (ws : List (Option Way)) → now ≡ [] → schedule_words now (schedule_by place now ws) ≡ []
ways_end now place ws e = ap (λ (l : List Arrival). schedule_words l (schedule_by place l ws)) e ∙ no_way place ws

pub fine_arrival : (now : List Arrival) (a : Arrival) (rest : List Arrival) → now ≡ a ∷ rest → All IsFineArrival now → IsFineArrival a
fine_arrival now a rest e fine = All-head IsFineArrival a rest (subst (All IsFineArrival) e fine)

pub fine_arrivals : (now : List Arrival) (a : Arrival) (rest : List Arrival) → now ≡ a ∷ rest → All IsFineArrival now → All IsFineArrival rest
fine_arrivals now a rest e fine = All-tail IsFineArrival a rest (subst (All IsFineArrival) e fine)

-- ## how many

no_schedule : schedule_count [] ≡ 1
unfolding schedule_count
no_schedule = refl

one_arrival : (a : Arrival) (arrivals : List Arrival) → schedule_count (a ∷ arrivals) ≡ way_count a * schedule_count arrivals
unfolding schedule_count
one_arrival a arrivals = refl

some_way : (a : Arrival) → IsFineArrival a → 0 < way_count a
some_way a fine =
    let span : 0 < a.below - a.first = omega (arith, fine.range) in
    let some : 0 < (a.below - a.first) * choice_count a.offers = mul-pos span (some_of_offers a.offers fine.offers) in
    omega (arith, some)

some_schedule : (arrivals : List Arrival) → All IsFineArrival arrivals → 0 < schedule_count arrivals
some_schedule [] fine = subst (λ n. 0 < n) (sym no_schedule) (omega arith)
some_schedule (a ∷ rest) fine =
    subst (λ n. 0 < n) (sym (one_arrival a rest))
    (mul-pos (some_way a (All-head IsFineArrival a rest fine)) (some_schedule rest (All-tail IsFineArrival a rest fine)))

at_least : (n k : ℕ) → 0 < k → n ≤ n * k
at_least n zero some = absurd (omega (arith, some))
at_least n (suc k) some = omega arith

pub count_more : (total count n : ℕ) (now : List Arrival) (a : Arrival) (rest : List Arrival) → now ≡ a ∷ rest → n ≡ way_count a → total ≡ count * schedule_count now → total ≡ count * n * schedule_count rest
count_more total count n now a rest e is whole =
    let step : schedule_count now ≡ n * schedule_count rest = ap schedule_count e ∙ one_arrival a rest ∙ ap (λ k. k * schedule_count rest) (sym is) in
    let cut : count * (n * schedule_count rest) ≡ count * n * schedule_count rest = omega arith in
    whole ∙ ap (λ k. count * k) step ∙ cut

pub count_fits : (total count n : ℕ) (now : List Arrival) (a : Arrival) (rest : List Arrival) → now ≡ a ∷ rest → All IsFineArrival now → n ≡ way_count a → total ≡ count * schedule_count now → count * n ≤ total
count_fits total count n now a rest e fine is whole =
    let more = count_more total count n now a rest e is whole in
    let some = some_schedule rest (fine_arrivals now a rest e fine) in
    let most = at_least (count * n) (schedule_count rest) some in
    omega (arith, more, most)

pub way_fits : (total count : ℕ) (now : List Arrival) (a : Arrival) (rest : List Arrival) → now ≡ a ∷ rest → All IsFineArrival now → 0 < count → total ≡ count * schedule_count now → way_count a ≤ total
way_fits total count now a rest e fine some whole =
    let fits = count_fits total count (way_count a) now a rest e fine refl whole in
    let more = at_least (way_count a) count some in
    let turned : way_count a * count ≡ count * way_count a = omega arith in
    omega (arith, fits, more, turned)

pub count_some : (count n : ℕ) (now : List Arrival) (a : Arrival) (rest : List Arrival) → now ≡ a ∷ rest → All IsFineArrival now → n ≡ way_count a → 0 < count → 0 < count * n
count_some count n now a rest e fine is some = mul-pos some (subst (λ k. 0 < k) (sym is) (some_way a (fine_arrival now a rest e fine)))

times_one : (n : ℕ) → n * 1 ≡ n
times_one n = omega arith

abbrev in_turn : ℕ → List Listed → Coming
in_turn turn events = record { turn = turn; events = events }

turns_long : (a : Arrival) (turns : List ℕ) → length (flat_map (comings a) turns) ≡ length turns * choice_count a.offers
turns_long a [] = grind (arith)
turns_long a (turn ∷ turns) =
    let here = comings a turn in
    let cut = length-append here (flat_map (comings a) turns) in
    let one : length here ≡ choice_count a.offers = length-map (choices a.offers) (λ (events : List Listed). in_turn turn events) ∙ choices_long a.offers in
    let more = turns_long a turns in
    grind (arith, cut, one, more)

once_long : (b : Bool) (l : List (Option Coming)) → length ((if b then None ∷ [] else []) ++ l) ≡ once_if b + length l
once_long true l = grind (arith)
once_long false l = grind (arith)

ways_long : (a : Arrival) → length (ways a) ≡ way_count a
ways_long a =
    let turns = range_with_len a.first (a.below - a.first) in
    let mapped : length (map (λ (c : Coming). Some c) (all_comings a)) ≡ length (all_comings a) = length-map (all_comings a) (λ (c : Coming). Some c) in
    let each : length (all_comings a) ≡ length turns * choice_count a.offers = turns_long a turns in
    let range : length turns ≡ a.below - a.first = length-range_with_len a.first (a.below - a.first) in
    let all : length (all_comings a) ≡ (a.below - a.first) * choice_count a.offers = each ∙ ap (λ n. n * choice_count a.offers) range in
    let first = once_long a.may_fail (map (λ (c : Coming). Some c) (all_comings a)) in
    omega (arith, first, mapped, all)

schedules_long : (arrivals : List Arrival) → how_many arrivals ≡ schedule_count arrivals
unfolding how_many schedule_count
schedules_long [] = refl
schedules_long (a ∷ rest) = ap (λ n. n * how_many rest) (ways_long a) ∙ ap (λ n. way_count a * n) (schedules_long rest)

pub count_end : (all : List Arrival) (count : ℕ) (now : List Arrival) → now ≡ [] → schedule_count all ≡ count * schedule_count now → count ≡ how_many all
count_end all count now e whole =
    let one : schedule_count now ≡ 1 = ap schedule_count e ∙ no_schedule in
    let same : count * schedule_count now ≡ count = ap (λ n. count * n) one ∙ times_one count in
    sym (whole ∙ same) ∙ sym (schedules_long all)

-- ## events

pub event_more : (events : List Listed) (i : ℕ) (d : Listed) (line : List ℕ) → Some d ≡ slice_get events i → line ≡ event_line d → flat_map event_line (drop i events) ≡ line ++ flat_map event_line (drop (i + 1) events)
event_more events i d line e same =
    let lt : i < length events = slice_get_within events i d (sym e) in
    let is : get_or events i d ≡ d = sym (unwrap_or-slice_get events i d) ∙ ap (λ (o : Option Listed). unwrap_or o d) (sym e) in
    ap (λ (l : List Listed). flat_map event_line l) (drop_more events i d lt)
    ∙ ap (λ (y : Listed). event_line y ++ flat_map event_line (drop (i + 1) events)) is
    ∙ ap (λ (l : List ℕ). l ++ flat_map event_line (drop (i + 1) events)) (sym same)

pub events_end : (events : List Listed) (i : ℕ) → length events ≤ i → flat_map event_line (drop i events) ≡ []
events_end events i le = ap (λ (l : List Listed). flat_map event_line l) (drop_all i events le)

pub one_there : {X : Type 0} (xs : List X) (i : ℕ) (o : Option X) → i < length xs → o ≡ slice_get xs i → ((x : X) → o ≡ Some x → ⊥) → ⊥
one_there [] i o lt e none = absurd (omega (arith, lt))
one_there (x ∷ xs) zero o lt e none = none x e
one_there (x ∷ xs) (suc i) o lt e none = one_there xs i o (omega (arith, lt)) e none

-- ## lines

pub line_more : (arrivals : List Arrival) (now : List Stated) (p : Stated) (rest : List Stated) (answers : List Answer) (answer : Answer) (others : List Answer) (words : List ℕ) → now ≡ p ∷ rest → answers ≡ answer ∷ others → words ≡ p.words →
    answer_lines arrivals now answers ≡ answer_line arrivals words answer ++ answer_lines arrivals rest others
line_more arrivals now p rest answers answer others words e f same =
    ap (λ (l : List Stated). answer_lines arrivals l answers) e
    ∙ ap (λ (l : List Answer). answer_lines arrivals (p ∷ rest) l) f
    ∙ ap (λ (w : List ℕ). answer_line arrivals w answer ++ answer_lines arrivals rest others) (sym same)

parts : (b w t d c r n : List ℕ) → b ++ w ++ t ++ d ++ c ++ r ++ n ≡ b ++ (w ++ ((t ++ (d ++ c)) ++ (r ++ n)))
parts b w t d c r n =
    let front = b ++ w in
    let middle = t ++ (d ++ c) in
    ap (λ (l : List ℕ). (l ++ r) ++ n) (append_assoc (front ++ t) d c ∙ append_assoc front t (d ++ c))
    ∙ append_assoc (front ++ middle) r n
    ∙ append_assoc front middle (r ++ n)
    ∙ append_assoc b w (middle ++ (r ++ n))

pub broken_is : (words arrivals : List ℕ) (turn : ℕ) → broken_line words turn arrivals ≡ codes "# broken " ++ (words ++ ((codes "; turn " ++ (decimal turn ++ codes ", arrivals")) ++ (arrivals ++ codes "\n")))
unfolding broken_line
broken_is words arrivals turn = parts (codes "# broken ") words (codes "; turn ") (decimal turn) (codes ", arrivals") arrivals (codes "\n")

-- ## what was found is the answer

answered_line : (a : Asking) (p : Stated) (answer : Answer) → IsAnswer a p.property answer → answer_to a p (first_broken a p.property) ≡ answer_line a.question.arrivals p.words answer
answered_line a p Holds is = rw (is.0) (ap (λ (b : Bool). kept_line b p.words) is.1)
answered_line a p Unasked is = rw (is.0) (ap (λ (b : Bool). kept_line b p.words) is.1)
answered_line a p (Broken found) is = rw (is.first) rw (is.turn) refl

abbrev Answers : Asking → List Stated → List Answer → Type 0
Answers a ps answers = AllZip (λ p answer. IsAnswer a p.property answer) ps answers

answered_lines : (a : Asking) (ps : List Stated) (answers : List Answer) → Answers a ps answers → flat_map (λ p. answer_to a p (first_broken a p.property)) ps ≡ answer_lines a.question.arrivals ps answers
answered_lines a [] [] all = refl
answered_lines a [] (answer ∷ answers) all = absurd all
answered_lines a (p ∷ ps) [] all = absurd all
answered_lines a (p ∷ ps) (answer ∷ answers) all =
    ap (λ (w : List ℕ). w ++ flat_map (λ p. answer_to a p (first_broken a p.property)) ps) (answered_line a p answer all.0)
    ∙ ap (λ (w : List ℕ). answer_line a.question.arrivals p.words answer ++ w) (answered_lines a ps answers all.1)

first_by : (a : Asking) (p : Stated) (answer : Answer) → IsAnswer a p.property answer → first_broken a p.property ≡ option_map (schedule_in a.question.arrivals) (ways_of answer)
first_by a p Holds is = is.0
first_by a p Unasked is = is.0
first_by a p (Broken found) is = is.first

or_mapped : {X Y : Type 0} (f : X → Y) (one other : Option X) → option_or (option_map f one) (option_map f other) ≡ option_map f (option_or one other)
or_mapped f None other = refl
or_mapped f (Some x) other = refl

answered_first : (a : Asking) (ps : List Stated) (answers : List Answer) → Answers a ps answers → first_of_all a ps ≡ option_map (schedule_in a.question.arrivals) (first_ways answers)
unfolding first_of_all
answered_first a [] [] all = refl
answered_first a [] (answer ∷ answers) all = absurd all
answered_first a (p ∷ ps) [] all = absurd all
answered_first a (p ∷ ps) (answer ∷ answers) all =
    ap (λ (s : Option Schedule). option_or s (first_of_all a ps)) (first_by a p answer all.0)
    ∙ ap (λ (s : Option Schedule). option_or (option_map (schedule_in a.question.arrivals) (ways_of answer)) s) (answered_first a ps answers all.1)
    ∙ or_mapped (schedule_in a.question.arrivals) (ways_of answer) (first_ways answers)

answered_script : (a : Asking) (ways : Option (List (Option Way))) → script_or_nothing a (option_map (schedule_in a.question.arrivals) ways) ≡ found_script a.scenario.script a.question.arrivals ways
answered_script a None = refl
answered_script a (Some ways) = refl

whole_text : (a : Asking) (answers : List Answer) → Answers a a.question.properties answers → explored_text a ≡ found_text a.scenario.script a.question answers
unfolding explored_text
whole_text a answers all =
    let lines = answered_lines a a.question.properties answers all in
    let first = answered_first a a.question.properties answers all in
    let count = schedules_line (how_many a.question.arrivals) in
    append_assoc count (flat_map (λ p. answer_to a p (first_broken a p.property)) a.question.properties) (script_or_nothing a (first_of_all a a.question.properties))
    ∙ ap (λ (w : List ℕ). count ++ (w ++ script_or_nothing a (first_of_all a a.question.properties))) lines
    ∙ ap (λ (s : Option Schedule). count ++ (answer_lines a.question.arrivals a.question.properties answers ++ script_or_nothing a s)) first
    ∙ ap (λ (w : List ℕ). count ++ (answer_lines a.question.arrivals a.question.properties answers ++ w)) (answered_script a (first_ways answers))

pub is_answer : (a : Asking) (g : Given) (answers : List Answer) → IsAnswered a g answers → found_text (script_data g.script) (question_data g.question) answers ≡ explored_text a
is_answer a g answers is =
    ap (λ (s : ScriptData). found_text s (question_data g.question) answers) is.given.script
    ∙ ap (λ (q : Question). found_text a.scenario.script q answers) is.given.question
    ∙ sym (whole_text a answers is.each)

some_mapped : {X Y : Type 0} (f : X → Y) (one : Option X) → is_some (option_map f one) ≡ is_some one
some_mapped f None = refl
some_mapped f (Some x) = refl

pub is_broken : (a : Asking) (g : Given) (answers : List Answer) → IsAnswered a g answers → is_some (first_ways answers) ≡ is_any_broken a
is_broken a g answers is =
    sym (ap is_some (answered_first a a.question.properties answers is.each) ∙ some_mapped (schedule_in a.question.arrivals) (first_ways answers))

-- ## the ways that were found make a script

found_among : {X : Type 0} (q : X → Bool) (xs : List X) (x : X) → find q xs ≡ Some x → Contains xs x
found_among q [] x e = absurd (cc)
found_among {X} q (y ∷ ys) x e = go (q y) e (found_among q ys x)
  where
    go : (b : Bool) → cond b (Some y) (find q ys) ≡ Some x → (find q ys ≡ Some x → Contains ys x) → Contains (y ∷ ys) x
    go true h more =
        let is : y ≡ x = cc in
        (0, omega arith, is)
    go false h more =
        let r = more h in
        (suc r.0, omega (arith, r.1), r.2)

first_laid : (a : Asking) (p : Property) (found : Found) → AreScripts a → IsFirst a p found → AreLaid a.scenario.script a.question.arrivals found.ways
first_laid a p found scripts is =
    let schedule = schedule_in a.question.arrivals found.ways in
    let among = found_among (λ (s : Schedule). is_some (breaks_in a p s)) (in_order a) schedule is.first in
    record {
      each = is.ways;
      listed = scripts schedule (Contains-permutation (in_order a) (schedules a.question.arrivals) schedule (each_once a.question.arrivals) among);
    }

all_laid : (a : Asking) (ps : List Stated) (answers : List Answer) → AreScripts a → Answers a ps answers → IfSome (first_ways answers) (AreLaid a.scenario.script a.question.arrivals)
all_laid a ps [] scripts all = tt
all_laid a [] (answer ∷ answers) scripts all = absurd all
all_laid a (p ∷ ps) (Holds ∷ answers) scripts all = all_laid a ps answers scripts all.1
all_laid a (p ∷ ps) (Unasked ∷ answers) scripts all = all_laid a ps answers scripts all.1
all_laid a (p ∷ ps) (Broken found ∷ answers) scripts all = first_laid a p.property found scripts all.0

pub laid_so : (a : Asking) (g : Given) (answers : List Answer) → IsAnswered a g answers → AreScripts a → IfSome (first_ways answers) (AreLaid (script_data g.script) (question_data g.question).arrivals)
laid_so a g answers is scripts =
    subst (λ (s : ScriptData). IfSome (first_ways answers) (AreLaid s (question_data g.question).arrivals)) (sym is.given.script)
    (subst (λ (q : Question). IfSome (first_ways answers) (AreLaid a.scenario.script q.arrivals)) (sym is.given.question)
    (all_laid a a.question.properties answers scripts is.each))

pub each_has_one : (a : Asking) (g : Given) (answers : List Answer) → IsAnswered a g answers → length answers ≡ length g.question.properties.items
each_has_one a g answers is =
    let long = AllZip-long (λ (p : Stated) (answer : Answer). IsAnswer a p.property answer) a.question.properties answers is.each in
    long ∙ sym (ap (λ (q : Question). length q.properties) is.given.question) ∙ length-map g.question.properties.items stated_data

-- ## room

chosen_long : (offers : List Offer) (k : ℕ) → length (chosen offers k) ≡ length offers
chosen_long [] k = refl
chosen_long (o ∷ rest) k =
    let more = chosen_long rest k in
    grind (arith, more)

way_long : (a : Arrival) (w : Option Way) → length (events_of_way (option_map (coming_of a) w)) ≤ length a.offers
way_long a None = omega arith
way_long a (Some w) =
    let long = length-map {B = Listed} (chosen a.offers w.choice) (λ (d : Listed). (w.turn + d.0, d.1)) in
    let same = chosen_long a.offers w.choice in
    omega (arith, long, same)

pub schedule_long : (arrivals : List Arrival) (place : ℕ) (ws : List (Option Way)) → length (events_of_schedule (schedule_by place arrivals ws)) ≤ sum_by (λ a. length a.offers) arrivals
schedule_long [] place ws = omega arith
schedule_long (a ∷ rest) place ws =
    let here = events_of_way (option_map (coming_of a) (way_at ws place)) in
    let others = events_of_schedule (schedule_by (place + 1) rest ws) in
    let cut : length (events_of_schedule (schedule_by place (a ∷ rest) ws)) ≡ length here + length others = length-append here others in
    let one = way_long a (way_at ws place) in
    let more = schedule_long rest (place + 1) ws in
    let all = sum_by-cons (λ (a : Arrival). length a.offers) a rest in
    omega (arith, cut, one, more, all)
