-- A way of an arrival is gone through, and the search is back.
use Rattle.std.proofs.Common.{◌≡◌, ◌∙◌, ℕ, zero, suc, ◌+◌, ◌-◌, ◌<◌, ◌⊎◌, inl, inr, true, false, get_or, List, [], ◌∷◌, ◌++◌, length, Option, Some, None, refl, sym, ap, subst, arith}
use Rattle.std.specs.Prelude.{Contains, is_some, slice_get, slice_index, slice_index_or}
use Rattle.std.specs.List.{All, AllZip}
use Rattle.std.specs.Option.{option_map, option_or}
use Rattle.std.proofs.lemmas.Option.{none-some, slice_get-get_or}
use Rattle.run_script.specs.Events.{script_data}
use Rattle.run_script.specs.Scripts.{ScriptData}
use Rattle.run_question.specs.Questions.{Question, question_data}
use Rattle.run_question.specs.declared.asked.Property.{Property}
use Rattle.task_table.specs.model.State.{State}
use Rattle.task_table.specs.model.Sane.{Sane}
use Rattle.board_model.specs.Alike.{reduced, seen}
use Rattle.board_model.specs.Laid.{with_script}
use Rattle.board_model.specs.SameScripts.{AreEquivalent}
use Rattle.board_model.specs.Script.{Scenario}
use Rattle.board_model.proofs.SaneReduced.{sane-reduced}
use Rattle.board_core.specs.Data.{Shows}
use Rattle.board_core.specs.Stands.{Stands, script_of, turns_of}
use Rattle.snapshot.specs.Loaded.{sites}
use Rattle.snapshot.specs.Saved.{SpellsState, spelling}
use Rattle.snapshot.proofs.Runs.{counted_reduced}
use Rattle.snapshot.proofs.StandsForSome.{as_long, reduced_again}
use Rattle.explore_core.specs.declared.given.Given.{Given}
use Rattle.explore_core.specs.declared.position.Position.{Position}
use Rattle.explore_core.specs.declared.search.Search.{Search}
use Rattle.explore_core.specs.declared.seen.Seen.{Seen}
use Rattle.explore_core.specs.declared.seen.Slot.{Slot}
use Rattle.explore_core.specs.declared.verdict.Verdict.{Verdict}
use Rattle.explore_core.specs.declared.verdict.Verdict.TheVariants.{Open, Broken}
use Rattle.explore_core.specs.declared.watch.Watch.{Watch}
use Rattle.explore_core.specs.declared.ways.Way.{Way}
use Rattle.explore_core.specs.Answers.{Asking}
use Rattle.explore_core.specs.Exploring.{decided, ways_in}
use Rattle.explore_core.specs.Schedules.{Arrival, Coming, Schedule, events_of_schedule, scheduled}
use Rattle.explore_core.specs.Searching.{AreInRange, AreOwed, AreSeen, Ends, GoesOn, HasBegun, HasCome, HasEnded, HasLed, HasReturned, HasRoomFor, IsAsked, IsAt, IsBackAt, IsCleanIn, IsLedTo, IsNext, IsOwed, IsWritten, LeadAll, Leads, behind, events_in, first_left, first_with, fork_at, found_at, left_at, left_in, next_way, party_before, party_from, without_next}
use Rattle.explore_core.specs.There.{AreThere}
use Rattle.explore_core.specs.Walked.{Course, Placed, may_come_in}
use Rattle.explore_core.specs.Watching.{AllThere, Judged, is_open, live, number_at, number_in, number_of, numbered, watched_of, with_number}
use Rattle.explore_core.specs.Ways.{coming_of, laid_by, schedule_in}
use Rattle.explore_core.proofs.Chosen.{laid_equivalent}
use Rattle.explore_core.proofs.Generations.{broken_reduced}
use Rattle.explore_core.proofs.Left.{fork_next, left_by_choice}
use Rattle.explore_core.proofs.Listing.{listed_long}
use Rattle.explore_core.proofs.Ranges.{room_of}
use Rattle.explore_core.proofs.Steps.{fewer_clean, live_there, there_live, unfound_on}
use Rattle.explore_core.proofs.Watched.{there_still}

-- ## the first of a list

pub first_append : (breaks : Schedule → Option ℕ) (xs ys : List Schedule) → first_with breaks (xs ++ ys) ≡ option_or (first_with breaks xs) (first_with breaks ys)
unfolding first_with
first_append breaks [] ys = refl
first_append breaks (x ∷ xs) ys = go (breaks x) (first_append breaks xs ys)
  where
    go : (o : Option ℕ) → first_with breaks (xs ++ ys) ≡ option_or (first_with breaks xs) (first_with breaks ys) →
        option_or (option_map (λ turn. (x, turn)) o) (first_with breaks (xs ++ ys)) ≡ option_or (option_or (option_map (λ turn. (x, turn)) o) (first_with breaks xs)) (first_with breaks ys)
    go (Some turn) ih = refl
    go None ih = ih

pub first_alike : (one other : Schedule → Option ℕ) → ((schedule : Schedule) → one schedule ≡ other schedule) → (xs : List Schedule) → first_with one xs ≡ first_with other xs
unfolding first_with
first_alike one other same [] = refl
first_alike one other same (x ∷ xs) = let here = same x in let rest = first_alike one other same xs in λ i. option_or (option_map (λ turn. (x, turn)) (here i)) (rest i)

-- ## back at a fork, one property

module _ (a : Asking) (s : State) (sane : Sane a.scenario.setup s) (at : Position) (came came' : Course) (split : left_at a at came s.turn ≡ left_at a (without_next at) came' s.turn ++ left_at a (behind at) came s.turn) where
  decided_by : (p : Property) (v : Verdict) (schedule : Schedule) → decided a (p, v) (reduced s) schedule ≡ decided a (p, v) s schedule
  unfolding seen
  decided_by p (Open kept) schedule = broken_reduced p (scheduled a.scenario schedule) (a.limit - s.turn) kept s sane
  decided_by p (Broken turn) schedule = refl

  decided_reduced : (w : Judged) (schedule : Schedule) → decided a w (reduced s) schedule ≡ decided a w s schedule
  decided_reduced w schedule = decided_by w.0 w.1 schedule

  left_behind : (w : Judged) → first_left a (behind at) came (reduced s) w ≡ first_with (decided a w s) (left_at a (behind at) came s.turn)
  unfolding seen
  left_behind w = first_alike (decided a w (reduced s)) (decided a w s) (decided_reduced w) (left_at a (behind at) came s.turn)

  first_split : (w : Judged) → first_left a at came s w ≡ option_or (first_left a (without_next at) came' s w) (first_left a (behind at) came (reduced s) w)
  first_split w =
      ap (λ (l : List Schedule). first_with (decided a w s) l) split
      ∙ first_append (decided a w s) (left_at a (without_next at) came' s.turn) (left_at a (behind at) came s.turn)
      ∙ ap (λ (o : Option (Schedule × ℕ)). option_or (first_left a (without_next at) came' s w) o) (sym (left_behind w))

  one_back : (old deep : Judged) (number : ℕ) (before after : Option Schedule) → number ≡ number_of old.1 → Leads old deep before after (first_left a (without_next at) came' s old) None →
      Leads old (numbered number deep) before after (first_left a at came s old) (first_left a (behind at) came (reduced s) (numbered number deep))
  one_back old deep number before after is h = record {
    property = h.property;
    broken = λ turn broken. let one = h.broken turn broken in (ap (λ (v : Verdict). with_number number v) one.0, one.1);
    looked = λ looked. go old.1 deep.1 refl refl looked (h.looked looked);
  }
    where
      go : (v u : Verdict) → old.1 ≡ v → deep.1 ≡ u → is_open v ≡ true → IsLedTo before after (first_left a (without_next at) came' s old) None u →
          IsLedTo before after (first_left a at came s old) (first_left a (behind at) came (reduced s) (numbered number deep)) (with_number number u)
      go (Open kept) (Open k) e d looked h' =
          let same : numbered number deep ≡ old = λ i. (h.property i, ((ap (λ (v : Verdict). with_number number v) d ∙ ap (λ (n : ℕ). Open n) (is ∙ ap number_of e)) ∙ sym e) i) in
          (h'.0, first_split old ∙ ap (λ (o : Option (Schedule × ℕ)). option_or o (first_left a (behind at) came (reduced s) old)) h'.1 ∙ ap (λ (w : Judged). first_left a (behind at) came (reduced s) w) (sym same))
      go (Open kept) (Broken turn) e d looked h' = (h'.0, h'.1, first_split old ∙ ap (λ (o : Option (Schedule × ℕ)). option_or o (first_left a (behind at) came (reduced s) old)) h'.2)
      go (Broken turn) u e d looked h' = absurd (let no_way : ⊥ = cc in no_way)

-- ## all properties

numbered_open : (number : ℕ) (w : Judged) → is_open (numbered number w).1 ≡ is_open w.1
numbered_open number w = go w.1
  where
    go : (v : Verdict) → is_open (with_number number v) ≡ is_open v
    go (Open kept) = refl
    go (Broken turn) = refl

number_there : (ws : List Judged) (place : ℕ) (w : Judged) → place < length ws → number_at ws place ≡ number_of (get_or ws place w).1
number_there ws place w lt = ap number_in (slice_get-get_or ws place w lt)

-- what is looked for is what was looked for before the numbers were set
same_live : (numbers : List ℕ) (now back : List Judged) → IsBackAt numbers now back → (p : ℕ × Property) → Contains (live back) p → Contains (live now) p
same_live numbers now back h p has =
    let one = live_there back 0 p has in
    let k = one.0 in
    let lt = one.2 in
    let long = h.long in
    let within : k < length now = omega (arith, lt, long) in
    let w : Judged = (p.1, Open 0) in
    let is = h.each k w within in
    let was : is_open (get_or now k w).1 ≡ true = sym (numbered_open (slice_index numbers k) (get_or now k w)) ∙ ap (λ (v : Judged). is_open v.1) (sym is) ∙ (one.3 w).0 in
    let there = there_live now 0 k w within was in
    let same : (get_or now k w).0 ≡ p.1 = ap (λ (v : Judged). v.0) (sym is) ∙ (one.3 w).1 in
    let at : 0 + k ≡ p.0 = let e = one.1 in omega (arith, e) in
    subst (λ (q : ℕ × Property). Contains (live now) q) (λ i. (at i, same i)) there

pub got_within : {A : Type 0} (xs : List A) (k : ℕ) (x : A) → slice_get xs k ≡ Some x → k < length xs
got_within [] k x is = absurd (none-some x is)
got_within (y ∷ ys) zero x is = omega arith
got_within (y ∷ ys) (suc k) x is = let lt = got_within ys k x is in omega (arith, lt)

as_long_tasks : (s : State) → length (reduced s).tasks ≡ length s.tasks
as_long_tasks s = (as_long s).tasks

pub zip_weaker : {A : Type 0} (R S : A → A → Type 0) → ((x y : A) → R x y → S x y) → (xs ys : List A) → AllZip R xs ys → AllZip S xs ys
zip_weaker R S f [] [] h = tt
zip_weaker R S f (x ∷ xs) (y ∷ ys) h = (f x y h.0, zip_weaker R S f xs ys h.1)
zip_weaker R S f [] (y ∷ ys) h = absurd h
zip_weaker R S f (x ∷ xs) [] h = absurd h

module _ {X : Type 0} {H : X → Type 0} (shown : Shows X H) (given : Given) (at : Position) (numbers room : List ℕ) (w0 w1 w2 w3 : Search X H)
    (next : IsNext (question_data given.question).arrivals (turns_of w0.board) at) (begun : HasBegun shown given at w0 w1) (saved : (x : Scenario) (s : State) → Stands shown x w0.board s → SpellsState x.setup (reduced s) room)
    (kept : (place : ℕ) → slice_index numbers place ≡ number_at (watched_of w0.watch) place) (deeper : Ends shown given (without_next at) w1 w2) (back : HasReturned shown given w0.ways room numbers w2 w3) where
  watch_began : w1.watch ≡ w0.watch
  watch_began = ap (λ (w : Search X H). w.watch) begun.same

  found_began : w1.found ≡ w0.found
  found_began = ap (λ (w : Search X H). w.found) begun.same

  seen_began : w1.seen ≡ w0.seen
  seen_began = ap (λ (w : Search X H). w.seen) begun.same

  found_back : w3.found ≡ w2.found
  found_back = ap (λ (w : Search X H). w.found) back.same

  seen_back : w3.seen ≡ w2.seen
  seen_back = ap (λ (w : Search X H). w.seen) back.same

  ways_back : w3.ways ≡ w0.ways
  ways_back = ap (λ (w : Search X H). w.ways) back.same

  module _ (a : Asking) (came : Course) (s : State) (asked : IsAsked a given) (h : IsAt shown a at came s w0) (seen0 : AreSeen a s.turn (watched_of w0.watch) w0.seen) where
    asks : (question_data given.question).arrivals ≡ a.question.arrivals
    asks = ap (λ (q : Question). q.arrivals) asked.is.question

    here : turns_of w0.board ≡ s.turn
    here = h.way.stands.holds.turns

    there : slice_get a.question.arrivals at.next ≡ Some next.arrival
    there = ap (λ (l : List Arrival). slice_get l at.next) (sym asks) ∙ next.there

    abbrev coming : Coming
    coming = coming_of next.arrival (next_way s.turn at)

    abbrev with_it : Course
    with_it = came ++ (at.next, coming) ∷ []

    at_way : IsAt shown a (without_next at) with_it s w1
    at_way = begun.begun a came s asked h next.arrival there

    seen1 : AreSeen a s.turn (watched_of w1.watch) w1.seen
    seen1 = subst (λ (t : Seen). AreSeen a s.turn (watched_of w1.watch) t) (sym seen_began) (subst (λ (v : Watch). AreSeen a s.turn (watched_of v) w0.seen) (sym watch_began) seen0)

    ended : HasEnded shown a (without_next at) with_it s w1 w2
    ended = deeper.ended a with_it s asked at_way seen1

    sane : Sane a.scenario.setup s
    sane = h.way.stands.sane

    within : at.next < 8
    within =
        let few = asked.fine.arrivals in
        let inside = got_within a.question.arrivals at.next next.arrival there in
        omega (arith, few, inside)

    split : left_at a at came s.turn ≡ left_at a (without_next at) with_it s.turn ++ left_at a (behind at) came s.turn
    split =
        let f = fork_next a at came next.arrival there next.pending within in
        let passed = party_before a.question.arrivals at.pending at.next in
        let rest = party_from a.question.arrivals (without_next at).pending (at.next + 1) in
        let q : Placed = (at.next, next.arrival) in
        let may = subst (λ (n : ℕ). may_come_in next.arrival n ≡ true) here next.may in
        ap (λ (l : List Placed). left_in a s.turn came passed l at.choice) f.0
        ∙ left_by_choice a s.turn came passed q rest at.choice may next.choice
        ∙ (λ i. left_in a s.turn with_it (f.1 i) rest 0 ++ left_in a s.turn came passed (sym f.0 i) (at.choice + 1))

    -- what is watched, at a place
    abbrev then : ℕ → Judged → Judged
    then place w = get_or (watched_of w0.watch) place w

    abbrev deep : ℕ → Judged → Judged
    deep place w = get_or (watched_of w2.watch) place w

    same_watch : watched_of w1.watch ≡ watched_of w0.watch
    same_watch = ap (λ (v : Watch). watched_of v) watch_began

    many : length (watched_of w2.watch) ≡ length (watched_of w0.watch)
    many = ended.leads.long ∙ ap (λ (l : List Judged). length l) same_watch

    deeply : (place : ℕ) (w : Judged) → place < length (watched_of w0.watch) → Leads (then place w) (deep place w) (found_at a w0.found place) (found_at a w2.found place) (first_left a (without_next at) with_it s (then place w)) None
    deeply place w lt =
        let long = ap (λ (l : List Judged). length l) same_watch in
        let one = ended.leads.each place w (omega (arith, lt, long)) in
        let P : List Judged → List (Option (List (Option Way))) → Type 0 = λ l f. Leads (get_or l place w) (deep place w) (found_at a f place) (found_at a w2.found place) (first_left a (without_next at) with_it s (get_or l place w)) None in
        subst (λ (l : List Judged). P l w0.found) same_watch (subst (λ (f : List (Option (List (Option Way)))). P (watched_of w1.watch) f) found_began one)

    known_again : (place : ℕ) (w : Judged) → place < length (watched_of w0.watch) → get_or (watched_of w3.watch) place w ≡ numbered (slice_index numbers place) (deep place w)
    known_again place w lt = back.watched.each place w (let long = many in omega (arith, lt, long))

    leads : LeadAll a (watched_of w0.watch) (watched_of w3.watch) w0.found w3.found (first_left a at came s) (first_left a (behind at) came (reduced s))
    leads = record {
      long = back.watched.long ∙ many;
      each = λ place w lt.
          let number = slice_index numbers place in
          let is : number ≡ number_of (then place w).1 = kept place ∙ number_there (watched_of w0.watch) place w lt in
          let one = one_back a s sane at came with_it split (then place w) (deep place w) number (found_at a w0.found place) (found_at a w2.found place) is (deeply place w lt) in
          let P : Judged → List (Option (List (Option Way))) → Type 0 = λ v f. Leads (then place w) v (found_at a w0.found place) (found_at a f place) (first_left a at came s (then place w)) (first_left a (behind at) came (reduced s) v) in
          subst (λ (v : Judged). P v w3.found) (sym (known_again place w lt)) (subst (λ (f : List (Option (List (Option Way)))). P (numbered number (deep place w)) f) (sym found_back) one);
    }

    -- the board

    spelled : SpellsState a.scenario.setup (reduced s) room
    spelled = saved (with_script a.scenario (script_data (script_of w0.board))) s h.way.stands

    stands : Stands shown (with_script a.scenario (script_data (script_of w3.board))) w3.board (reduced s)
    stands = back.stands (with_script a.scenario (script_data (script_of w2.board))) ended.state (reduced s) ended.stands spelled (sane-reduced a.scenario.setup s sane) (counted_reduced s h.way.stands.counted)
        (ap sites (as_long s).devices ∙ h.way.sites ∙ sym ended.sites)

    script : AreEquivalent (script_data (script_of w3.board)) (scheduled a.scenario (ways_in a (fork_at a at came))).script
    script =
        let E : ScriptData → ScriptData → Type 0 = λ one other. AreEquivalent one other in
        let laid = laid_equivalent a.scenario.script (schedule_in a.question.arrivals w0.ways) in
        let is : script_data (script_of w3.board) ≡ laid_by a.scenario.script (schedule_in a.question.arrivals w0.ways) = back.script ∙ (λ i. laid_by (asked.is.script i) (schedule_in (asks i) w0.ways)) in
        subst (λ (d : ScriptData). AreEquivalent d (scheduled a.scenario (ways_in a (fork_at a at came))).script) (sym is)
        (subst (λ (l : List (Option Coming)). AreEquivalent (laid_by a.scenario.script (schedule_in a.question.arrivals w0.ways)) (scheduled a.scenario l).script) h.ways laid)

    events : events_in a w3.ways ≡ events_in a w0.ways
    events = ap (λ (l : List (Option Way)). events_in a l) ways_back

    lists : length (script_data (script_of w3.board)).events ≡ events_in a w0.ways
    lists =
        let is : script_data (script_of w3.board) ≡ laid_by a.scenario.script (schedule_in a.question.arrivals w0.ways) = back.script ∙ (λ i. laid_by (asked.is.script i) (schedule_in (asks i) w0.ways)) in
        ap (λ (d : ScriptData). length d.events) is ∙ listed_long a.scenario.script.events (events_of_schedule (schedule_in a.question.arrivals w0.ways))

    listed_deep : length (script_data (script_of w2.board)).events ≡ events_in a w0.ways
    listed_deep = ended.room.listed ∙ begun.events a asked came s h

    room_again : HasRoomFor (events_in a w3.ways) w3
    room_again = subst (λ (n : ℕ). HasRoomFor n w3) (sym events) (record {
      spare = room_of w3.spare (events_in a w0.ways) (ap (λ (d : ScriptData). length d.events) back.spare ∙ listed_deep);
      listed = lists;
    })

    there_again : AllThere (reduced s) (watched_of w3.watch)
    unfolding seen
    there_again = λ place w lt.
        let long = back.watched.long ∙ many in
        let inside : place < length (watched_of w0.watch) = omega (arith, lt, long) in
        let was = h.there place w inside in
        let same : (get_or (watched_of w3.watch) place w).0 ≡ (then place w).0 = ap (λ (v : Judged). v.0) (known_again place w inside) ∙ (deeply place w inside).property in
        subst (λ (p : Property). AreThere p (reduced s)) (sym same) (there_still (then place w).0 s (reduced s) (sym (as_long_tasks s)) was)

    written_again : IsWritten (watched_of w3.watch) w3.found
    written_again = λ place w lt broken.
        let long = back.watched.long ∙ many in
        let inside : place < length (watched_of w0.watch) = omega (arith, lt, long) in
        let was : is_open (deep place w).1 ≡ false = sym (numbered_open (slice_index numbers place) (deep place w)) ∙ ap (λ (v : Judged). is_open v.1) (sym (known_again place w inside)) ∙ broken in
        let has = ended.written place w (let n = many in omega (arith, inside, n)) was in
        subst (λ (f : List (Option (List (Option Way)))). is_some (slice_index_or f place None) ≡ true) (sym found_back) has

    stands_again : IsAt shown a (behind at) came (reduced s) w3
    unfolding seen
    stands_again = record {
      way = record { fork = h.way.fork; stands = stands; sites = ap sites (as_long s).devices ∙ h.way.sites; script = script };
      ways = ap (λ (l : List (Option Way)). schedule_in a.question.arrivals l) ways_back ∙ h.ways;
      range = subst (λ (l : List (Option Way)). AreInRange 0 a.question.arrivals l) (sym ways_back) h.range;
      come = subst (λ (l : List (Option Way)). All (HasCome a.question.arrivals l) came) (sym ways_back) h.come;
      room = room_again;
      few = h.few;
      long = ap (λ (v : State). length (spelling v)) (reduced_again s) ∙ h.long;
      there = there_again;
      written = written_again;
      unfound = unfound_on a (watched_of w0.watch) (watched_of w3.watch) w0.found w3.found (first_left a at came s) (first_left a (behind at) came (reduced s)) leads h.unfound;
    }

    led : HasLed shown a at (behind at) came s w0 w3
    led = record { state = reduced s; stands = stands_again; events = events; leads = leads }

    owed : AreOwed shown a (behind at) came w3 w0.seen
    owed =
        let one = deeper.kept a with_it s asked at_way seen1 in
        let R : Slot → Slot → Type 0 = λ before now. (now ≡ before) ⊎ IsCleanIn a (watched_of w2.watch) now in
        let S : Slot → Slot → Type 0 = λ before now. (now ≡ before) ⊎ (IsCleanIn a (watched_of w3.watch) now ⊎ IsOwed shown a (behind at) came w3 now) in
        let all = zip_weaker R S each w1.seen.slots.items w2.seen.slots.items one in
        subst (λ (t : Seen). AllZip S t.slots.items w3.seen.slots.items) seen_began (subst (λ (t : Seen). AllZip S w1.seen.slots.items t.slots.items) (sym seen_back) all)
      where
        each : (before now : Slot) → (now ≡ before) ⊎ IsCleanIn a (watched_of w2.watch) now → (now ≡ before) ⊎ (IsCleanIn a (watched_of w3.watch) now ⊎ IsOwed shown a (behind at) came w3 now)
        each before now (inl same) = inl same
        each before now (inr clean) = inr (inl (fewer_clean a (watched_of w2.watch) (watched_of w3.watch) now (same_live numbers (watched_of w2.watch) (watched_of w3.watch) back.watched) clean))

  pub forked : GoesOn shown given at (behind at) w0 w3
  forked = record { led = led; owed = owed }

  pub turns_again : (a : Asking) (came : Course) (s : State) → IsAt shown a at came s w0 → turns_of w3.board ≡ turns_of w0.board
  unfolding seen
  turns_again a came s h =
      let x = with_script a.scenario (script_data (script_of w0.board)) in
      back.turns x (reduced s) (saved x s h.way.stands) ∙ sym h.way.stands.holds.turns
