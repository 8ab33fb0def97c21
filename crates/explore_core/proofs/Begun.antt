-- An arrival comes at a fork: it is no longer among those that are to come, and the ways have it.
use Rattle.std.proofs.Common.{◌≡◌, ◌∙◌, ℕ, ◌+◌, ◌<◌, ◌≤◌, true, false, cond, List, [], ◌∷◌, ◌++◌, length, map, get_or, zero, suc, Option, Some, None, is_some, option_map, inl, inr, refl, sym, ap, subst, arith}
use Rattle.std.specs.Prelude.{◌==◌, nat_le, nat_lt, slice_get, slice_index_or, slice_set}
use Rattle.std.specs.List.{All}
use Rattle.std.specs.Option.{option_or}
use Rattle.std.proofs.lemmas.Bool.{and_parts, both_ways, cases_eq, eq-eqb, leb-true, ltb-true, ne_eqb}
use Rattle.std.proofs.lemmas.List.{get_or-set_other, get_or-set_same}
use Rattle.std.proofs.lemmas.List.Elements.{All-cons, All-head, All-push, All-tail}
use Rattle.std.proofs.lemmas.Option.{get_or_from_slice_get, none-some, same_Some, slice_get_within}
use Rattle.run_script.specs.Events.{script_data}
use Rattle.run_script.specs.Laying.{HasRoom}
use Rattle.run_script.specs.Scripts.{ScriptData}
use Rattle.run_script.specs.declared.script.Script.{Script}
use Rattle.run_question.specs.Questions.{Question, question_data}
use Rattle.run_question.specs.Reading.{choice_count}
use Rattle.task_table.specs.model.State.{State}
use Rattle.board_model.specs.Laid.{with_script}
use Rattle.board_model.specs.SameScripts.{AreEquivalent}
use Rattle.board_core.specs.Data.{Shows}
use Rattle.board_core.specs.Stands.{script_of, turns_of}
use Rattle.explore_core.specs.declared.given.Given.{Given}
use Rattle.explore_core.specs.declared.position.Position.{Position}
use Rattle.explore_core.specs.declared.search.Search.{Search}
use Rattle.explore_core.specs.declared.ways.Way.{Way}
use Rattle.explore_core.specs.Answers.{Asking}
use Rattle.explore_core.specs.Exploring.{Ascends, IsFork, at_place, latest, way_by, ways_in}
use Rattle.explore_core.specs.Fine.{IsFineArrival}
use Rattle.explore_core.specs.Schedules.{Arrival, Coming, events_of_schedule, scheduled}
use Rattle.explore_core.specs.Searching.{AreInRange, HasBegun, HasCome, HasLaid, HasRoomFor, IsAsked, IsAt, IsInRange, IsLayable, IsNext, IsSomewhere, events_in, fork_at, party_before, party_from, without_next}
use Rattle.explore_core.specs.Walked.{Course, Placed, comes_at, end_of, may_come_in, placed}
use Rattle.explore_core.specs.Ways.{coming_of, laid_by, schedule_in, way_at}
use Rattle.explore_core.proofs.Left.{fork_next}
use Rattle.explore_core.proofs.Chosen.{laid_equivalent}
use Rattle.explore_core.proofs.EachOnce.{not_below, without}
use Rattle.explore_core.proofs.Listing.{listed_long}
use Rattle.explore_core.proofs.Onward.{comes_append}
use Rattle.explore_core.proofs.Ranges.{all_in_range, layable_at, range_at, room_of, same_events, same_schedule, schedule_at}

-- ## one of some arrivals, and the others

all_others : (P : Placed → Type 0) (front : List Placed) (q : Placed) (back : List Placed) → All P (front ++ q ∷ back) → All P (front ++ back)
all_others P [] q back all = All-tail P q back all
all_others P (p ∷ front) q back all =
    All-cons P p (front ++ back) (All-head P p (front ++ q ∷ back) all) (all_others P front q back (All-tail P p (front ++ q ∷ back) all))

none_above : (place low : ℕ) (ps : List Placed) → place < low → Ascends low ps → at_place place ps ≡ None
unfolding Ascends
none_above place low [] lt order = refl
none_above place low (p ∷ ps) lt order =
    let first = order.0 in
    let other : (p.0 == place) ≡ false = ne_eqb p.0 place (λ e. omega (arith, e, lt, first)) in
    rw other (none_above place (p.0 + 1) ps (omega (arith, lt, first)) order.1)

-- where it is found, and where it is not
its_place : (low : ℕ) (front : List Placed) (q : Placed) (back : List Placed) → Ascends low (front ++ q ∷ back) → (at_place q.0 (front ++ q ∷ back) ≡ Some q) × (at_place q.0 (front ++ back) ≡ None)
unfolding Ascends
its_place low [] q back order =
    let this : (q.0 == q.0) ≡ true = eq-eqb q.0 q.0 refl in
    (rw this refl, none_above q.0 (q.0 + 1) back (omega arith) order.1)
its_place low (p ∷ front) q back order =
    let later = not_below (p.0 + 1) front q back order.1 in
    let other : (p.0 == q.0) ≡ false = ne_eqb p.0 q.0 (λ e. omega (arith, e, later)) in
    let more = its_place (p.0 + 1) front q back order.1 in
    (rw other more.0, rw other more.1)

other_place : (place : ℕ) (front : List Placed) (q : Placed) (back : List Placed) → (place ≡ q.0 → ⊥) → at_place place (front ++ back) ≡ at_place place (front ++ q ∷ back)
other_place place [] q back ne =
    let other : (q.0 == place) ≡ false = ne_eqb q.0 place (λ e. ne (sym e)) in
    rw other refl
other_place place (p ∷ front) q back ne = ap (λ (o : Option Placed). cond (p.0 == place) (Some p) o) (other_place place front q back ne)

not_come : (place : ℕ) (came : Course) → All (λ (c : ℕ × Coming). c.0 ≡ place → ⊥) came → comes_at place came ≡ None
not_come place [] all = refl
not_come place (c ∷ came) all =
    let ne : c.0 ≡ place → ⊥ = All-head (λ (d : ℕ × Coming). d.0 ≡ place → ⊥) c came all in
    let other : (c.0 == place) ≡ false = ne_eqb c.0 place ne in
    rw other (not_come place came (All-tail (λ (d : ℕ × Coming). d.0 ≡ place → ⊥) c came all))

or_none : {A : Type 0} (o : Option A) → option_or o None ≡ o
or_none None = refl
or_none (Some x) = refl

within_ways : (ways : List (Option Way)) (place : ℕ) → is_some (way_at ways place) ≡ true → place < length ways
within_ways [] place is = absurd (both_ways false refl is)
within_ways (w ∷ ways) zero is = omega arith
within_ways (w ∷ ways) (suc place) is = let lt = within_ways ways place is in omega (arith, lt)

some_of : (arrival : Arrival) (way : Option Way) (c : Coming) → option_map (coming_of arrival) way ≡ Some c → is_some way ≡ true
some_of arrival None c is = absurd (none-some c is)
some_of arrival (Some way) c is = refl

-- ## the fork of which it comes

module _ (a : Asking) (came : Course) (front : List Placed) (q : Placed) (back passed rest : List Placed) (whole : passed ++ rest ≡ front ++ q ∷ back) (f : IsFork a record { came = came; passed = passed; rest = rest }) where
  abbrev order : Ascends 0 (front ++ q ∷ back)
  order = subst (Ascends 0) whole f.order

  others_came : All (λ (c : ℕ × Coming). c.0 ≡ q.0 → ⊥) came
  others_came k d lt = λ e.
      let apart : at_place (get_or came k d).0 (front ++ q ∷ back) ≡ None = subst (λ (l : List Placed). at_place (get_or came k d).0 l ≡ None) whole (f.apart k d lt) in
      let found : at_place q.0 (front ++ q ∷ back) ≡ Some q = (its_place 0 front q back order).0 in
      none-some q (sym (subst (λ place. at_place place (front ++ q ∷ back) ≡ None) e apart) ∙ found)

  module _ (coming : Coming) where
    fork_on : IsFork a record { came = came ++ (q.0, coming) ∷ []; passed = front; rest = back }
    fork_on = record {
      order = without 0 front q back order;
      apart =
          All-push (λ (c : ℕ × Coming). at_place c.0 (front ++ back) ≡ None) came (q.0, coming)
          (λ k d lt. other_place (get_or came k d).0 front q back (others_came k d lt) ∙ subst (λ (l : List Placed). at_place (get_or came k d).0 l ≡ None) whole (f.apart k d lt))
          (its_place 0 front q back order).1;
      offered = all_others (λ (p : Placed). 0 < length p.1.offers) front q back (subst (λ (l : List Placed). All (λ (p : Placed). 0 < length p.1.offers) l) whole f.offered);
      below = all_others (λ (p : Placed). p.1.below ≤ end_of a.question.arrivals) front q back (subst (λ (l : List Placed). All (λ (p : Placed). p.1.below ≤ end_of a.question.arrivals) l) whole f.below);
    }

    abbrev by_now : Placed → Option Coming
    by_now p = way_by (came ++ (q.0, coming) ∷ []) (front ++ back) p

    abbrev by_then : Placed → Option Coming
    by_then p = way_by came (passed ++ rest) p

    other_way : (p : Placed) → (p.0 ≡ q.0 → ⊥) → by_now p ≡ by_then p
    other_way p ne =
        let other : (q.0 == p.0) ≡ false = ne_eqb q.0 p.0 (λ e. ne (sym e)) in
        let none : comes_at p.0 ((q.0, coming) ∷ []) ≡ None = rw other refl in
        let comes : comes_at p.0 (came ++ (q.0, coming) ∷ []) ≡ comes_at p.0 came = comes_append p.0 came ((q.0, coming) ∷ []) ∙ ap (λ (o : Option Coming). option_or (comes_at p.0 came) o) none ∙ or_none (comes_at p.0 came) in
        let there : at_place p.0 (front ++ back) ≡ at_place p.0 (passed ++ rest) = other_place p.0 front q back ne ∙ ap (at_place p.0) (sym whole) in
        λ i. option_or (comes i) (option_map (λ (r : Placed). latest r.1) (there i))

    this_way : by_now q ≡ Some coming
    this_way =
        let this : (q.0 == q.0) ≡ true = eq-eqb q.0 q.0 refl in
        let one : comes_at q.0 ((q.0, coming) ∷ []) ≡ Some coming = rw this refl in
        let comes : comes_at q.0 (came ++ (q.0, coming) ∷ []) ≡ Some coming =
        comes_append q.0 came ((q.0, coming) ∷ []) ∙ ap (λ (o : Option Coming). option_or o (comes_at q.0 ((q.0, coming) ∷ []))) (not_come q.0 came others_came) ∙ one in
        ap (λ (o : Option Coming). option_or o (option_map (λ (r : Placed). latest r.1) (at_place q.0 (front ++ back)))) comes

    was_way : by_then q ≡ Some (latest q.1)
    was_way =
        let found : at_place q.0 (passed ++ rest) ≡ Some q = ap (at_place q.0) whole ∙ (its_place 0 front q back order).0 in
        λ i. option_or (not_come q.0 came others_came i) (option_map (λ (r : Placed). latest r.1) (found i))

  -- ## the ways

  module _ (ways : List (Option Way)) (way : Way) (there : slice_get a.question.arrivals q.0 ≡ Some q.1) (is : schedule_in a.question.arrivals ways ≡ map (way_by came (passed ++ rest)) (placed a.question.arrivals 0)) where
    abbrev coming : Coming
    coming = coming_of q.1 way

    abbrev now : List (Option Way)
    now = slice_set ways q.0 (Some way)

    was_some : is_some (way_at ways q.0) ≡ true
    was_some = some_of q.1 (way_at ways q.0) (latest q.1) (schedule_at a.question.arrivals 0 q.0 q.0 q.1 ways (way_by came (passed ++ rest)) (omega arith) there is ∙ was_way coming)

    set_there : way_at now q.0 ≡ Some way
    set_there = get_or-set_same ways q.0 (Some way) None (within_ways ways q.0 was_some)

    set_others : (place : ℕ) → (place ≡ q.0 → ⊥) → way_at now place ≡ way_at ways place
    set_others place ne = get_or-set_other ways q.0 place (Some way) None ne

    as_many : (place : ℕ) → is_some (way_at ways place) ≡ is_some (way_at now place)
    as_many place = elim (cases_eq place q.0) [
      | inl e ↦ ap (λ k. is_some (way_at ways k)) e ∙ was_some ∙ sym (ap (λ (o : Option Way). is_some o) set_there) ∙ ap (λ k. is_some (way_at now k)) (sym e)
      | inr ne ↦ ap (λ (o : Option Way). is_some o) (sym (set_others place ne))
    ]

    this_one : (b : Arrival) (place : ℕ) → place ≡ q.0 → slice_get a.question.arrivals place ≡ Some b → q.1 ≡ b
    this_one b place e at = same_Some q.1 b (sym there ∙ ap (slice_get a.question.arrivals) (sym e) ∙ at)

    ways_on : schedule_in a.question.arrivals now ≡ map (way_by (came ++ (q.0, coming) ∷ []) (front ++ back)) (placed a.question.arrivals 0)
    ways_on = same_schedule a.question.arrivals 0 now (by_now coming) each
      where
        each : (k n : ℕ) (b : Arrival) → 0 + k ≡ n → slice_get a.question.arrivals k ≡ Some b → option_map (coming_of b) (way_at now n) ≡ by_now coming (n, b)
        each k n b same at =
            let place : k ≡ n = omega (arith, same) in
            let here : slice_get a.question.arrivals n ≡ Some b = subst (λ m. slice_get a.question.arrivals m ≡ Some b) place at in
            elim (cases_eq n q.0) [
              | inl e ↦
                  let one = this_one b n e here in
                  let both : ◌≡◌ {A = Placed} q (n, b) = λ i. (sym e i, one i) in
                  subst (λ (p : Placed). option_map (coming_of p.1) (way_at now p.0) ≡ by_now coming p) both (ap (option_map (coming_of q.1)) set_there ∙ sym (this_way coming))
              | inr ne ↦
                  ap (option_map (coming_of b)) (set_others n ne)
                  ∙ schedule_at a.question.arrivals 0 k n b ways (way_by came (passed ++ rest)) same at is
                  ∙ sym (other_way coming (n, b) ne)
            ]

    range_on : AreInRange 0 a.question.arrivals ways → IsInRange q.1 (Some way) → AreInRange 0 a.question.arrivals now
    range_on range inside = all_in_range a.question.arrivals 0 now each
      where
        each : (k n : ℕ) (b : Arrival) → 0 + k ≡ n → slice_get a.question.arrivals k ≡ Some b → IsInRange b (way_at now n)
        each k n b same at =
            let place : k ≡ n = omega (arith, same) in
            let here : slice_get a.question.arrivals n ≡ Some b = subst (λ m. slice_get a.question.arrivals m ≡ Some b) place at in
            elim (cases_eq n q.0) [
              | inl e ↦
                  let one = this_one b n e here in
                  subst (λ m. IsInRange b (way_at now m)) (sym e) (subst (λ (x : Arrival). IsInRange x (way_at now q.0)) one (subst (IsInRange q.1) (sym set_there) inside))
              | inr ne ↦ subst (IsInRange b) (sym (set_others n ne)) (range_at a.question.arrivals 0 k n b ways same at range)
            ]

    come_on : All (HasCome a.question.arrivals ways) came → All (HasCome a.question.arrivals now) (came ++ (q.0, coming) ∷ [])
    come_on come =
        All-push (HasCome a.question.arrivals now) came (q.0, coming)
        (λ k d lt.
        let h = come k d lt in
        record { arrival = h.arrival; at = h.at; way = h.way; taken = set_others (get_or came k d).0 (others_came k d lt) ∙ h.taken; same = h.same })
        (record { arrival = q.1; at = there; way = way; taken = set_there; same = refl })

-- ## where it stands

-- of the next arrival, which may come
in_its_range : (arrival : Arrival) (turn choice : ℕ) → may_come_in arrival turn ≡ true → choice < choice_count arrival.offers → IsInRange arrival (Some record { turn = turn; choice = choice })
in_its_range arrival turn choice may lt =
    let parts = and_parts (nat_le arrival.first turn) (nat_lt turn arrival.below) may in
    (leb-true arrival.first turn parts.0, ltb-true turn arrival.below parts.1, lt)

module _ {X : Type 0} {H : X → Type 0} (shown : Shows X H) (given : Given) (a : Asking) (at : Position) (came : Course) (s : State) (w : Search X H) (arrival : Arrival) (asked : IsAsked a given) (h : IsAt shown a at came s w)
    (there : slice_get a.question.arrivals at.next ≡ Some arrival) (pends : slice_index_or at.pending at.next false ≡ true) (way : Way) where
  abbrev next : Placed
  next = (at.next, arrival)

  abbrev passed : List Placed
  passed = party_before a.question.arrivals at.pending at.next

  abbrev rest : List Placed
  rest = party_from a.question.arrivals at.pending at.next

  abbrev front : List Placed
  front = party_before a.question.arrivals (without_next at).pending (at.next + 1)

  abbrev back : List Placed
  back = party_from a.question.arrivals (without_next at).pending (at.next + 1)

  abbrev set_ways : List (Option Way)
  set_ways = slice_set w.ways at.next (Some way)

  few : at.next < 8
  few = let inside = slice_get_within a.question.arrivals at.next arrival there in omega (arith, inside, asked.fine.arrivals)

  whole : passed ++ rest ≡ front ++ next ∷ back
  whole =
      let parts = fork_next a at came arrival there pends few in
      λ i. parts.1 i ++ parts.0 i

  events_on : events_in a set_ways ≡ events_in a w.ways
  events_on = sym (same_events a w.ways set_ways asked.fine (as_many a came front next back passed rest whole h.way.fork w.ways way there h.ways))

  all_range : IsInRange arrival (Some way) → AreInRange 0 a.question.arrivals set_ways
  all_range inside = range_on a came front next back passed rest whole h.way.fork w.ways way there h.ways h.range inside

  room_on : HasRoomFor (events_in a set_ways) w
  room_on = subst (λ n. HasRoomFor n w) (sym events_on) h.room

  -- once its events are laid
  begun : (new : Search X H) → HasLaid shown given (record w { ways = set_ways }) new → IsInRange arrival (Some way) → IsAt shown a (without_next at) (came ++ (at.next, coming_of arrival way) ∷ []) s new
  begun new laid inside =
      let later = came ++ (at.next, coming_of arrival way) ∷ [] in
      let m : Search X H = record w { board = new.board; ways = set_ways; spare = new.spare } in
      let ways = ways_on a came front next back passed rest whole h.way.fork w.ways way there h.ways in
      let script : script_data (script_of new.board) ≡ laid_by a.scenario.script (schedule_in a.question.arrivals set_ways) =
      laid.script ∙ (λ i. laid_by (asked.is.script i) (schedule_in (asked.is.question i).arrivals set_ways)) in
      let long : length (script_data (script_of new.board)).events ≡ events_in a set_ways =
      ap (λ (d : ScriptData). length d.events) script ∙ listed_long a.scenario.script.events (events_of_schedule (schedule_in a.question.arrivals set_ways)) in
      let spare : HasRoom new.spare (events_in a set_ways) = subst (λ (k : Script). HasRoom k (events_in a set_ways)) (sym laid.spare) (room_of (script_of w.board) (events_in a set_ways) (h.room.listed ∙ sym events_on)) in
      let there_now : IsAt shown a (without_next at) later s m = record {
        way = record {
          fork = fork_on a came front next back passed rest whole h.way.fork (coming_of arrival way);
          stands = record {
            holds = laid.holds (with_script a.scenario (script_data (script_of w.board))) s h.way.stands.holds;
            sane = h.way.stands.sane;
            counted = h.way.stands.counted;
          };
          sites = h.way.sites;
          script =
              subst (λ (d : ScriptData). AreEquivalent d (scheduled a.scenario (ways_in a (fork_at a (without_next at) later))).script) (sym (script ∙ ap (laid_by a.scenario.script) ways))
              (laid_equivalent a.scenario.script (ways_in a (fork_at a (without_next at) later)));
        };
        ways = ways;
        range = all_range inside;
        come = come_on a came front next back passed rest whole h.way.fork w.ways way there h.ways h.come;
        room = record { spare = spare; listed = long };
        few = h.few;
        long = h.long;
        there = h.there;
        written = h.written;
        unfound = h.unfound;
      } in
      subst (λ (v : Search X H). IsAt shown a (without_next at) later s v) (sym laid.same) there_now

-- the arrival that is next, in this turn
module _ {X : Type 0} {H : X → Type 0} (shown : Shows X H) (given : Given) (at : Position) (w : Search X H) (turn : ℕ) (same : turn ≡ turns_of w.board) (next : IsNext (question_data given.question).arrivals (turns_of w.board) at) where
  abbrev way_now : Way
  way_now = record { turn = turn; choice = at.choice }

  abbrev ways_now : List (Option Way)
  ways_now = slice_set w.ways at.next (Some way_now)

  next_there : (a : Asking) → IsAsked a given → slice_get a.question.arrivals at.next ≡ Some next.arrival
  next_there a asked = subst (λ (q : Question). slice_get q.arrivals at.next ≡ Some next.arrival) asked.is.question next.there

  in_time : IsInRange next.arrival (Some way_now)
  in_time = in_its_range next.arrival turn at.choice (ap (may_come_in next.arrival) same ∙ next.may) next.choice

  pub layable_now : (a : Asking) (came : Course) (s : State) → IsAsked a given → IsAt shown a at came s w → IsLayable given (record w { ways = ways_now })
  layable_now a came s asked h =
      let there = next_there a asked in
      layable_at given a w ways_now asked (all_range shown given a at came s w next.arrival asked h there next.pending way_now in_time)
      (room_on shown given a at came s w next.arrival asked h there next.pending way_now)

  pub early_now : (a : Asking) → IsAsked a given → turns_of w.board ≤ 1000000000
  early_now a asked =
      let there = next_there a asked in
      let inside = slice_get_within a.question.arrivals at.next next.arrival there in
      let fine : IsFineArrival next.arrival = subst IsFineArrival (get_or_from_slice_get a.question.arrivals at.next next.arrival next.arrival there) (asked.fine.each at.next next.arrival inside) in
      let before = in_time.1 in
      omega (arith, same, before, fine.below)

  pub has_begun : (new : Search X H) → IsSomewhere shown given at w → HasLaid shown given (record w { ways = ways_now }) new → HasBegun shown given at w new
  has_begun new somewhere laid =
      let ways : new.ways ≡ ways_now = ap (λ (v : Search X H). v.ways) laid.same in
      let stood = somewhere.4.way.stands in
      record {
        same = laid.same ∙ ap (λ (ws : List (Option Way)). record w { board = new.board; ways = ws; spare = new.spare }) (sym ways);
        turns = (laid.holds (with_script somewhere.0.scenario (script_data (script_of w.board))) somewhere.2 stood.holds).turns ∙ sym stood.holds.turns;
        begun = λ a came s asked h arrival there.
            let one : next.arrival ≡ arrival = same_Some next.arrival arrival (sym (next_there a asked) ∙ there) in
            let now : turn ≡ s.turn = same ∙ h.way.stands.holds.turns in
            subst (λ t. IsAt shown a (without_next at) (came ++ (at.next, coming_of arrival record { turn = t; choice = at.choice }) ∷ []) s new) now
            (begun shown given a at came s w arrival asked h there next.pending way_now new laid (subst (λ (x : Arrival). IsInRange x (Some way_now)) one in_time));
        events = λ a asked came s h. ap (events_in a) ways ∙ events_on shown given a at came s w next.arrival asked h (next_there a asked) next.pending way_now;
      }
