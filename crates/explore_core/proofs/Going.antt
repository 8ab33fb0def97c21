-- A search goes on: the run ends where it stands, or it is played on to the next turn in which an arrival may come.
use Rattle.std.proofs.Common.{◌≡◌, ◌∙◌, ℕ, zero, suc, ◌+◌, ◌-◌, ◌<◌, ◌≤◌, ◌⊎◌, inl, inr, Bool, true, false, cond, get_or, List, [], ◌∷◌, length, map, not, Option, Some, None, refl, sym, ap, subst, arith}
use Rattle.std.specs.Prelude.{Vec, Contains, is_some, slice_index_or}
use Rattle.std.specs.declared.alloc.Global.{Global}
use Rattle.std.specs.List.{All, AllZip}
use Rattle.std.specs.Option.{option_map, option_or}
use Rattle.std.proofs.lemmas.Bool.{true≢false}
use Rattle.std.proofs.lemmas.List.{get_or-map, length-map}
use Rattle.std.proofs.lemmas.List.Elements.{All-map, AllZip-get_or, Contains-append_right, Contains-get_or, length_all_zip}
use Rattle.kernel_abi.specs.declared.Kind.{Kind}
use Rattle.kernel_abi.specs.Devices.{DeviceData}
use Rattle.run_script.specs.Events.{script_data}
use Rattle.run_script.specs.Scripts.{ScriptData}
use Rattle.task_table.specs.model.State.{State, Turn}
use Rattle.task_table.specs.model.Sane.{Sane}
use Rattle.board_model.specs.declared.outcomes.End.{End}
use Rattle.board_model.specs.declared.outcomes.End.TheVariants.{Bound}
use Rattle.board_model.specs.declared.outcomes.Level.TheVariants.{Calls}
use Rattle.board_model.specs.Alike.{reduced}
use Rattle.board_model.specs.Laid.{with_script}
use Rattle.board_model.specs.Run.{at_turn, ended_at, ending, run, state_after, unless, with_front}
use Rattle.board_model.specs.SameScripts.{AreEquivalent}
use Rattle.board_model.specs.Script.{Scenario}
use Rattle.board_model.specs.Turn.{turn}
use Rattle.board_model.proofs.Further.{last_turn}
use Rattle.board_model.proofs.RunKeeps.{sane_turns}
use Rattle.board_core.specs.declared.board.Board.{Board}
use Rattle.board_core.specs.Data.{Shows}
use Rattle.board_core.specs.Stands.{Stands, script_of, turns_of}
use Rattle.snapshot.specs.Loaded.{sites}
use Rattle.snapshot.specs.Records.{total}
use Rattle.snapshot.specs.Saved.{spelling}
use Rattle.snapshot.proofs.Fixed.{IsFixed, fixed_run}
use Rattle.snapshot.proofs.Returned.{with_own}
use Rattle.snapshot.proofs.StandsForSome.{spelling_long}
use Rattle.run_question.specs.Questions.{Question, question_data}
use Rattle.run_question.specs.declared.asked.Property.{Property}
use Rattle.explore_core.specs.declared.given.Given.{Given}
use Rattle.explore_core.specs.declared.position.Position.{Position}
use Rattle.explore_core.specs.declared.search.Search.{Search}
use Rattle.explore_core.specs.declared.seen.Seen.{Seen}
use Rattle.explore_core.specs.declared.seen.Slot.{Slot}
use Rattle.explore_core.specs.declared.verdict.Verdict.{Verdict}
use Rattle.explore_core.specs.declared.verdict.Verdict.TheVariants.{Open, Broken}
use Rattle.explore_core.specs.declared.watch.Watch.{Watch}
use Rattle.explore_core.specs.declared.ways.Way.{Way}
use Rattle.explore_core.specs.Answers.{Asking}
use Rattle.explore_core.specs.Exploring.{Ascends, Fork, GoesOnTo, IsAsBefore, IsFork, IsOnWay, at_place, decided, onward, pending, way_by, ways_in, with_onward}
use Rattle.explore_core.specs.Playing.{HasPlayed, IsThrough, after_turns}
use Rattle.explore_core.specs.Schedules.{Arrival, Coming, Schedule, scheduled}
use Rattle.explore_core.specs.Searching.{AreEarliest, AreSeen, Ends, GoesOn, HasEnded, HasKeptState, HasLed, HasRoomFor, HasWritten, IsAsked, IsAt, IsCleanIn, IsLedTo, IsOwed, IsTooLate, IsUnfound, IsWritten, LeadAll, Leads, WasSeen, at_first, first_left, first_with, fork_at, found_at, found_schedule, left_at, left_in, nothing_left, party_in, schedules_on}
use Rattle.explore_core.specs.There.{AreThere}
use Rattle.explore_core.specs.Verdicts.{broken_by, ended}
use Rattle.explore_core.specs.Walked.{Course, Placed, end_of, may_come_in, placed}
use Rattle.explore_core.specs.Watching.{AllThere, Judged, are_open, broken_or, finished, finished_at, is_open, live, watched_of}
use Rattle.explore_core.specs.Ways.{schedule_in}
use Rattle.explore_core.proofs.Earliest.{earliest_first}
use Rattle.explore_core.proofs.Exploring.{decided_at_end, played_on}
use Rattle.explore_core.proofs.Forked.{zip_weaker}
use Rattle.explore_core.proofs.Left.{all_passed, left_is_on, none_passed, pending_at, too_late_left}
use Rattle.explore_core.proofs.Played.{goes_too, none_yet, turn_after_turns}
use Rattle.explore_core.proofs.Meeting.{at_same}
use Rattle.explore_core.proofs.Steps.{fewer_live, fewer_seen, lead_then, there_live, unfound_on, zip_itself}
use Rattle.explore_core.proofs.Watched.{all_there_still, as_many_tasks}

abbrev First : Type 0
First = Option (Schedule × ℕ)

abbrev Founds : Type 0
Founds = List (Option (List (Option Way)))

-- ## the first of the schedules of some courses

first_as : (one other : Schedule → Option ℕ) (g : Course → Schedule) (cs : List Course) → ((more : Course) → Contains cs more → one (g more) ≡ other (g more)) → first_with one (map g cs) ≡ first_with other (map g cs)
unfolding first_with
first_as one other g [] same = refl
first_as one other g (c ∷ cs) same =
    let here = same c (Contains-get_or (c ∷ cs) 0 c (omega arith)) in
    let rest = first_as one other g cs (λ more has. same more (Contains-append_right (c ∷ []) cs more has)) in
    λ i. option_or (option_map (λ turn. (g c, turn)) (here i)) (rest i)

first_none : (breaks : Schedule → Option ℕ) (g : Course → Schedule) (cs : List Course) → ((more : Course) → Contains cs more → breaks (g more) ≡ None) → first_with breaks (map g cs) ≡ None
unfolding first_with
first_none breaks g [] none = refl
first_none breaks g (c ∷ cs) none =
    let here = none c (Contains-get_or (c ∷ cs) 0 c (omega arith)) in
    let rest = first_none breaks g cs (λ more has. none more (Contains-append_right (c ∷ []) cs more has)) in
    λ i. option_or (option_map (λ turn. (g c, turn)) (here i)) (rest i)

first_is : (breaks : Schedule → Option ℕ) (g : Course → Schedule) (cs : List Course) (x : Schedule) (rest : List Schedule) (turn : ℕ) → map g cs ≡ x ∷ rest → ((more : Course) → Contains cs more → breaks (g more) ≡ Some turn) →
    first_with breaks (map g cs) ≡ Some (x, turn)
unfolding first_with
first_is breaks g [] x rest turn is each = absurd (let none : 0 ≡ suc (length rest) = ap (λ (l : List Schedule). length l) is in omega (arith, none))
first_is breaks g (c ∷ cs) x rest turn is each =
    let here = each c (Contains-get_or (c ∷ cs) 0 c (omega arith)) in
    let same : g c ≡ x = ap (λ (l : List Schedule). get_or l 0 x) is in
    ap (λ (o : Option ℕ). option_or (option_map (λ t. (g c, t)) o) (first_with breaks (map g cs))) here ∙ ap (λ (y : Schedule). Some (y, turn)) same

-- ## one property

-- what a run made of it: while it is looked for, the first schedule that is left stays the first; where it is broken, these ways are the first
pub record IsMadeOf (arrivals : List Arrival) (taken : List (Option Way)) (first left : First) (old new : Judged) : Type 0 where
  pub property : new.0 ≡ old.0
  pub broken : (turn : ℕ) → old.1 ≡ Broken turn → new.1 ≡ Broken turn
  pub still : is_open new.1 ≡ true → first ≡ left
  pub found : (turn : ℕ) → new.1 ≡ Broken turn → is_open old.1 ≡ true → first ≡ Some (schedule_in arrivals taken, turn)

one_led : (arrivals : List Arrival) (taken : List (Option Way)) (before after : Option (List (Option Way))) (first left : First) (old new : Judged) → IsMadeOf arrivals taken first left old new →
    (is_open old.1 ≡ false → is_some before ≡ true) → (is_open old.1 ≡ true → before ≡ None) → after ≡ option_or before (cond (is_open new.1) None (Some taken)) →
    Leads old new (found_schedule arrivals before) (found_schedule arrivals after) first left
one_led arrivals taken before after first left old new made written unfound is = record {
  property = made.property;
  broken = λ turn broken. (made.broken turn broken, ap (found_schedule arrivals) (is ∙ stays before (written (ap (λ (v : Verdict). is_open v) broken))));
  looked = λ looked. go new.1 refl looked;
}
  where
    stays : (o : Option (List (Option Way))) → is_some o ≡ true → option_or o (cond (is_open new.1) None (Some taken)) ≡ o
    stays None some = absurd (true≢false (sym some))
    stays (Some ways) some = refl

    go : (v : Verdict) → new.1 ≡ v → is_open old.1 ≡ true → IsLedTo (found_schedule arrivals before) (found_schedule arrivals after) first left v
    go (Open kept) e looked =
        let none = unfound looked in
        let now : after ≡ None = is ∙ (λ i. option_or (none i) (cond (is_open (e i)) None (Some taken))) in
        (ap (found_schedule arrivals) (now ∙ sym none), made.still (ap (λ (u : Verdict). is_open u) e))
    go (Broken turn) e looked =
        let none = unfound looked in
        let now : after ≡ Some taken = is ∙ (λ i. option_or (none i) (cond (is_open (e i)) None (Some taken))) in
        (schedule_in arrivals taken, ap (found_schedule arrivals) now, made.found turn e looked)

-- ## all properties

module _ (a : Asking) (pending : List Bool) (from : ℕ) (ways : List (Option Way)) (old new : List Judged) (before after : Founds) (h : HasWritten a.question.arrivals pending from ways new before after) where
  all_led : (first left : Judged → First) → length new ≡ length old →
      ((place : ℕ) (w : Judged) → place < length old → IsMadeOf a.question.arrivals h.taken (first (get_or old place w)) (left (get_or new place w)) (get_or old place w) (get_or new place w)) →
      IsWritten old before → IsUnfound old before → LeadAll a old new before after first left
  all_led first left long made written unfound = record {
    long = long;
    each = λ place w lt.
        one_led a.question.arrivals h.taken (slice_index_or before place None) (slice_index_or after place None) (first (get_or old place w)) (left (get_or new place w)) (get_or old place w) (get_or new place w)
        (made place w lt) (written place w lt) (unfound place w lt) (h.each place w (omega (arith, lt, long)));
  }

  all_written : IsWritten new after
  all_written place w lt broken =
      ap (λ (o : Option (List (Option Way))). is_some o) (h.each place w lt ∙ ap (λ (b : Bool). option_or (slice_index_or before place None) (cond b None (Some h.taken))) broken)
      ∙ go (slice_index_or before place None)
    where
      go : (o : Option (List (Option Way))) → is_some (option_or o (Some h.taken)) ≡ true
      go None = refl
      go (Some other) = refl

-- ## where all are passed over

still_none : (v : Verdict) (o : Option ℕ) → is_open (broken_or v o) ≡ true → o ≡ None
still_none v None is = refl
still_none v (Some turn) is = absurd (true≢false (sym is))

turn_in : Verdict → ℕ
turn_in (Open kept) = 0
turn_in (Broken turn) = turn

broken_some : (v : Verdict) (o : Option ℕ) (turn : ℕ) → broken_or v o ≡ Broken turn → is_open v ≡ true → o ≡ Some turn
unfolding turn_in
broken_some v None turn is looked = absurd (true≢false (sym looked ∙ ap (λ (u : Verdict). is_open u) is))
broken_some v (Some other) turn is looked = ap (λ (n : ℕ). Some n) (ap turn_in is)

module _ (a : Asking) (at : Position) (came : Course) (past : length a.question.arrivals ≤ at.next) where
  abbrev ps : List Placed
  ps = party_in a.question.arrivals at.pending

  abbrev passing : Fork
  passing = record { came = came; passed = ps; rest = [] }

  abbrev beginning : Fork
  beginning = record { came = came; passed = []; rest = ps }

  left_passing : (turn : ℕ) → left_at a at came turn ≡ schedules_on a turn passing
  left_passing turn = ap (λ (f : Fork). left_in a turn came f.passed f.rest at.choice) (all_passed a at came past)

  left_beginning : (now later : ℕ) → onward a later beginning ≡ onward a now passing → left_at a (at_first at) came later ≡ schedules_on a now passing
  left_beginning now later same =
      ap (λ (f : Fork). left_in a later came f.passed f.rest 0) (none_passed a (at_first at) came refl)
      ∙ left_is_on a later came [] ps
      ∙ ap (λ (l : List Course). map (with_onward a passing) l) same

  -- the run ends
  one_finished : (s : State) (board : ScriptData) (e : End) (taken : List (Option Way)) (rest : List Schedule) → IsFork a passing → AreEquivalent board (scheduled a.scenario (ways_in a passing)).script →
      ending (with_script a.scenario board) (a.limit - s.turn) s ≡ Some e → left_at a at came s.turn ≡ schedule_in a.question.arrivals taken ∷ rest → (w : Judged) →
      IsMadeOf a.question.arrivals taken (first_left a at came s w) None w (finished_at e s w)
  one_finished s board e taken rest fork good is first w = record {
    property = refl;
    broken = λ turn broken. ap (finished w.0 e s) broken;
    still = λ looked.
        ap (first_with (decided a w s)) (left_passing s.turn)
        ∙ first_none (decided a w s) (with_onward a passing) (onward a s.turn passing) (λ more has. each more has ∙ still_none w.1 (ended w.0 w.1 e s) looked);
    found = λ turn broken looked.
        ap (first_with (decided a w s)) (left_passing s.turn)
        ∙ first_is (decided a w s) (with_onward a passing) (onward a s.turn passing) (schedule_in a.question.arrivals taken) rest turn (sym (left_passing s.turn) ∙ first)
        (λ more has. each more has ∙ broken_some w.1 (ended w.0 w.1 e s) turn broken looked);
  }
    where
      each : (more : Course) → Contains (onward a s.turn passing) more → decided a w s (with_onward a passing more) ≡ ended w.0 w.1 e s
      each more has = decided_at_end a passing s board w more e fork good has is

  -- it goes on
  one_played : (s u : State) (taken : List (Option Way)) (rest : List Schedule) (old new : Judged) → onward a u.turn beginning ≡ onward a s.turn passing → left_at a at came s.turn ≡ schedule_in a.question.arrivals taken ∷ rest →
      IsAsBefore a passing s u old new → IsMadeOf a.question.arrivals taken (first_left a at came s old) (first_left a (at_first at) came u new) old new
  one_played s u taken rest old new same first known = record {
    property = known.property;
    broken = known.broken;
    still = λ looked.
        ap (first_with (decided a old s)) (left_passing s.turn)
        ∙ first_as (decided a old s) (decided a new u) (with_onward a passing) (onward a s.turn passing) known.same
        ∙ sym (ap (first_with (decided a new u)) (left_beginning s.turn u.turn same));
    found = λ turn broken looked.
        ap (first_with (decided a old s)) (left_passing s.turn)
        ∙ first_is (decided a old s) (with_onward a passing) (onward a s.turn passing) (schedule_in a.question.arrivals taken) rest turn (sym (left_passing s.turn) ∙ first)
        (λ more has. known.same more has ∙ ap (λ (v : Verdict). broken_by new.0 (scheduled a.scenario (with_onward a passing more)) (a.limit - u.turn) v u) broken);
  }

-- ## what turns do not change

fixed_then : (s u v : State) → IsFixed s u → IsFixed u v → IsFixed s v
fixed_then s u v one two = record { lines = two.lines ∙ one.lines; sites = two.sites ∙ one.sites; ram = two.ram ∙ one.ram }

last_here : (t : State) (o : Option End) → (unless t o (ended_at t Bound)).last ≡ t
last_here t None = refl
last_here t (Some e) = refl

last_of_one : (x : Scenario) (s : State) → ending x 1 s ≡ None → (run Calls x 1 s).last ≡ (turn Calls x s).state
unfolding run
last_of_one x s goes =
    let t = (turn Calls x s).state in
    ap (λ (o : Option End). (unless s o (with_front (at_turn s.turn (turn Calls x s).notes) (run Calls x 0 t))).last) goes ∙ last_here t (ending x 0 t)

turns_fixed : (x : Scenario) (n : ℕ) (s : State) → ((k : ℕ) → k < n → Sane x.setup (state_after Calls x k s)) → ((k : ℕ) → k < n → ending x 1 (state_after Calls x k s) ≡ None) → IsFixed s (state_after Calls x n s)
unfolding state_after
turns_fixed x zero s sane goes = record { lines = refl; sites = refl; ram = refl }
turns_fixed x (suc n) s sane goes =
    let u = state_after Calls x n s in
    let before = turns_fixed x n s (λ k lt. sane k (omega (arith, lt))) (λ k lt. goes k (omega (arith, lt))) in
    let one : IsFixed u (turn Calls x u).state = subst (IsFixed u) (last_of_one x u (goes n (omega arith))) (fixed_run Calls x 1 u (sane n (omega arith))) in
    subst (λ (t : Turn). IsFixed s t.state) (sym (last_turn Calls x n s)) (fixed_then s u (turn Calls x u).state before one)

as_many_devices : (s u : State) → sites u.devices ≡ sites s.devices → length u.devices ≡ length s.devices
as_many_devices s u same = sym (many u.devices) ∙ ap (λ (l : List (Kind × ℕ)). length l) same ∙ many s.devices
  where
    many : (ds : List DeviceData) → length (sites ds) ≡ length ds
    many ds = length-map ds (λ (d : DeviceData). (d.kind, d.base))

-- ## a run that goes on has made a turn

module _ (x : Scenario) (s : State) (to : ℕ) (ws new : List Judged) (looked : are_open ws ≡ true) (goes : ending x 1 s ≡ None) (later : s.turn < to) where
  not_through : IsThrough x to s ws → ⊥
  not_through (inl none) = true≢false (sym looked ∙ none)
  not_through (inr ends) =
      let left : to - s.turn ≡ suc (to - s.turn - 1) = omega (arith, later) in
      let goes_on : ending x (to - s.turn) s ≡ None = ap (λ (n : ℕ). ending x n s) left ∙ goes_too x x.script (to - s.turn - 1) s refl goes in
      true≢false (sym ends ∙ ap (λ (o : Option End). is_some o) goes_on)

  some_turn : (n : ℕ) → new ≡ map (after_turns x n s) ws → IsThrough x to (state_after Calls x n s) new → 0 < n
  unfolding state_after
  some_turn zero is through = absurd (not_through (subst (λ (l : List Judged). IsThrough x to s l) (is ∙ sym (none_yet x s ws)) through))
  some_turn (suc n) is through = omega arith

-- ## nothing is left

one_none : (w : Judged) (before : Option Schedule) (first : First) → (is_open w.1 ≡ true → first ≡ None) → Leads w w before before first None
one_none w before first none = record { property = refl; broken = λ turn is. (is, refl); looked = λ is. go w.1 is (none is) }
  where
    go : (v : Verdict) → is_open v ≡ true → first ≡ None → IsLedTo before before first None v
    go (Open kept) is nothing = (refl, nothing)
    go (Broken turn) is nothing = absurd (true≢false (sym is))

none_left : (a : Asking) (first : Judged → First) (ws : List Judged) (found : Founds) → ((place : ℕ) (w : Judged) → place < length ws → is_open (get_or ws place w).1 ≡ true → first (get_or ws place w) ≡ None) → LeadAll a ws ws found found first nothing_left
none_left a first ws found none = record { long = refl; each = λ place w lt. one_none (get_or ws place w) (found_at a found place) (first (get_or ws place w)) (none place w lt) }

-- ## where it stands

module _ {X : Type 0} {H : X → Type 0} (shown : Shows X H) (given : Given) (a : Asking) (at : Position) (came : Course) (s : State) (old : Search X H) (asked : IsAsked a given) (h : IsAt shown a at came s old)
    (past : length a.question.arrivals ≤ at.next) where
  abbrev board : ScriptData
  board = script_data (script_of old.board)

  abbrev x : Scenario
  x = with_script a.scenario board

  abbrev ws : List Judged
  ws = watched_of old.watch

  fork_now : IsFork a (passing a at came past)
  fork_now = subst (IsFork a) (all_passed a at came past) h.way.fork

  script_now : AreEquivalent board (scheduled a.scenario (ways_in a (passing a at came past))).script
  script_now = subst (λ (f : Fork). AreEquivalent board (scheduled a.scenario (ways_in a f)).script) (all_passed a at came past) h.way.script

  first_taken : (taken : List (Option Way)) → AreEarliest a.question.arrivals at.pending (s.turn + 1) old.ways taken → All (λ (p : Placed). s.turn + 1 < p.1.below) (party_in a.question.arrivals at.pending) →
      (rest : List Schedule) × (left_at a at came s.turn ≡ schedule_in a.question.arrivals taken ∷ rest)
  first_taken taken early alive = earliest_first a at came s.turn old.ways taken h.ways h.way.fork.apart early asked.fine past alive

  -- where an arrival can come no more, nothing is left
  nothing_more : IsTooLate s.turn (party_in a.question.arrivals at.pending) → (w : Judged) → first_left a at came s w ≡ None
  unfolding first_with
  nothing_more late w =
      ap (λ (f : Fork). first_with (decided a w s) (left_in a s.turn came f.passed f.rest at.choice)) (all_passed a at came past)
      ∙ ap (first_with (decided a w s)) (too_late_left a s.turn came (party_in a.question.arrivals at.pending) at.choice late)

  too_late : IsTooLate s.turn (party_in a.question.arrivals at.pending) → HasEnded shown a at came s old old
  too_late late = record {
    leads = none_left a (first_left a at came s) ws old.found (λ place w lt is. nothing_more late (get_or ws place w));
    written = h.written;
    room = record { spare = h.room.spare; listed = h.room.listed };
    state = s;
    stands = h.way.stands;
    sites = h.way.sites;
  }

  -- the run ends
  run_ended : (watch : Watch) (found : Founds) (e : End) → watched_of watch ≡ map (finished_at e s) ws → HasWritten a.question.arrivals at.pending (s.turn + 1) old.ways (watched_of watch) old.found found →
      All (λ (p : Placed). s.turn + 1 < p.1.below) (party_in a.question.arrivals at.pending) → ending x (a.limit - s.turn) s ≡ Some e → HasEnded shown a at came s old (record old { watch = watch; found = found })
  run_ended watch found e is wrote alive end =
      let first = first_taken wrote.taken wrote.early alive in
      record {
        leads =
            all_led a at.pending (s.turn + 1) old.ways ws (watched_of watch) old.found found wrote (first_left a at came s) nothing_left (ap (λ (l : List Judged). length l) is ∙ length-map ws (finished_at e s))
            (λ place w lt.
            let here : get_or (watched_of watch) place w ≡ finished_at e s (get_or ws place w) = ap (λ (l : List Judged). get_or l place w) is ∙ get_or-map (finished_at e s) ws place w w lt in
            subst (λ (v : Judged). IsMadeOf a.question.arrivals wrote.taken (first_left a at came s (get_or ws place w)) None (get_or ws place w) v) (sym here)
            (one_finished a at came past s board e wrote.taken first.0 fork_now script_now end first.1 (get_or ws place w)))
            h.written h.unfound;
        written = all_written a at.pending (s.turn + 1) old.ways ws (watched_of watch) old.found found wrote;
        room = record { spare = h.room.spare; listed = h.room.listed };
        state = s;
        stands = h.way.stands;
        sites = h.way.sites;
      }

  -- it is played on
  module _ (b : Board X H) (watch : Watch) (found : Founds) (to : ℕ) (played : HasPlayed shown x s to ws (watched_of watch) b) (wrote : HasWritten a.question.arrivals at.pending (s.turn + 1) old.ways (watched_of watch) old.found found)
      (alive : All (λ (p : Placed). s.turn + 1 < p.1.below) (party_in a.question.arrivals at.pending)) (looked : are_open ws ≡ true) (goes : ending x 1 s ≡ None) (later : s.turn < to) (within : to ≤ a.limit)
      (none : (t : ℕ) → s.turn < t → t < to → All (λ (p : Placed). may_come_in p.1 t ≡ false) (party_in a.question.arrivals at.pending)) where
    abbrev n : ℕ
    n = played.n

    abbrev u : State
    u = state_after Calls x n s

    abbrev played_there : Search X H
    played_there = record old { board = b; watch = watch; found = found }

    sane : Sane a.scenario.setup s
    sane = h.way.stands.sane

    some : 0 < n
    some = some_turn x s to ws (watched_of watch) looked goes later n played.judged played.through

    turn_later : s.turn < u.turn
    turn_later = let is = turn_after_turns x n s sane in let more = some in omega (arith, is, more)

    goes_on : GoesOnTo a (passing a at came past) (beginning a at came past) s u ws (watched_of watch)
    goes_on =
        played_on a came (party_in a.question.arrivals at.pending) s to n board ws (watched_of watch) sane fork_now script_now some played.within within (λ t low high. none t (omega (arith, low)) high)
        (λ k lt. (played.playing k lt).goes) played.judged

    leads : LeadAll a ws (watched_of watch) old.found found (first_left a at came s) (first_left a (at_first at) came u)
    leads =
        let first = first_taken wrote.taken wrote.early alive in
        let R = IsAsBefore a (passing a at came past) s u in
        all_led a at.pending (s.turn + 1) old.ways ws (watched_of watch) old.found found wrote (first_left a at came s) (first_left a (at_first at) came u) (sym (length_all_zip R ws (watched_of watch) goes_on.known))
        (λ place w lt. one_played a at came past s u wrote.taken first.0 (get_or ws place w) (get_or (watched_of watch) place w) goes_on.onward first.1 (AllZip-get_or R ws (watched_of watch) place w w goes_on.known lt))
        h.written h.unfound

    fixed : IsFixed s u
    fixed = turns_fixed x n s (λ k lt. sane_turns Calls x k s sane) (λ k lt. (played.playing k lt).goes)

    same_script : script_data (script_of b) ≡ board
    same_script = played.stands.holds.script

    same_pending : pending (fork_at a at came) ≡ pending (fork_at a (at_first at) came)
    same_pending = pending_at a at came ∙ sym (pending_at a (at_first at) came)

    way_on : IsOnWay shown a (fork_at a (at_first at) came) b u
    way_on = record {
      fork = record {
        order = subst (Ascends 0) same_pending h.way.fork.order;
        apart = subst (λ (l : List Placed). All (λ (c : ℕ × Coming). at_place c.0 l ≡ None) came) same_pending h.way.fork.apart;
        offered = subst (λ (l : List Placed). All (λ (p : Placed). 0 < length p.1.offers) l) same_pending h.way.fork.offered;
        below = subst (λ (l : List Placed). All (λ (p : Placed). p.1.below ≤ end_of a.question.arrivals) l) same_pending h.way.fork.below;
      };
      stands = with_own shown a.scenario board b u played.stands;
      sites = fixed.sites ∙ h.way.sites;
      script = script_on;
    }
      where
        script_on : AreEquivalent (script_data (script_of b)) (scheduled a.scenario (ways_in a (fork_at a (at_first at) came))).script
        script_on = subst (λ (d : ScriptData). AreEquivalent d (scheduled a.scenario (ways_in a (fork_at a (at_first at) came))).script) (sym same_script)
            (subst (λ (l : List Placed). AreEquivalent board (scheduled a.scenario (map (way_by came l) (placed a.question.arrivals 0))).script) same_pending h.way.script)

    long_on : length (spelling (reduced u)) ≡ length (spelling (reduced s))
    long_on =
        let tasks : length u.tasks ≡ length s.tasks = sym (as_many_tasks a.scenario s u sane played.stands.sane) in
        let devices = as_many_devices s u fixed.sites in
        spelling_long a.scenario.setup u played.stands.sane ∙ (λ i. total (tasks i) (devices i) (fixed.ram i)) ∙ sym (spelling_long a.scenario.setup s sane)

    there_on : AllThere u (watched_of watch)
    there_on =
        let before = all_there_still s u ws (as_many_tasks a.scenario s u sane played.stands.sane) h.there in
        subst (AllThere u) (sym played.judged) (All-map (λ (w : Judged). AreThere w.0 u) (after_turns x n s) ws before)

    stands_on : IsAt shown a (at_first at) came u played_there
    stands_on = record {
      way = way_on;
      ways = h.ways ∙ ap (λ (l : List Placed). map (way_by came l) (placed a.question.arrivals 0)) same_pending;
      range = h.range;
      come = h.come;
      room = record { spare = h.room.spare; listed = ap (λ (d : ScriptData). length d.events) same_script ∙ h.room.listed };
      few = let before = played.within in omega (arith, before, within);
      long = long_on ∙ h.long;
      there = there_on;
      written = all_written a at.pending (s.turn + 1) old.ways ws (watched_of watch) old.found found wrote;
      unfound = unfound_on a ws (watched_of watch) old.found found (first_left a at came s) (first_left a (at_first at) came u) leads h.unfound;
    }

    run_played : HasLed shown a at (at_first at) came s old played_there
    run_played = record { state = u; stands = stands_on; events = refl; leads = leads }

-- ## it is played on, and looked whether the state was seen

module _ {X : Type 0} {H : X → Type 0} (shown : Shows X H) (given : Given) (at : Position) (old mid : Search X H) (seen_same : mid.seen ≡ old.seen)
    (led : (a : Asking) (came : Course) (s : State) → IsAsked a given → IsAt shown a at came s old → HasLed shown a at (at_first at) came s old mid) (seen : Seen) (room : Vec ℕ Global) (later : turns_of old.board < turns_of mid.board) where
  abbrev after : Search X H
  after = record mid { seen = seen; here = room }

  goes_there : HasKeptState shown given (at_first at) mid after → GoesOn shown given at (at_first at) old after
  goes_there kept = record {
    led = λ a came s asked h table.
        let one = led a came s asked h in
        record { state = one.state; stands = at_same shown a (at_first at) came one.state mid seen room one.stands; events = one.events; leads = one.leads };
    owed = λ a came s asked h table.
        let one = led a came s asked h in
        let R : Slot → Slot → Type 0 = λ before now. (now ≡ before) ⊎ IsOwed shown a (at_first at) came after now in
        let S : Slot → Slot → Type 0 = λ before now. (now ≡ before) ⊎ (IsCleanIn a (watched_of after.watch) now ⊎ IsOwed shown a (at_first at) came after now) in
        zip_weaker R S (λ before now r. weaker a came before now r) old.seen.slots.items seen.slots.items
        (subst (λ (t : Seen). AllZip R t.slots.items seen.slots.items) seen_same (kept.owed a came one.state asked one.stands refl refl));
  }
    where
      weaker : (a : Asking) (came : Course) (before now : Slot) → (now ≡ before) ⊎ IsOwed shown a (at_first at) came after now → (now ≡ before) ⊎ (IsCleanIn a (watched_of after.watch) now ⊎ IsOwed shown a (at_first at) came after now)
      weaker a came before now (inl same) = inl same
      weaker a came before now (inr owed) = inr (inr owed)

  ends_there : WasSeen shown given (at_first at) mid after → Ends shown given at old after
  ends_there was = record {
    ended = λ a came s asked h table.
        let one = led a came s asked h in
        let among = fewer_live a (watched_of old.watch) (watched_of mid.watch) old.found mid.found (first_left a at came s) (first_left a (at_first at) came one.state) one.leads in
        let there : AreSeen a s.turn (watched_of mid.watch) mid.seen = subst (λ (t : Seen). AreSeen a s.turn (watched_of mid.watch) t) (sym seen_same) (fewer_seen a s.turn (watched_of old.watch) (watched_of mid.watch) old.seen among table) in
        let first = h.way.stands.holds.turns in
        let second = one.stands.way.stands.holds.turns in
        let none = was.none a came one.state s.turn asked one.stands refl refl (omega (arith, first, second, later)) there in
        record {
          leads =
              lead_then a (watched_of old.watch) (watched_of mid.watch) (watched_of mid.watch) old.found mid.found mid.found (first_left a at came s) (first_left a (at_first at) came one.state) nothing_left one.leads
              (none_left a (first_left a (at_first at) came one.state) (watched_of mid.watch) mid.found
              (λ place w lt is.
              let q : ℕ × Property = (place, (get_or (watched_of mid.watch) place w).0) in
              none q (subst (λ (k : ℕ). Contains (live (watched_of mid.watch)) (k, (get_or (watched_of mid.watch) place w).0)) (let e : 0 + place ≡ place = omega arith in e) (there_live (watched_of mid.watch) 0 place w lt is)) w));
          written = one.stands.written;
          room = let r = subst (λ (k : ℕ). HasRoomFor k mid) one.events one.stands.room in record { spare = r.spare; listed = r.listed };
          state = one.state;
          stands = one.stands.way.stands;
          sites = one.stands.way.sites;
        };
    kept = λ a came s asked h table.
        let R : Slot → Slot → Type 0 = λ before now. (now ≡ before) ⊎ IsCleanIn a (watched_of mid.watch) now in
        subst (λ (t : Seen). AllZip R old.seen.slots.items t.slots.items) (sym (was.table ∙ seen_same)) (zip_itself R (λ slot. inl refl) old.seen.slots.items);
  }

-- ## as the code has it

module _ {X : Type 0} {H : X → Type 0} (shown : Shows X H) (given : Given) (at : Position) (old : Search X H) (turn : ℕ) (turns : turn ≡ turns_of old.board) where
  abbrev arrivals : List Arrival
  arrivals = (question_data given.question).arrivals

  asks : (a : Asking) → IsAsked a given → arrivals ≡ a.question.arrivals
  asks a asked = ap (λ (q : Question). q.arrivals) asked.is.question

  turn_here : (a : Asking) (came : Course) (s : State) → IsAt shown a at came s old → turn ≡ s.turn
  turn_here a came s h = turns ∙ h.way.stands.holds.turns

  -- one of those that are to come can come no more
  pub ends_late : IsTooLate turn (party_in arrivals at.pending) → length arrivals ≤ at.next → Ends shown given at old old
  ends_late late past = record {
    ended = λ a came s asked h table.
        let same = asks a asked in
        let here = turn_here a came s h in
        too_late shown given a at came s old asked h (subst (λ (l : List Arrival). length l ≤ at.next) same past) (subst (λ (l : List Arrival). IsTooLate s.turn (party_in l at.pending)) same (subst (λ (t : ℕ). IsTooLate t (party_in arrivals at.pending)) here late));
    kept = λ a came s asked h table.
        let R : Slot → Slot → Type 0 = λ before now. (now ≡ before) ⊎ IsCleanIn a (watched_of old.watch) now in
        zip_itself R (λ slot. inl refl) old.seen.slots.items;
  }

  module _ (past : length arrivals ≤ at.next) (alive : All (λ (p : Placed). turns_of old.board + 1 < p.1.below) (party_in arrivals at.pending)) (watch : Watch) (found : Founds)
      (wrote : HasWritten arrivals at.pending (turn + 1) old.ways (watched_of watch) old.found found) where
    past_in : (a : Asking) → IsAsked a given → length a.question.arrivals ≤ at.next
    past_in a asked = subst (λ (l : List Arrival). length l ≤ at.next) (asks a asked) past

    alive_in : (a : Asking) (came : Course) (s : State) → IsAsked a given → IsAt shown a at came s old → All (λ (p : Placed). s.turn + 1 < p.1.below) (party_in a.question.arrivals at.pending)
    alive_in a came s asked h =
        subst (λ (l : List Arrival). All (λ (p : Placed). s.turn + 1 < p.1.below) (party_in l at.pending)) (asks a asked)
        (subst (λ (t : ℕ). All (λ (p : Placed). t + 1 < p.1.below) (party_in arrivals at.pending)) h.way.stands.holds.turns alive)

    wrote_in : (a : Asking) (came : Course) (s : State) → IsAsked a given → IsAt shown a at came s old → HasWritten a.question.arrivals at.pending (s.turn + 1) old.ways (watched_of watch) old.found found
    wrote_in a came s asked h =
        subst (λ (l : List Arrival). HasWritten l at.pending (s.turn + 1) old.ways (watched_of watch) old.found found) (asks a asked)
        (subst (λ (t : ℕ). HasWritten arrivals at.pending (t + 1) old.ways (watched_of watch) old.found found) (turn_here a came s h) wrote)

    pub ends_run : (e : End) → ((x : Scenario) (s : State) → Stands shown x old.board s → ending x (given.limit - s.turn) s ≡ Some e) →
        ((x : Scenario) (s : State) → Stands shown x old.board s → AllThere s (watched_of old.watch) → watched_of watch ≡ map (finished_at e s) (watched_of old.watch)) → Ends shown given at old (record old { watch = watch; found = found })
    ends_run e ends judged = record {
      ended = λ a came s asked h table.
          let x = with_script a.scenario (script_data (script_of old.board)) in
          run_ended shown given a at came s old asked h (past_in a asked) watch found e (judged x s h.way.stands h.there) (wrote_in a came s asked h) (alive_in a came s asked h)
          (subst (λ (limit : ℕ). ending x (limit - s.turn) s ≡ Some e) asked.is.limit (ends x s h.way.stands));
      kept = λ a came s asked h table.
          let R : Slot → Slot → Type 0 = λ before now. (now ≡ before) ⊎ IsCleanIn a (watched_of watch) now in
          zip_itself R (λ slot. inl refl) old.seen.slots.items;
    }

    module _ (b : Board X H) (to : ℕ) (looked : are_open (watched_of old.watch) ≡ true) (goes : (x : Scenario) (s : State) → Stands shown x old.board s → ending x 1 s ≡ None) (later : turns_of old.board < to) (within : to ≤ given.limit)
        (none : (t : ℕ) → turns_of old.board < t → t < to → All (λ (p : Placed). may_come_in p.1 t ≡ false) (party_in arrivals at.pending))
        (played : (x : Scenario) (s : State) → Stands shown x old.board s → AllThere s (watched_of old.watch) → HasPlayed shown x s to (watched_of old.watch) (watched_of watch) b) where
      module _ (a : Asking) (came : Course) (s : State) (asked : IsAsked a given) (h : IsAt shown a at came s old) where
        abbrev own : Scenario
        own = with_script a.scenario (script_data (script_of old.board))

        later_in : s.turn < to
        later_in = let is = h.way.stands.holds.turns in omega (arith, is, later)

        within_in : to ≤ a.limit
        within_in = let is = asked.is.limit in omega (arith, is, within)

        none_in : (t : ℕ) → s.turn < t → t < to → All (λ (p : Placed). may_come_in p.1 t ≡ false) (party_in a.question.arrivals at.pending)
        none_in t low high =
            let is = h.way.stands.holds.turns in
            subst (λ (l : List Arrival). All (λ (p : Placed). may_come_in p.1 t ≡ false) (party_in l at.pending)) (asks a asked) (none t (omega (arith, is, low)) high)

        pub led_on : HasLed shown a at (at_first at) came s old (record old { board = b; watch = watch; found = found })
        led_on =
            run_played shown given a at came s old asked h (past_in a asked) b watch found to (played own s h.way.stands h.there) (wrote_in a came s asked h) (alive_in a came s asked h) looked (goes own s h.way.stands) later_in within_in none_in

        pub later_on : turns_of old.board < turns_of b
        later_on =
            let made = played own s h.way.stands h.there in
            let more = turn_later shown given a at came s old asked h (past_in a asked) b watch found to made (wrote_in a came s asked h) (alive_in a came s asked h) looked (goes own s h.way.stands) later_in within_in none_in in
            let first = h.way.stands.holds.turns in
            let second = made.stands.holds.turns in
            omega (arith, first, second, more)

pub was_false : (b : Bool) → not b ≡ true → b ≡ false
was_false false is = refl
was_false true is = absurd (true≢false (sym is))

pub was_true : (b : Bool) → not b ≡ false → b ≡ true
was_true true is = refl
was_true false is = absurd (true≢false is)

module _ {X : Type 0} {H : X → Type 0} (shown : Shows X H) (given : Given) (at next : Position) (old mid new : Search X H) (first : next ≡ at_first at) (played : mid ≡ (record old { board = mid.board; watch = mid.watch; found = mid.found }))
    (led : (a : Asking) (came : Course) (s : State) → IsAsked a given → IsAt shown a at came s old → HasLed shown a at next came s old mid) (same : new ≡ (record mid { seen = new.seen; here = new.here })) (later : turns_of old.board < turns_of mid.board) where
  seen_still : mid.seen ≡ old.seen
  seen_still = ap (λ (w : Search X H). w.seen) played

  led_first : (a : Asking) (came : Course) (s : State) → IsAsked a given → IsAt shown a at came s old → HasLed shown a at (at_first at) came s old mid
  led_first a came s asked h = subst (λ (p : Position). HasLed shown a at p came s old mid) first (led a came s asked h)

  pub goes_as : HasKeptState shown given next mid new → GoesOn shown given at next old new
  goes_as kept =
      let there = subst (λ (p : Position). HasKeptState shown given p mid (record mid { seen = new.seen; here = new.here })) first (subst (λ (w : Search X H). HasKeptState shown given next mid w) same kept) in
      let one = goes_there shown given at old mid seen_still led_first new.seen new.here later there in
      subst (λ (w : Search X H). GoesOn shown given at next old w) (sym same) (subst (λ (p : Position). GoesOn shown given at p old (record mid { seen = new.seen; here = new.here })) (sym first) one)

  pub ends_as : WasSeen shown given next mid new → Ends shown given at old new
  ends_as was =
      let there = subst (λ (p : Position). WasSeen shown given p mid (record mid { seen = new.seen; here = new.here })) first (subst (λ (w : Search X H). WasSeen shown given next mid w) same was) in
      subst (λ (w : Search X H). Ends shown given at old w) (sym same) (ends_there shown given at old mid seen_still led_first new.seen new.here later there)
