-- Where a search stands: at a turn of the runs of some schedules, which are left to go through; and what it has found.
use Rattle.std.specs.Prelude.{Vec, ℕ, ◌≡◌, ◌<◌, ◌≤◌, ◌+◌, ◌-◌, ◌*◌, ◌&&◌, ◌⊎◌, max, if◌then◌else◌, nat_lt, not, Bool, true, false, is_some, List, [], ◌∷◌, ◌++◌, length, map, drop, filter, get_or, slice_get, slice_index, slice_index_or, slice_set, Contains, Option, Some, None, ⊤}
use Rattle.std.specs.declared.alloc.Global.{Global}
use Rattle.std.specs.Option.{option_map, option_or}
use Rattle.std.specs.List.{All, AllZip}
use Rattle.run_script.specs.Events.{script_data}
use Rattle.run_script.specs.Laying.{HasRoom}
use Rattle.task_table.specs.model.State.{State}
use Rattle.task_table.specs.model.Sane.{IsCounted, Sane}
use Rattle.board_model.specs.Alike.{reduced}
use Rattle.board_model.specs.Laid.{is_script, with_script}
use Rattle.board_model.specs.Script.{Scenario, start_of}
use Rattle.board_core.specs.Data.{Shows}
use Rattle.board_core.specs.Stands.{Holds, Stands, script_of, turns_of}
use Rattle.snapshot.specs.Loaded.{IsSpelledBy, sites}
use Rattle.snapshot.specs.Saved.{SpellsState, spelling}
use Rattle.run_question.specs.Questions.{question_data}
use Rattle.run_question.specs.Reading.{choice_count}
use Rattle.run_question.specs.declared.asked.Property.{Property}
use Rattle.explore_core.specs.declared.given.Given.{Given}
use Rattle.explore_core.specs.declared.position.Position.{Position}
use Rattle.explore_core.specs.declared.search.Search.{Search}
use Rattle.explore_core.specs.declared.seen.Seen.{Seen}
use Rattle.explore_core.specs.declared.seen.Slot.{Slot}
use Rattle.explore_core.specs.declared.verdict.Verdict.{Verdict}
use Rattle.explore_core.specs.declared.verdict.Verdict.TheVariants.{Open, Broken}
use Rattle.explore_core.specs.declared.ways.Way.{Way}
use Rattle.explore_core.specs.Answers.{Asking}
use Rattle.explore_core.specs.Clean.{AreClean, breaks_on, courses_from}
use Rattle.explore_core.specs.Exploring.{AreScripts, Fork, IsOnWay, decided, onward, pending, ways_in, with_onward}
use Rattle.explore_core.specs.Fine.{IsFine, IsFineArrival}
use Rattle.explore_core.specs.Found.{IsGiven}
use Rattle.explore_core.specs.Schedules.{Arrival, Coming, Schedule, events_of_schedule}
use Rattle.explore_core.specs.Walked.{Course, Placed, begun_by, comings_in, courses, courses_in, end_of, may_come_in, placed, schedule_of}
use Rattle.explore_core.specs.Watching.{AllThere, Judged, is_open, live, numbered, watched_of}
use Rattle.explore_core.specs.Ways.{AreWays, IsWay, coming_of, laid_by, schedule_in, way_at}

-- ## which arrivals are to come

-- the arrivals of which a list says so, by their places
abbrev pub party_in : List Arrival → List Bool → List Placed
party_in arrivals party = filter (λ p. slice_index_or party p.0 false) (placed arrivals 0)

-- those of them that have a place below a number, and those from it on
abbrev pub party_before : List Arrival → List Bool → ℕ → List Placed
party_before arrivals party next = filter (λ p. slice_index_or party p.0 false && nat_lt p.0 next) (placed arrivals 0)

abbrev pub party_from : List Arrival → List Bool → ℕ → List Placed
party_from arrivals party next = filter (λ p. slice_index_or party p.0 false && not (nat_lt p.0 next)) (placed arrivals 0)

-- the fork at a position: those before the next one are passed over in this turn
abbrev pub fork_at : Asking → Position → Course → Fork
fork_at a at came = record {
  came = came;
  passed = party_before a.question.arrivals at.pending at.next;
  rest = party_from a.question.arrivals at.pending at.next;
}

-- ## the schedules that are left

-- those that go on from a fork
abbrev pub schedules_on : Asking → ℕ → Fork → List Schedule
schedules_on a turn f = map (with_onward a f) (onward a turn f)

-- those that an arrival begins in this turn with a choice that is not below a number
abbrev pub begun_left : Asking → ℕ → Course → List Placed → Placed → List Placed → ℕ → List Schedule
begun_left a turn came passed q rest choice =
    map (λ more. schedule_of a.question.arrivals (came ++ more))
    (begun_by q.0 (drop choice (comings_in q.1 turn)) (courses_in (courses (end_of a.question.arrivals - (turn + 1)) (turn + 1)) turn passed rest))

-- those that are left where so many choices of the first of the rest were gone through
abbrev pub left_in : Asking → ℕ → Course → List Placed → List Placed → ℕ → List Schedule
left_in a turn came passed [] choice = schedules_on a turn (record { came = came; passed = passed; rest = [] })
left_in a turn came passed (q ∷ rest) choice =
    begun_left a turn came passed q rest choice ++ schedules_on a turn (record { came = came; passed = passed ++ q ∷ []; rest = rest })

abbrev pub left_at : Asking → Position → Course → ℕ → List Schedule
left_at a at came turn = left_in a turn came (fork_at a at came).passed (fork_at a at came).rest at.choice

-- the first that breaks a property, and in which turn
unfoldable pub first_with : (Schedule → Option ℕ) → List Schedule → Option (Schedule × ℕ)
first_with breaks [] = None
first_with breaks (schedule ∷ rest) = option_or (option_map (λ turn. (schedule, turn)) (breaks schedule)) (first_with breaks rest)

-- of those that are left, where the run has come to a state and so much is known of the property
abbrev pub first_left : Asking → Position → Course → State → Judged → Option (Schedule × ℕ)
first_left a at came s w = first_with (decided a w s) (left_at a at came s.turn)

-- ## what is found

abbrev pub found_schedule : List Arrival → Option (List (Option Way)) → Option Schedule
found_schedule arrivals found = option_map (schedule_in arrivals) found

abbrev pub found_at : Asking → List (Option (List (Option Way))) → ℕ → Option Schedule
found_at a found place = found_schedule a.question.arrivals (slice_index_or found place None)

-- while it is looked for, nothing is found, and the first of those that were left is the first of those that are; or it is the one that is found
abbrev pub IsLedTo : Option Schedule → Option Schedule → Option (Schedule × ℕ) → Option (Schedule × ℕ) → Verdict → Type 0
IsLedTo before after first left (Open kept) = (after ≡ before) × (first ≡ left)
IsLedTo before after first left (Broken turn) = (schedule : Schedule) × (after ≡ Some schedule) × (first ≡ Some (schedule, turn))

-- what a search has made of a property on its way
pub record Leads (old new : Judged) (before after : Option Schedule) (first left : Option (Schedule × ℕ)) : Type 0 where
  pub property : new.0 ≡ old.0
  pub broken : (turn : ℕ) → old.1 ≡ Broken turn → (new.1 ≡ Broken turn) × (after ≡ before)
  pub looked : is_open old.1 ≡ true → IsLedTo before after first left new.1

-- of each property, at its place
pub record LeadAll (a : Asking) (old new : List Judged) (before after : List (Option (List (Option Way)))) (first left : Judged → Option (Schedule × ℕ)) : Type 0 where
  pub long : length new ≡ length old
  pub each : (place : ℕ) (w : Judged) → place < length old →
      Leads (get_or old place w) (get_or new place w) (found_at a before place) (found_at a after place) (first (get_or old place w)) (left (get_or new place w))

-- ## where it stands

-- an arrival that comes does so in its range, with a choice that there is; one that may not fail comes
abbrev pub IsInRange : Arrival → Option Way → Type 0
IsInRange a None = a.may_fail ≡ true
IsInRange a (Some way) = (a.first ≤ way.turn) × (way.turn < a.below) × IsWay a (Some way)

abbrev pub AreInRange : ℕ → List Arrival → List (Option Way) → Type 0
AreInRange place [] ways = ⊤
AreInRange place (a ∷ rest) ways = IsInRange a (way_at ways place) × AreInRange (place + 1) rest ways

-- what has come at a place came as the ways say
pub record HasCome (arrivals : List Arrival) (ways : List (Option Way)) (c : ℕ × Coming) : Type 0 where
  pub arrival : Arrival
  pub at : slice_get arrivals c.0 ≡ Some arrival
  pub way : Way
  pub taken : way_at ways c.0 ≡ Some way
  pub same : c.1 ≡ coming_of arrival way

-- what is asked, and that each schedule of it is a script
pub record IsAsked (a : Asking) (given : Given) : Type 0 where
  pub is : IsGiven a given
  pub fine : IsFine a.question
  pub scripts : AreScripts a
  pub limit : a.limit ≤ 1000000000

-- how many events the script of some ways lists
abbrev pub events_in : Asking → List (Option Way) → ℕ
events_in a ways = length a.scenario.script.events + length (events_of_schedule (schedule_in a.question.arrivals ways))

-- the board's script lists so many events, and there is room for as many
pub record HasRoomFor {X : Type 0} {H : X → Type 0} (events : ℕ) (w : Search X H) : Type 0 where
  pub spare : HasRoom w.spare events
  pub listed : length (script_data (script_of w.board)).events ≡ events

-- a property that is broken has its schedule
abbrev pub IsWritten : List Judged → List (Option (List (Option Way))) → Type 0
IsWritten ws found = (place : ℕ) (w : Judged) → place < length ws → is_open (get_or ws place w).1 ≡ false → is_some (slice_index_or found place None) ≡ true

-- of one that is looked for, nothing is found yet
abbrev pub IsUnfound : List Judged → List (Option (List (Option Way))) → Type 0
IsUnfound ws found = (place : ℕ) (w : Judged) → place < length ws → is_open (get_or ws place w).1 ≡ true → slice_index_or found place None ≡ None

-- the board stands for a state, at a position, where these have come
pub record IsAt {X : Type 0} {H : X → Type 0} (shown : Shows X H) (a : Asking) (at : Position) (came : Course) (s : State) (w : Search X H) : Type 0 where
  pub way : IsOnWay shown a (fork_at a at came) w.board s
  pub ways : schedule_in a.question.arrivals w.ways ≡ ways_in a (fork_at a at came)
  pub range : AreInRange 0 a.question.arrivals w.ways
  pub come : All (HasCome a.question.arrivals w.ways) came
  pub room : HasRoomFor (events_in a w.ways) w
  pub few : s.turn ≤ a.limit
  pub long : length (spelling (reduced s)) ≡ length (spelling (reduced (start_of a.scenario)))
  pub there : AllThere s (watched_of w.watch)
  pub written : IsWritten (watched_of w.watch) w.found
  pub unfound : IsUnfound (watched_of w.watch) w.found

-- from a state at a position a search has come to another one at another position
pub record HasLed {X : Type 0} {H : X → Type 0} (shown : Shows X H) (a : Asking) (at later : Position) (came : Course) (s : State) (old new : Search X H) : Type 0 where
  pub state : State
  pub stands : IsAt shown a later came state new
  pub events : events_in a new.ways ≡ events_in a old.ways
  pub leads : LeadAll a (watched_of old.watch) (watched_of new.watch) old.found new.found (first_left a at came s) (first_left a later came state)

-- nothing is left of a property that is still looked for
abbrev pub nothing_left : Judged → Option (Schedule × ℕ)
nothing_left w = None

-- all schedules that were left were gone through; the board stands for some state of some run
pub record HasEnded {X : Type 0} {H : X → Type 0} (shown : Shows X H) (a : Asking) (at : Position) (came : Course) (s : State) (old new : Search X H) : Type 0 where
  pub leads : LeadAll a (watched_of old.watch) (watched_of new.watch) old.found new.found (first_left a at came s) nothing_left
  pub written : IsWritten (watched_of new.watch) new.found
  pub room : HasRoomFor (events_in a old.ways) new
  pub state : State
  pub stands : Stands shown (with_script a.scenario (script_data (script_of new.board))) new.board state
  pub sites : sites state.devices ≡ sites a.scenario.devices

-- ## the table

abbrev pub IsCleanIn : Asking → List Judged → Slot → Type 0
IsCleanIn a ws slot = slot.used ≡ true → AreClean a (live ws) (party_in a.question.arrivals slot.pending) slot.kept slot.state.items

-- each slot is clean, or of no turn behind this one, so that no state that comes is in it
abbrev pub AreSeen : Asking → ℕ → List Judged → Seen → Type 0
AreSeen a turn ws seen = All (λ slot. IsCleanIn a ws slot ⊎ (slot.turn ≤ turn)) seen.slots.items

-- each slot is as it was, or clean
abbrev pub AreKept : Asking → List Judged → Seen → Seen → Type 0
AreKept a ws old new = AllZip (λ before now. (now ≡ before) ⊎ IsCleanIn a ws now) old.slots.items new.slots.items

-- the search has come from each state that a slot's bytes spell. If nothing that is left breaks a property that is looked for, nothing from there does
pub record IsOwed {X : Type 0} {H : X → Type 0} (shown : Shows X H) (a : Asking) (at : Position) (came : Course) (w : Search X H) (slot : Slot) : Type 0 where
  pub turn : slot.turn ≤ turns_of w.board
  pub clean : (s : State) → IsSpelledBy a.scenario slot.state.items s → (u : State) × IsAt shown a at came u w
      × ((p : ℕ × Property) → Contains (live (watched_of w.watch)) p → (v : Judged) → first_left a at came u (get_or (watched_of w.watch) p.0 v) ≡ None →
      (course : Course) → Contains (courses_from a s.turn (party_in a.question.arrivals slot.pending)) course → breaks_on a p.1 course (slice_index slot.kept p.0) s ≡ None)

abbrev pub AreOwed : {X : Type 0} {H : X → Type 0} → Shows X H → Asking → Position → Course → Search X H → Seen → Type 0
AreOwed shown a at came w old = AllZip (λ before now. (now ≡ before) ⊎ (IsCleanIn a (watched_of w.watch) now ⊎ IsOwed shown a at came w now)) old.slots.items w.seen.slots.items

-- ## steps of a search

-- it goes on from one position to another
pub record GoesOn {X : Type 0} {H : X → Type 0} (shown : Shows X H) (given : Given) (at later : Position) (old new : Search X H) : Type 0 where
  pub led : (a : Asking) (came : Course) (s : State) → IsAsked a given → IsAt shown a at came s old → AreSeen a s.turn (watched_of old.watch) old.seen → HasLed shown a at later came s old new
  pub owed : (a : Asking) (came : Course) (s : State) → IsAsked a given → IsAt shown a at came s old → AreSeen a s.turn (watched_of old.watch) old.seen → AreOwed shown a later came new old.seen

-- it is at its end
pub record Ends {X : Type 0} {H : X → Type 0} (shown : Shows X H) (given : Given) (at : Position) (old new : Search X H) : Type 0 where
  pub ended : (a : Asking) (came : Course) (s : State) → IsAsked a given → IsAt shown a at came s old → AreSeen a s.turn (watched_of old.watch) old.seen → HasEnded shown a at came s old new
  pub kept : (a : Asking) (came : Course) (s : State) → IsAsked a given → IsAt shown a at came s old → AreSeen a s.turn (watched_of old.watch) old.seen → AreKept a (watched_of new.watch) old.seen new.seen

-- it stands somewhere
abbrev pub IsSomewhere : {X : Type 0} {H : X → Type 0} → Shows X H → Given → Position → Search X H → Type 0
IsSomewhere shown given at w = (a : Asking) × (came : Course) × (s : State) × IsAsked a given × IsAt shown a at came s w

-- the same, and the table is seen there
abbrev pub IsUnderWay : {X : Type 0} {H : X → Type 0} → Shows X H → Given → Position → Search X H → Type 0
IsUnderWay shown given at w = (a : Asking) × (came : Course) × (s : State) × IsAsked a given × IsAt shown a at came s w × AreSeen a s.turn (watched_of w.watch) w.seen

-- it stands somewhere, with room of so many bytes for its state
abbrev pub IsSomewhereWith : {X : Type 0} {H : X → Type 0} → Shows X H → Given → Position → Search X H → ℕ → Type 0
IsSomewhereWith shown given at w room =
    (a : Asking) × (came : Course) × (s : State) × IsAsked a given × IsAt shown a at came s w × (room ≡ length (spelling (reduced (start_of a.scenario))))

-- it is under way, with room for a state of each arrival that is to come
abbrev pub IsSomewhereAmong : {X : Type 0} {H : X → Type 0} → Shows X H → Given → Position → Search X H → List (Vec ℕ Global) → Type 0
IsSomewhereAmong shown given at w rooms =
    (a : Asking) × (came : Course) × (s : State) × IsAsked a given × IsAt shown a at came s w × AreSeen a s.turn (watched_of w.watch) w.seen
    × (length (party_in a.question.arrivals at.pending) ≤ length rooms) × All (λ r. length r.items ≡ length (spelling (reduced (start_of a.scenario)))) rooms

-- ## a state that is looked for

-- it was seen: where all slots are clean or of earlier turns, nothing that is left breaks a property that is looked for
pub record WasSeen {X : Type 0} {H : X → Type 0} (shown : Shows X H) (given : Given) (at : Position) (old new : Search X H) : Type 0 where
  pub table : new.seen ≡ old.seen
  pub none : (a : Asking) (came : Course) (s : State) (earlier : ℕ) → IsAsked a given → IsAt shown a at came s old → at.next ≡ 0 → at.choice ≡ 0 → earlier < s.turn → AreSeen a earlier (watched_of old.watch) old.seen →
      (p : ℕ × Property) → Contains (live (watched_of old.watch)) p → (v : Judged) → first_left a at came s (get_or (watched_of old.watch) p.0 v) ≡ None

-- it was not: nothing changes, or a slot has it now
pub record HasKeptState {X : Type 0} {H : X → Type 0} (shown : Shows X H) (given : Given) (at : Position) (old new : Search X H) : Type 0 where
  pub owed : (a : Asking) (came : Course) (s : State) → IsAsked a given → IsAt shown a at came s old → at.next ≡ 0 → at.choice ≡ 0 →
      AllZip (λ before now. (now ≡ before) ⊎ IsOwed shown a at came new now) old.seen.slots.items new.seen.slots.items

-- ## positions

abbrev pub may_come_now : ℕ → ℕ → Option Arrival → Bool
may_come_now turn choice None = false
may_come_now turn choice (Some a) = may_come_in a turn && nat_lt choice (choice_count a.offers)

-- the next arrival is to come, and may do so in this turn, in a choice that is left
abbrev pub is_way : List Arrival → ℕ → Position → Bool
is_way arrivals turn at = slice_index_or at.pending at.next false && may_come_now turn at.choice (slice_get arrivals at.next)

-- the next arrival may come in this turn, in a choice that is left
pub record IsNext (arrivals : List Arrival) (turn : ℕ) (at : Position) : Type 0 where
  pub arrival : Arrival
  pub there : slice_get arrivals at.next ≡ Some arrival
  pub pending : slice_index_or at.pending at.next false ≡ true
  pub may : may_come_in arrival turn ≡ true
  pub choice : at.choice < choice_count arrival.offers

-- one of some arrivals cannot come in a later turn
pub record IsTooLate (turn : ℕ) (ps : List Placed) : Type 0 where
  pub one : Placed
  pub among : Contains ps one
  pub late : one.1.below ≤ turn + 1

-- the position behind a choice, and behind the arrival that comes in it
abbrev pub behind : Position → Position
behind at = record at { choice = at.choice + 1 }

abbrev pub without_next : Position → Position
without_next at = record { pending = slice_set at.pending at.next false; next = at.next + 1; choice = 0 }

-- the start of a turn
abbrev pub at_first : Position → Position
at_first at = record { pending = at.pending; next = 0; choice = 0 }

-- how much there is to do in at most so many turns more: turns, places of a turn, choices of a place
abbrev pub to_do : ℕ → Position → ℕ
to_do turns at = (turns * 9 + (8 - at.next)) * 1000000000000000001 + (1000000000000000000 - at.choice)

-- ## ways

-- an arrival comes as early as it may, from a turn on
abbrev pub earliest : ℕ → Arrival → Way
earliest from a = record { turn = max a.first from; choice = 0 }

-- those that are to come do
abbrev pub earliest_at : List Arrival → List Bool → ℕ → List (Option Way) → ℕ → Option Way
earliest_at arrivals pending from ways place =
    if slice_index_or pending place false then option_map (earliest from) (slice_get arrivals place) else way_at ways place

abbrev pub AreEarliest : List Arrival → List Bool → ℕ → List (Option Way) → List (Option Way) → Type 0
AreEarliest arrivals pending from old new = (place : ℕ) → place < length arrivals → way_at new place ≡ earliest_at arrivals pending from old place

-- the schedule of each property that is broken and had none is written down
pub record HasWritten (arrivals : List Arrival) (pending : List Bool) (from : ℕ) (old : List (Option Way)) (ws : List Judged) (before after : List (Option (List (Option Way)))) : Type 0 where
  pub taken : List (Option Way)
  pub early : AreEarliest arrivals pending from old taken
  pub each : (place : ℕ) (w : Judged) → place < length ws →
      slice_index_or after place None ≡ option_or (slice_index_or before place None) (if is_open (get_or ws place w).1 then None else Some taken)

-- those that have come are over
abbrev pub AreOverAt : List Arrival → List Bool → ℕ → List (Option Way) → Type 0
AreOverAt arrivals pending turn ways =
    (place : ℕ) (a : Arrival) (way : Way) → slice_get arrivals place ≡ Some a → slice_index_or pending place false ≡ false → way_at ways place ≡ Some way → All (λ o. way.turn + o.turn < turn) a.offers

-- ## the script of the board

-- the script of the ways may be laid
pub record IsLayable {X : Type 0} {H : X → Type 0} (given : Given) (w : Search X H) : Type 0 where
  pub fine : All IsFineArrival (question_data given.question).arrivals
  pub few : length (question_data given.question).arrivals ≤ 8
  pub ways : AreWays 0 (question_data given.question).arrivals w.ways
  pub script : is_script ((script_data given.script).events ++ events_of_schedule (schedule_in (question_data given.question).arrivals w.ways)) ≡ true
  pub room : HasRoom w.spare (length (script_data given.script).events + length (events_of_schedule (schedule_in (question_data given.question).arrivals w.ways)))

-- the board goes on with it
pub record HasLaid {X : Type 0} {H : X → Type 0} (shown : Shows X H) (given : Given) (old new : Search X H) : Type 0 where
  pub same : new ≡ (record old { board = new.board; spare = new.spare })
  pub script : script_data (script_of new.board) ≡ laid_by (script_data given.script) (schedule_in (question_data given.question).arrivals old.ways)
  pub spare : new.spare ≡ script_of old.board
  pub holds : (x : Scenario) (s : State) → Holds shown x old.board s → Holds shown (with_script x (script_data (script_of new.board))) new.board s

-- ## a way of an arrival

-- the next arrival comes in this turn, in the choice that is next
abbrev pub next_way : ℕ → Position → Way
next_way turn at = record { turn = turn; choice = at.choice }

-- it has come
pub record HasBegun {X : Type 0} {H : X → Type 0} (shown : Shows X H) (given : Given) (at : Position) (old new : Search X H) : Type 0 where
  pub same : new ≡ (record old { board = new.board; ways = new.ways; spare = new.spare })
  pub turns : turns_of new.board ≡ turns_of old.board
  pub begun : (a : Asking) (came : Course) (s : State) → IsAsked a given → IsAt shown a at came s old → (arrival : Arrival) → slice_get a.question.arrivals at.next ≡ Some arrival →
      IsAt shown a (without_next at) (came ++ (at.next, coming_of arrival (next_way s.turn at)) ∷ []) s new
  pub events : (a : Asking) → IsAsked a given → (came : Course) (s : State) → IsAt shown a at came s old → events_in a new.ways ≡ events_in a old.ways

-- what was known before a way is known again, of each property that is still looked for
pub record IsBackAt (numbers : List ℕ) (now back : List Judged) : Type 0 where
  pub long : length back ≡ length now
  pub each : (place : ℕ) (w : Judged) → place < length now → get_or back place w ≡ numbered (slice_index numbers place) (get_or now place w)

-- the board is back at a state that was saved, with the ways of before
pub record HasReturned {X : Type 0} {H : X → Type 0} (shown : Shows X H) (given : Given) (ways : List (Option Way)) (saved numbers : List ℕ) (old new : Search X H) : Type 0 where
  pub same : new ≡ (record old { board = new.board; ways = ways; watch = new.watch; spare = new.spare })
  pub watched : IsBackAt numbers (watched_of old.watch) (watched_of new.watch)
  pub turns : (x : Scenario) (s : State) → SpellsState x.setup s saved → turns_of new.board ≡ s.turn
  pub stands : (x : Scenario) (v s : State) → Stands shown x old.board v → SpellsState x.setup s saved → Sane x.setup s → IsCounted s → sites s.devices ≡ sites v.devices → Stands shown (with_script x (script_data (script_of new.board))) new.board s
  pub script : script_data (script_of new.board) ≡ laid_by (script_data given.script) (schedule_in (question_data given.question).arrivals ways)
  pub spare : script_data new.spare ≡ script_data (script_of old.board)
