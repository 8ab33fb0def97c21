-- What is asked of a run: conditions of its states, and properties (docs/EXPLORE.md, Question).
use Rattle.std.specs.Prelude.{ℕ, ◌+◌, ◌-◌, ◌==◌, ◌&&◌, nat_le, nat_lt, Bool, true, false, not, if◌then◌else◌, find, length, min, bit_and, Option, Some, None, is_some, is_none}
use Rattle.std.specs.List.{list_any, list_all, range_with_len}
use Rattle.std.specs.Option.{option_map}
use Rattle.kernel_abi.specs.Devices.{device_at}
use Rattle.mem_banks.specs.Memory.{byte_at, number_at}
use Rattle.task_table.specs.model.State.{State}
use Rattle.task_table.specs.model.Reading.{task_at, call_of, listen_of, is_ready, is_well}
use Rattle.board_model.specs.declared.outcomes.End.{End}
use Rattle.board_model.specs.declared.outcomes.End.TheVariants.{Bound, Still, Supervisor}
use Rattle.board_model.specs.declared.outcomes.Level.TheVariants.{Calls}
use Rattle.board_model.specs.Run.{Run, run, state_after}
use Rattle.board_model.specs.Script.{Scenario, start_of}
use Rattle.board_model.specs.Turn.{turn}
use Rattle.board_core.specs.Changes.{change_in}
use Rattle.board_core.specs.declared.changes.Change.{Change}
use Rattle.trace_text.specs.Kinds.{is_sought}
use Rattle.run_question.specs.declared.asked.Fact.{Fact}
use Rattle.run_question.specs.declared.asked.Fact.TheVariants as fact
use Rattle.run_question.specs.declared.asked.TaskFact.{TaskFact}
use Rattle.run_question.specs.declared.asked.TaskFact.TheVariants as task_fact
use Rattle.run_question.specs.declared.asked.Test.{Test}
use Rattle.run_question.specs.declared.asked.Test.TheVariants.{Is, Above}
use Rattle.run_question.specs.declared.asked.Condition.{Condition}
use Rattle.run_question.specs.declared.asked.Line.{Line}
use Rattle.run_question.specs.declared.asked.Property.{Property}
use Rattle.run_question.specs.declared.asked.Property.TheVariants as property

-- ## conditions of a state

abbrev pub passes : Test → ℕ → ℕ → Bool
passes Is value number = number == value
passes Above value number = nat_lt value number

-- bytes wait in device d
abbrev pub is_waiting : State → ℕ → Bool
is_waiting s d = nat_lt d (length s.devices) && nat_lt 0 (length (device_at s.devices d).queue)

-- the byte at an address; there is one, or the question is refused
abbrev pub has_byte : Test → ℕ → Option ℕ → Bool
has_byte test value None = false
has_byte test value (Some byte) = passes test value byte

abbrev pub is_so_of_task : TaskFact → State → ℕ → Bool
is_so_of_task task_fact.Well s i = is_well (task_at s i).health
is_so_of_task task_fact.Ready s i = is_ready s i
is_so_of_task task_fact.Calling s i = is_some (call_of s i)
is_so_of_task task_fact.Listening s i = is_none (call_of s i) && is_some (listen_of s i)
is_so_of_task (task_fact.Posted bits) s i = not (bit_and (task_at s i).posted bits == 0)

abbrev pub is_so : Fact → State → Bool
is_so (fact.Byte at test value) s = has_byte test value (byte_at s.memory at)
is_so (fact.Word at test value) s = passes test value (number_at s.memory at 4)
is_so (fact.Task task f) s = is_so_of_task f s task
is_so (fact.Waiting device) s = is_waiting s device

abbrev pub holds : Condition → State → Bool
holds c s = if c.negated then not (is_so c.fact s) else is_so c.fact s

-- ## a run of at most so many turns, turn by turn

abbrev pub run_of : Scenario → ℕ → Run
run_of x limit = run Calls x limit (start_of x)

-- how many turns it has
abbrev pub turns_in : Scenario → ℕ → ℕ
turns_in x limit = (run_of x limit).last.turn

-- the state before a turn of it, and after its last
abbrev pub state_at : Scenario → ℕ → State
state_at x k = state_after Calls x k (start_of x)

-- such a line is told of a turn
abbrev pub tells : Line → Scenario → ℕ → Bool
tells line x k = list_any (is_sought line.kind line.number) (turn Calls x (state_at x k)).notes

-- it changes a byte, and ran another task than one that may
abbrev pub is_another : Option ℕ → Option ℕ → Bool
is_another None ran = true
is_another (Some task) None = true
is_another (Some task) (Some ran) = not (ran == task)

abbrev pub is_some_other : Option ℕ → Option Change → Bool
is_some_other but None = false
is_some_other but (Some change) = is_another but change.task

abbrev pub changes : ℕ → Option ℕ → Scenario → ℕ → Bool
changes at but x k = is_some_other but (change_in x at (state_at x k))

-- the condition has held before each of n turns and after the last of them, which is turn k - 1
abbrev pub has_lasted : Condition → ℕ → Scenario → ℕ → Bool
has_lasted c n x k = nat_le n k && list_all (λ j. holds c (state_at x j)) (range_with_len (k - n) (n + 1))

-- the line is told of turn k, and the answer neither then nor in n turns after it, as far as these are made
abbrev pub is_unanswered : Line → Line → ℕ → Scenario → ℕ → ℕ → Bool
is_unanswered line answer n x made k = tells line x k && not (list_any (tells answer x) (range_with_len k (min (n + 1) (made - k))))

-- it is owed: the turns were made, or the run ended before, but not by its bound
abbrev pub is_owed : ℕ → End → ℕ → ℕ → Bool
is_owed n Bound made k = nat_lt (k + n) made
is_owed n Still made k = true
is_owed n Supervisor made k = true

-- ## the turn in which a property is broken

abbrev pub ends_well : Condition → Scenario → ℕ → Bool
ends_well c x limit = holds c (run_of x limit).last

abbrev pub is_still : End → Bool
is_still Still = true
is_still Bound = false
is_still Supervisor = false

abbrev pub unless_good : Bool → ℕ → Option ℕ
unless_good good turns = if good then None else Some turns

-- it is told in turn k, and owed, and no answer comes
abbrev pub is_left : Line → Line → ℕ → Scenario → ℕ → ℕ → Bool
is_left line answer n x limit k =
    is_unanswered line answer n x (turns_in x limit) k && is_owed n (run_of x limit).end (turns_in x limit) k

-- the last turn in which an answer may come, or the end
abbrev pub due : ℕ → ℕ → ℕ → ℕ
due n made k = min (k + n) made

unfoldable pub broken_in : Property → Scenario → ℕ → Option ℕ
broken_in (property.NeverTold line) x limit = find (tells line x) (range_with_len 0 (turns_in x limit))
broken_in (property.NeverChanged at but) x limit = find (changes at but x) (range_with_len 0 (turns_in x limit))
broken_in (property.NeverSo c turns) x limit = find (has_lasted c turns x) (range_with_len 0 (turns_in x limit + 1))
broken_in (property.EndsSo c) x limit = unless_good (ends_well c x limit) (turns_in x limit)
broken_in property.EndsStill x limit = unless_good (is_still (run_of x limit).end) (turns_in x limit)
broken_in (property.Answered line answer turns) x limit =
    option_map (due turns (turns_in x limit)) (find (is_left line answer turns x limit) (range_with_len 0 (turns_in x limit)))

-- it was asked at all
abbrev pub asks : Property → Scenario → ℕ → Bool
asks (property.Answered line answer turns) x limit = list_any (tells line x) (range_with_len 0 (turns_in x limit))
asks _ x limit = true
