-- In which turns the instruction at an address is executed, is taken as a branch, and faults.
use Rattle.std.specs.Prelude.{ℕ, Bool, false, not, ◌&&◌, ◌==◌, Option, Some, None, Result, Ok, Err, is_ok, count_by}
use Rattle.std.specs.List.{list_any, range_with_len}
use Rattle.kernel_abi.specs.declared.Fault.{Fault}
use Rattle.kernel_abi.specs.declared.Note.{Note}
use Rattle.kernel_abi.specs.declared.Note.TheVariants as note
use Rattle.words_core.specs.Regs.{program_counter}
use Rattle.thumb_exec.specs.declared.fetch.Fetched.{Fetched}
use Rattle.thumb_exec.specs.Fetch.{fetched}
use Rattle.task_table.specs.model.State.{Setup, State, Turn}
use Rattle.task_table.specs.model.Reading.{register}
use Rattle.board_model.specs.declared.outcomes.Level.TheVariants.{All}
use Rattle.board_model.specs.declared.outcomes.Turned.{Turned}
use Rattle.board_model.specs.declared.outcomes.Turned.TheVariants.{Idle, Ran}
use Rattle.board_model.specs.Script.{Scenario}
use Rattle.board_model.specs.Turn.{refusals, held, after_events, turn, turned}
use Rattle.board_model.specs.Run.{state_after}
use Rattle.run_cover.specs.declared.counts.Begun.{Begun}
use Rattle.run_cover.specs.Counted.{is_taken}

-- ## executed

-- the task that runs has its PC at an address, and an instruction that it may execute stands there
abbrev pub is_executed_by : Setup → State → ℕ → Turned → Bool
is_executed_by g s a Idle = false
is_executed_by g s a (Ran c at) = (at == a) && is_ok (fetched (refusals g c) (held s) at)

-- the same for the turn from s, by the task that runs in it and by the state after its events
unfoldable pub is_executed : Scenario → ℕ → State → Bool
is_executed x a s = is_executed_by x.setup (after_events x s).state a (turned x s)

-- in how many of the first n turns from s the instruction at an address is executed
unfoldable pub turns_executing : Scenario → ℕ → ℕ → State → ℕ
turns_executing x a n s = count_by (λ k. is_executed x a (state_after All x k s)) (range_with_len 0 n)

-- ## taken and faulted

-- what the task that runs begins: the instruction at its PC, if it may execute it
abbrev pub begun_of : ℕ → ℕ → Result Fetched Fault → Option Begun
begun_of c at (Ok f) = Some record { task = c; at = at; code = f.code }
begun_of c at (Err fault) = None

abbrev pub begun_by : Setup → State → Turned → Option Begun
begun_by g s Idle = None
begun_by g s (Ran c at) = begun_of c at (fetched (refusals g c) (held s) at)

-- the same in the turn from s
unfoldable pub begun_in : Scenario → State → Option Begun
begun_in x s = begun_by x.setup (after_events x s).state (turned x s)

abbrev pub is_fault_of : ℕ → Note → Bool
is_fault_of c (note.Fault task fault) = c == task
is_fault_of c _ = false

-- the turn notes a fault of the task
abbrev pub faulted_in : Turn → ℕ → Bool
faulted_in t c = list_any (is_fault_of c) t.notes

-- the instruction that was begun in a turn is that at an address, and its task faulted in the turn
abbrev pub is_faulting_by : ℕ → Turn → Option Begun → Bool
is_faulting_by a t None = false
is_faulting_by a t (Some b) = b.at == a && faulted_in t b.task

-- The instruction that was begun in a turn is that at an address, and a conditional branch. Its task did not
-- fault in the turn, and has its PC elsewhere than right after the branch at the end of the turn.
abbrev pub is_taking_by : ℕ → Turn → Option Begun → Bool
is_taking_by a t None = false
is_taking_by a t (Some b) = b.at == a && (not (faulted_in t b.task) && is_taken b (register t.state b.task program_counter))

-- the same for the turn from s
unfoldable pub is_faulting : Scenario → ℕ → State → Bool
is_faulting x a s = is_faulting_by a (turn All x s) (begun_in x s)

unfoldable pub is_taking : Scenario → ℕ → State → Bool
is_taking x a s = is_taking_by a (turn All x s) (begun_in x s)

-- in how many of the first n turns from s the task faults at the instruction at an address, and in how many
-- the branch there is taken
unfoldable pub turns_faulting : Scenario → ℕ → ℕ → State → ℕ
turns_faulting x a n s = count_by (λ k. is_faulting x a (state_after All x k s)) (range_with_len 0 n)

unfoldable pub turns_taking : Scenario → ℕ → ℕ → State → ℕ
turns_taking x a n s = count_by (λ k. is_taking x a (state_after All x k s)) (range_with_len 0 n)
