-- The answer to a command, and its text (docs/FORMATS.md, Commands).
use Rattle.std.specs.Prelude.{ℕ, zero, suc, ◌+◌, ◌-◌, ◌%◌, ◌==◌, ◌||◌, Bool, List, [], ◌∷◌, ◌++◌, length, map, take, find, slice_get, codes, decimal, Option, Some, None, if◌then◌else◌, nat_lt}
use Rattle.std.specs.List.{range_with_len, list_all, flat_map}
use Rattle.std.specs.Option.{option_map, unwrap_or}
use Rattle.kernel_abi.specs.declared.Kind.{Kind}
use Rattle.kernel_abi.specs.declared.Kind.TheVariants.{Console, Port}
use Rattle.kernel_abi.specs.Devices.{DeviceData}
use Rattle.mem_banks.specs.Memory.{Memory, is_held}
use Rattle.task_table.specs.model.State.{LineSetup, Setup, State}
use Rattle.task_table.specs.model.Asking.{is_asked}
use Rattle.task_table.specs.model.Reading.{call_of, line_at, listen_of, task_at}
use Rattle.task_table.specs.kept.Holds.{wait_of}
use Rattle.trace_text.specs.Text.{bit, byte_hex, hex, line_of, spaced_hex}
use Rattle.board_run.specs.MemoryText.{byte_of}
use Rattle.board_run.specs.Text.{end_name, high_text, low_text}
use Rattle.trace_text.specs.Lines.{notes_text, task_line}
use Rattle.board_run.specs.ViewText.{timer_of, wait_words}
use Rattle.board_model.specs.declared.outcomes.End.{End}
use Rattle.board_model.specs.declared.outcomes.Level.TheVariants.{All}
use Rattle.board_model.specs.declared.outcomes.Turned.{Turned}
use Rattle.board_model.specs.declared.outcomes.Turned.TheVariants.{Idle, Ran}
use Rattle.board_model.specs.Run.{at_turn as notes_at}
use Rattle.board_model.specs.Script.{Scenario}
use Rattle.board_model.specs.Turn.{turn, turned}
use Rattle.board_core.specs.declared.views.TaskView.{TaskView}
use Rattle.board_core.specs.fast.Breakpoints.{stands}
use Rattle.debug_core.specs.declared.answer.Answer.{Answer}
use Rattle.debug_core.specs.declared.answer.Answer.TheVariants as answered
use Rattle.debug_core.specs.declared.answer.Answer.TheVariants.{Absent, At, Bytes, Changed, Cleared, Full, Hit, Registers, Set, Told}
use Rattle.debug_core.specs.declared.command.Command.{Command}
use Rattle.debug_core.specs.declared.command.Command.TheVariants as command
use Rattle.debug_core.specs.declared.command.Sought.{Sought}
use Rattle.debug_core.specs.Runs.{end_here, forward, state_at}
use Rattle.debug_core.specs.Searched.{found}
use Rattle.debug_core.specs.Session.{Session, after, ahead, behind, hit_from, is_full, may_find, opened}

-- ---- the answer

-- the cursor at a turn, the time there, and why the run ends there, if it does
abbrev pub at_turn : Scenario → ℕ → Answer
at_turn x turn = At turn (state_at x turn).now (end_here x turn)

-- the cursor right after a turn: which task the turn ran, and where its PC was
abbrev pub hit_at : ℕ → Turned → Answer
hit_at cursor Idle = Absent
hit_at cursor (Ran task at) = Hit cursor task at

abbrev pub gone_to : Scenario → Session → ℕ → Option ℕ → Answer
gone_to x s n (Some turn) = hit_at (turn + 1) (turned x (state_at x turn))
gone_to x s n None = at_turn x (forward x s.cursor n)

abbrev pub registers_of : State → ℕ → Answer
registers_of s i = if nat_lt i (length s.tasks) then Registers (task_at s i).registers (task_at s i).flags else Absent

-- n bytes from an address on, if memory has a byte at each of these addresses
abbrev pub bytes_from : Memory → ℕ → ℕ → Answer
bytes_from m at n =
    if list_all (is_held m) (range_with_len at n)
    then Bytes at (record { items = map (byte_of m) (range_with_len at n) }) else Absent

-- what was found, or where the cursor is afterwards if nothing was
abbrev pub found_at : Scenario → Sought → Option ℕ → ℕ → Answer
found_at x what (Some turn) cursor = unwrap_or (found x what turn) Absent  -- it is found there
found_at x what None cursor = at_turn x cursor

abbrev pub sought_for : Scenario → Session → Sought → Option ℕ → ℕ → Answer
sought_for x s what turn cursor = if may_find x s what then found_at x what turn cursor else Absent

-- the state of a task, as it is written at the end of a run, without its registers
abbrev pub task_view : State → ℕ → TaskView
task_view s i =
    let t = task_at s i in
    record {
      generation = t.births % 64;
      health = t.health;
      regs = t.registers;
      flags = t.flags;
      posted = t.posted;
      timer = option_map (λ timer. (timer.deadline, timer.bits)) t.timer;
      wait = wait_of (call_of s i) (listen_of s i);
    }

abbrev pub task_of : State → ℕ → Answer
task_of s i = if nat_lt i (length s.tasks) then answered.Task i (task_view s i) else Absent

-- the owner of an interrupt line, as the image says
abbrev pub owner_of : Setup → ℕ → Option LineSetup
owner_of g number = find (λ l. l.line == number) g.lines

-- an interrupt is pending where one is held, and where the line's device asks for one
abbrev pub irq_by : State → ℕ → Option LineSetup → Answer
irq_by s number None = Absent
irq_by s number (Some l) =
    let line = line_at s number in
    answered.Irq number l.owner l.bits line.enabled (line.pending || is_asked s l)

abbrev pub irq_of : Setup → State → ℕ → Answer
irq_of g s number = irq_by s number (owner_of g number)

abbrev pub device_by : ℕ → Option DeviceData → Answer
device_by k None = Absent
device_by k (Some d) = answered.Device k d.kind d.base d.count (record { items = take 64 d.queue })

abbrev pub device_of : State → ℕ → Answer
device_of s k = device_by k (slice_get s.devices k)

-- the answer to a command in the session before it
abbrev pub answer : Scenario → Session → Command → Answer
answer x s (command.Break at) = if is_full s.breakpoints at then Full else Set at
answer x s (command.Clear at) = if stands s.breakpoints at then Cleared at else Absent
answer x s (command.Step n) = at_turn x (after x s (command.Step n)).cursor
answer x s (command.Back n) = at_turn x (after x s (command.Back n)).cursor
answer x s (command.Go n) = gone_to x s n (hit_from x s n)
answer x s (command.At turn) = at_turn x (after x s (command.At turn)).cursor
answer x s (command.GoFor n what) = sought_for x s what (ahead x s n what) (forward x s.cursor n)
answer x s (command.BackFor n what) = sought_for x s what (behind x s n what) (s.cursor - n)
answer x s command.Notes = Absent  -- at turn 0; at others see `told`
answer x s command.Help = answered.Help
answer x s command.Quit = answered.Over
answer x s (command.Regs task) = registers_of (state_at x s.cursor) task
answer x s (command.Task task) = task_of (state_at x s.cursor) task
answer x s (command.Irq line) = irq_of x.setup (state_at x s.cursor) line
answer x s (command.Device device) = device_of (state_at x s.cursor) device
answer x s (command.Mem at n) = bytes_from (state_at x s.cursor).memory at n

-- ---- the text of an answer

abbrev pub end_word : Option End → List ℕ
end_word (Some end) = end_name end
end_word None = codes "-"

-- `break <h>`, `clear <h>`
unfoldable pub address_line : List ℕ → ℕ → List ℕ
address_line word at = word ++ hex at ++ codes "\n"

-- `at <turn> <now> <why the run ends there, or ->`
unfoldable pub at_line : ℕ → ℕ → Option End → List ℕ
at_line turn now end = codes "at " ++ decimal turn ++ codes " " ++ decimal now ++ codes " " ++ end_word end ++ codes "\n"

-- `hit <turn> <task> <pc h>`
unfoldable pub hit_line : ℕ → ℕ → ℕ → List ℕ
hit_line turn task at = codes "hit " ++ decimal turn ++ codes " " ++ decimal task ++ codes " " ++ hex at ++ codes "\n"

-- `<address h> <two digits a byte>`
unfoldable pub bytes_line : ℕ → List ℕ → List ℕ
bytes_line at bytes = hex at ++ codes " " ++ flat_map byte_hex bytes ++ codes "\n"

-- `<turn> change <task or -> <h> <old> <new>`
abbrev pub runner_word : Option ℕ → List ℕ
runner_word None = codes "-"
runner_word (Some task) = decimal task

unfoldable pub change_line : ℕ → Option ℕ → ℕ → ℕ → ℕ → List ℕ
change_line turn task at old new =
    decimal turn ++ codes " change " ++ runner_word task ++ codes " " ++ hex at ++ codes " " ++ byte_hex old ++ codes " " ++ byte_hex new ++ codes "\n"

-- `line <line> <task> <bits h> <enabled> <pending>`
unfoldable pub irq_line : ℕ → ℕ → ℕ → Bool → Bool → List ℕ
irq_line number owner bits enabled pending =
    codes "line " ++ decimal number ++ codes " " ++ decimal owner ++ spaced_hex bits ++ codes " " ++ bit enabled ∷ codes " " ++ bit pending ∷ codes "\n"

-- `console <count>`, or `port <waiting>`; if some bytes wait, a blank and two digits for each byte follow
abbrev pub queue_word : List ℕ → List ℕ
queue_word [] = []
queue_word (byte ∷ bytes) = codes " " ++ flat_map byte_hex (byte ∷ bytes)

abbrev pub kind_words : Kind → ℕ → List ℕ → List ℕ
kind_words Console count queue = codes "console " ++ decimal count
kind_words Port count queue = codes "port " ++ decimal (length queue) ++ queue_word queue

unfoldable pub device_line : ℕ → Kind → ℕ → ℕ → List ℕ → List ℕ
device_line k kind base count queue = codes "device " ++ decimal k ++ spaced_hex base ++ codes " " ++ kind_words kind count queue ++ codes "\n"

-- `refused <cause>`, for a line
abbrev pub refusal_line : ℕ → List ℕ
refusal_line cause = codes "refused " ++ decimal cause ++ codes "\n"

-- the forms of the commands, in one line
abbrev pub help_line : List ℕ
help_line = codes "commands: break H, clear H, step N, back N, go N, go N KIND [M], back N KIND [M], go N change H, back N change H, at N, notes, help, quit, regs T, task T, line L, device D, mem H L\n"

abbrev pub text_of : Answer → List ℕ
text_of (Set at) = address_line (codes "break ") at
text_of Full = codes "full\n"
text_of (Cleared at) = address_line (codes "clear ") at
text_of Absent = codes "none\n"
text_of (At turn now end) = at_line turn now end
text_of (Hit turn task at) = hit_line turn task at
text_of (Told turn note) = line_of turn note
text_of (Changed turn task at old new) = change_line turn task at old new
text_of (answered.Task i v) = task_line i v.generation v.health (wait_words v.wait) v.posted (timer_of v.timer)
text_of (answered.Irq number owner bits enabled pending) = irq_line number owner bits enabled pending
text_of (answered.Device k kind base count queue) = device_line k kind base count queue.items
text_of (Registers words flags) = low_text words ++ high_text words flags
text_of (Bytes at bytes) = bytes_line at bytes.items
text_of answered.Help = help_line
text_of answered.Over = []

-- ---- what a command writes: an answer, or the notes of the turn before the cursor, with its instruction

abbrev pub told_before : Scenario → ℕ → List ℕ
told_before x zero = text_of Absent
told_before x (suc n) = notes_text (notes_at n (turn All x (state_at x n)).notes)

abbrev pub told : Scenario → Session → Command → List ℕ
told x s command.Notes = told_before x s.cursor
told x s (command.Break at) = text_of (answer x s (command.Break at))
told x s (command.Clear at) = text_of (answer x s (command.Clear at))
told x s (command.Step n) = text_of (answer x s (command.Step n))
told x s (command.Back n) = text_of (answer x s (command.Back n))
told x s (command.Go n) = text_of (answer x s (command.Go n))
told x s (command.At turn) = text_of (answer x s (command.At turn))
told x s (command.GoFor n what) = text_of (answer x s (command.GoFor n what))
told x s (command.BackFor n what) = text_of (answer x s (command.BackFor n what))
told x s command.Help = text_of (answer x s command.Help)
told x s command.Quit = text_of (answer x s command.Quit)
told x s (command.Regs task) = text_of (answer x s (command.Regs task))
told x s (command.Task task) = text_of (answer x s (command.Task task))
told x s (command.Irq line) = text_of (answer x s (command.Irq line))
told x s (command.Device device) = text_of (answer x s (command.Device device))
told x s (command.Mem at n) = text_of (answer x s (command.Mem at n))

-- the text of these commands of a session, in order, up to the first `quit`
abbrev pub told_from : Scenario → Session → List Command → List ℕ
told_from x s [] = []
told_from x s (command ∷ rest) = if s.is_over then [] else told x s command ++ told_from x (after x s command) rest

-- the whole text of a session
abbrev pub text : Scenario → List Command → List ℕ
text x commands = told_from x opened commands
