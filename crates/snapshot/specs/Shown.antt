-- How a board's view of a task or of a line is saved.
use Rattle.std.specs.Prelude.{ℕ, ◌+◌, ◌*◌, List, [], ◌∷◌, Option, Some, None, if◌then◌else◌, Bool}
use Rattle.board_core.specs.declared.views.TaskView.{TaskView}
use Rattle.board_core.specs.Setting.{timer_told}
use Rattle.kernel_abi.specs.declared.Timer.{Timer}
use Rattle.std.specs.Option.{option_map}
use Rattle.task_table.specs.declared.slot.FromId.{FromId}
use Rattle.task_table.specs.declared.slot.FromId.TheVariants as from_id
use Rattle.task_table.specs.declared.slot.Listening.{Listening}
use Rattle.task_table.specs.declared.slot.OpenCall.{OpenCall}
use Rattle.task_table.specs.declared.slot.Wait.{Wait}
use Rattle.task_table.specs.declared.slot.Wait.TheVariants as wait
use Rattle.task_table.specs.model.Reading.{is_offered}
use Rattle.snapshot.specs.declared.records.TaskRecord.{TaskRecord}
use Rattle.snapshot.specs.Saved.{bit, health_number, fault_of, flags_number, timer_flag, timer_of}

-- ## what a task waits for, with ids in the place of births

abbrev pub sender_number : FromId → ℕ
sender_number from_id.Any = 3
sender_number from_id.Kernel = 4
sender_number (from_id.One id) = 5

abbrev pub sender_id : FromId → ℕ
sender_id from_id.Any = 0
sender_id from_id.Kernel = 0
sender_id (from_id.One id) = id.number

abbrev pub shown_number : Wait → ℕ
shown_number wait.Nothing = 0
shown_number (wait.Call c) = if is_offered c.phase then 1 else 2
shown_number (wait.Listen l) = sender_number l.from

abbrev pub call_words : OpenCall → List ℕ
call_words c =
    c.number ∷ (c.server.number + 65536 * c.operation) ∷ c.message.base ∷ c.message.len ∷ c.reply.base ∷ c.reply.len ∷ c.table ∷ c.leases ∷ []

abbrev pub listen_words : Listening → List ℕ
listen_words l = l.mask ∷ sender_id l.from ∷ l.buffer.base ∷ l.buffer.len ∷ 0 ∷ 0 ∷ 0 ∷ 0 ∷ []

abbrev pub shown_words : Wait → List ℕ
shown_words wait.Nothing = 0 ∷ 0 ∷ 0 ∷ 0 ∷ 0 ∷ 0 ∷ 0 ∷ 0 ∷ []
shown_words (wait.Call c) = call_words c
shown_words (wait.Listen l) = listen_words l

-- ## a task

abbrev pub timer_shown : Option (ℕ × ℕ) → Option Timer
timer_shown timer = option_map timer_told timer

abbrev pub record_shown : TaskView → TaskRecord
record_shown v =
    record {
      generation = v.generation;
      health = health_number v.health;
      fault = (fault_of v.health).number;
      wait = shown_number v.wait;
      x = (fault_of v.health).x;
      y = (fault_of v.health).y;
      registers = v.regs;
      flags = flags_number v.flags;
      posted = v.posted;
      timer = timer_flag (timer_shown v.timer);
      deadline = (timer_of (timer_shown v.timer)).deadline;
      bits = (timer_of (timer_shown v.timer)).bits;
      words = shown_words v.wait;
    }

-- ## a line: whether it is enabled and whether it is pending; a line that does not exist is saved as 0

abbrev pub line_shown : Option (Bool × Bool) → ℕ
line_shown None = 0
line_shown (Some l) = bit l.0 1 + bit l.1 2
