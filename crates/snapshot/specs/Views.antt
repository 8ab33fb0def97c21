-- The view of a task to which a board is set, made from the record of the task.
use Rattle.std.specs.Prelude.{ℕ, Bool, ◌+◌, ◌*◌, ◌/◌, ◌==◌, Option, Some, None, if◌then◌else◌}
use Rattle.task_table.specs.declared.slot.FromId.{FromId}
use Rattle.task_table.specs.declared.slot.FromId.TheVariants as from_id
use Rattle.task_table.specs.declared.slot.Listening.{Listening}
use Rattle.task_table.specs.declared.slot.OpenCall.{OpenCall}
use Rattle.task_table.specs.declared.slot.Wait.{Wait}
use Rattle.task_table.specs.declared.slot.Wait.TheVariants as wait
use Rattle.board_core.specs.declared.views.TaskView.{TaskView}
use Rattle.snapshot.specs.declared.records.TaskRecord.{TaskRecord}
use Rattle.snapshot.specs.Causes.{word}
use Rattle.snapshot.specs.Waits.{is_call, is_listen, server_id}
use Rattle.snapshot.specs.Restored.{health_from, flags_from, slice_from, phase_from}

-- the deadline and the bits of a timer, if it is set
abbrev pub timer_view : ℕ → ℕ → ℕ → Option (ℕ × ℕ)
timer_view flag deadline bits = if flag == 0 then None else Some (deadline, bits)

-- the call that task i waits for, whose client is its present birth
abbrev pub call_view : TaskRecord → ℕ → OpenCall
call_view r i =
    record {
      number = word r 0;
      client = record { number = i + 1024 * r.generation };
      server = record { number = server_id r };
      operation = word r 1 / 65536;
      message = slice_from r 2;
      reply = slice_from r 4;
      table = word r 6;
      leases = word r 7;
      phase = phase_from r.wait;
    }

-- whose message the task listens for, by the number of the wait and the id
abbrev pub from_view : ℕ → ℕ → FromId
from_view number id = if number == 3 then from_id.Any else (if number == 4 then from_id.Kernel else from_id.One record { number = id })

abbrev pub listen_view : TaskRecord → Listening
listen_view r = record { from = from_view r.wait (word r 1); mask = word r 0; buffer = slice_from r 2 }

-- a call, or else a listen, or else nothing
abbrev pub wait_by : Bool → Bool → OpenCall → Listening → Wait
wait_by calls listens call listen = if calls then wait.Call call else (if listens then wait.Listen listen else wait.Nothing)

abbrev pub wait_view : TaskRecord → ℕ → Wait
wait_view r i = wait_by (is_call r) (is_listen r) (call_view r i) (listen_view r)

abbrev pub view_of : TaskRecord → ℕ → TaskView
view_of r i =
    record {
      generation = r.generation;
      health = health_from r.health record { number = r.fault; x = r.x; y = r.y };
      regs = r.registers;
      flags = flags_from r.flags;
      posted = r.posted;
      timer = timer_view r.timer r.deadline r.bits;
      wait = wait_view r i;
    }
