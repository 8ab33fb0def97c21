-- What a view says of a task, and the run of an image with another flash.
use Rattle.std.specs.Prelude.{ℕ, List}
use Rattle.std.specs.Option.{option_map}
use Rattle.kernel_abi.specs.declared.Timer.{Timer}
use Rattle.task_table.specs.declared.slot.Slot.{Slot}
use Rattle.board_model.specs.Script.{Scenario}
use Rattle.board_core.specs.declared.views.TaskView.{TaskView}

-- the timer with this deadline and these bits
abbrev pub timer_told : ℕ × ℕ → Timer
timer_told x = record { deadline = x.0; bits = x.1 }

abbrev pub slot_told : TaskView → Slot
slot_told v =
    record {
      generation = record { number = v.generation };
      registers = v.regs;
      flags = v.flags;
      health = v.health;
      posted = v.posted;
      timer = option_map timer_told v.timer;
      wait = v.wait;
    }

-- the run of an image with this flash
abbrev pub with_flash : List ℕ → Scenario → Scenario
with_flash flash x = record x { setup = record x.setup { flash = flash } }
