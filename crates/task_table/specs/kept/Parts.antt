-- The setup that the parts of an image give, and when it is sound.
use Rattle.std.specs.Prelude.{ℕ, ◌<◌, List, length, map}
use Rattle.task_table.specs.declared.start.TaskStart.{TaskStart}
use Rattle.task_table.specs.declared.start.LineStart.{LineStart}
use Rattle.task_table.specs.kept.Limits.{board_lines}
use Rattle.mem_banks.specs.Memory.{Memory, AreAllBytes}
use Rattle.task_table.specs.model.State.{Setup, TaskSetup, LineSetup}
use Rattle.task_table.specs.model.Placed.{ArePlaced}
use Rattle.task_table.specs.model.Start.{start}

-- what the image says of a task and of a line
abbrev pub task_setup : TaskStart → TaskSetup
task_setup x = record { priority = x.priority; entry = x.entry; stack = x.sp; regions = x.regions.items; start = x.started }

abbrev pub line_setup : LineStart → LineSetup
line_setup x = record { line = x.line; owner = x.task; bits = x.bits; device = x.device }

abbrev pub setup_of_parts : Memory → ℕ → List TaskStart → List LineStart → Setup
setup_of_parts memory fault_bits tasks lines =
    record {
      tasks = map task_setup tasks;
      lines = map line_setup lines;
      fault_bits = fault_bits;
      flash = memory.flash;
      ram = length memory.ram;
      line_count = board_lines;
    }

-- what is true of a sound image: there is at least one task, regions and owners exist, and the flash has bytes
pub record IsSound (g : Setup) : Type 0 where
  pub some : 0 < length g.tasks
  pub placed : ArePlaced g (start g).memory
  pub flash_bytes : AreAllBytes g.flash
