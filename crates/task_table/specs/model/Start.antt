-- Where a run starts, and how a turn begins.
use Rattle.std.specs.Prelude.{[], map, replicate, if◌then◌else◌}
use Rattle.kernel_abi.specs.declared.Health.TheVariants.{Well, Stopped}
use Rattle.task_table.specs.model.State.{Setup, TaskSetup, Task, State, Turn}
use Rattle.task_table.specs.model.Reading.{no_line}
use Rattle.task_table.specs.model.Effects.{at_birth}

-- the first birth of a task: well if the image starts it, else stopped
abbrev pub born : TaskSetup → Task
born x = at_birth x 0 (if x.start then Well else Stopped)

-- turn 0: the flash of the image, zeros in the RAM, no task waits, lines are disabled with nothing pending, and
-- there is no device
unfoldable pub start : Setup → State
start g =
    record {
      turn = 0;
      memory = record { flash = g.flash; ram = replicate g.ram 0 };
      tasks = map born g.tasks;
      calls = [];
      listens = [];
      now = 0;
      lines = replicate g.line_count no_line;
      current = 0;
      next_call = 1;
      devices = [];
    }

-- a turn in which nothing has happened yet
unfoldable pub begun : State → Turn
begun s = record { state = s; notes = []; writes = []; reads = [] }
