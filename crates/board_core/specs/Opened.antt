-- What an image fixes once and for all, and the run of that image.
use Rattle.std.specs.Prelude.{ℕ, List, Option, Some, None, map}
use Rattle.kernel_abi.specs.Devices.{DeviceData}
use Rattle.region_check.specs.declared.Region.{Region}
use Rattle.image_format.specs.ImageData.{ImageData, ImageTask, ImageLine, region_by, regions_in}
use Rattle.task_table.specs.kept.Limits.{board_lines}
use Rattle.task_table.specs.model.State.{Setup, TaskSetup, LineSetup}
use Rattle.run_script.specs.Scripts.{ScriptData}
use Rattle.board_model.specs.Script.{Scenario}

abbrev pub setup_of_task : ImageTask → TaskSetup
setup_of_task t = record { priority = t.priority; entry = t.entry; stack = t.sp; regions = t.regions; start = t.started }

-- the first address of a region; 0, where no device is, if there is none
abbrev pub base_of : Option Region → ℕ
base_of None = 0
base_of (Some region) = region.base

-- the device that drives a line is the one behind the first address of its region
abbrev pub setup_of_line : ImageData → ImageLine → LineSetup
setup_of_line p l = record {
  line = l.line;
  owner = l.task;
  bits = l.bits;
  device = base_of (region_by (regions_in p l.task) l.device);
}

abbrev pub setup_of_image : ImageData → Setup
setup_of_image p = record {
  tasks = map setup_of_task p.tasks;
  lines = map (setup_of_line p) p.lines;
  fault_bits = p.fault_bits;
  flash = p.flash;
  ram = p.ram;
  line_count = board_lines;
}

abbrev pub scenario_of : ImageData → ScriptData → List DeviceData → Scenario
scenario_of p script devices = record { setup = setup_of_image p; script = script; devices = devices }
