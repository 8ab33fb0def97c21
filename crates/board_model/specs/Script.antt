-- What a run needs: what the image fixes, the script of what happens from outside, and the devices that are
-- handed in.
use Rattle.std.specs.Prelude.{List}
use Rattle.kernel_abi.specs.Devices.{DeviceData}
use Rattle.task_table.specs.model.State.{Setup, State}
use Rattle.task_table.specs.model.Start.{start}
use Rattle.run_script.specs.Scripts.{ScriptData}

pub record Scenario : Type 0 where
  pub setup : Setup
  pub script : ScriptData
  pub devices : List DeviceData

-- where the run starts
abbrev pub start_of : Scenario → State
start_of x = record (start x.setup) { devices = x.devices }
