-- A board at the start of a job's run, or the file that is not accepted.
use Rattle.std.specs.Prelude.{◌≡◌, ℕ, List, Bool, Option, None, Ok}
use Rattle.kernel_abi.specs.Devices.{DeviceData}
use Rattle.board_core.specs.Data.{Shows}
use Rattle.board_core.specs.declared.board.Board.{Board}
use Rattle.board_model.specs.Script.{Scenario, start_of}
use Rattle.board_core.specs.Stands.{Stands}
use Rattle.run_script.specs.Scripts.{Listed, ScriptData}
use Rattle.sweep_core.specs.declared.sweeper.Sweeper.{Sweeper}
use Rattle.sweep_core.specs.Sweeping.{IsReady as IsReadyToSweep, asked}
use Rattle.command_line.specs.CommandLine.{Asked}
use Rattle.debug_core.specs.declared.command.Command.{Command}
use Rattle.debug_core.specs.Reading.{commands_or_fault}
use Rattle.command_files.specs.Contents.{script_of}
use Rattle.trace_cli.specs.Contents.{commands_refusal, arrival_refusal}
use Rattle.command_files.specs.Sources.{MayBe, TakesAll}
use Rattle.trace_cli.specs.Sources.{files_of}
use Rattle.trace_cli.specs.Verdict.{Does, debugged, swept}

-- the commands are what the file of this name says
pub record IsCommandsFile (seen : List ℕ → Option (List ℕ)) (name : List ℕ) (commands : List Command) : Type 0 where
  pub bytes : List ℕ
  pub held : MayBe seen name bytes
  pub accepted : commands_refusal bytes ≡ None
  pub is : commands_or_fault bytes ≡ Ok commands

-- each file of the job is accepted, and the board stands for the start of the run over which these commands
-- are carried out
pub record IsDebugReady {X : Type 0} {H : X → Type 0} (shown : Shows X H) (devices : List DeviceData) (job : Asked) (seen : List ℕ → Option (List ℕ)) (commands : List Command) (b : Board X H) : Type 0 where
  pub contents : List (List ℕ)
  pub accepted : TakesAll (MayBe seen) (files_of devices job) contents
  pub scenario : Scenario
  pub done : Does devices job contents (debugged scenario commands)
  pub stands : Stands shown scenario b (start_of scenario)

-- the events of an arrival are those of the file of this name
pub record IsArrivalFile (seen : List ℕ → Option (List ℕ)) (name : List ℕ) (arrival : ScriptData) : Type 0 where
  pub bytes : List ℕ
  pub held : MayBe seen name bytes
  pub accepted : arrival_refusal bytes ≡ None
  pub is : arrival ≡ script_of bytes

-- each file of the job is accepted, and the sweeper is at the start of the run over which these events are
-- laid
pub record IsSweepReady {X : Type 0} {H : X → Type 0} (shown : Shows X H) (devices : List DeviceData) (job : Asked) (seen : List ℕ → Option (List ℕ)) (from to limit : ℕ) (mem : Bool) (w : Sweeper X H) : Type 0 where
  pub contents : List (List ℕ)
  pub accepted : TakesAll (MayBe seen) (files_of devices job) contents
  pub scenario : Scenario
  pub arrival : List Listed
  pub done : Does devices job contents (swept scenario (asked arrival from to limit mem))
  pub ready : IsReadyToSweep shown scenario arrival w
