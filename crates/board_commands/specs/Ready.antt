-- A board from which the run of a command begins.
use Rattle.std.specs.Prelude.{◌≡◌, ◌⊎◌, ◌≤◌, ℕ, List, [], Option, Some, None, length, slice_index_or}
use Rattle.kernel_abi.specs.Devices.{DeviceData}
use Rattle.image_format.specs.ImageData.{ImageData}
use Rattle.image_build.specs.Built.{Built}
use Rattle.sample_gen.specs.Sample.{sample_app, sample_sources}
use Rattle.board_core.specs.Data.{Shows}
use Rattle.board_core.specs.declared.board.Board.{Board}
use Rattle.board_model.specs.Script.{Scenario, start_of}
use Rattle.board_core.specs.Stands.{Stands, turns_of}
use Rattle.board_core.specs.Opened as opened
use Rattle.run_script.specs.Scripts.{ScriptData, events_of}
use Rattle.task_table.specs.model.State.{State}
use Rattle.task_table.specs.model.Sane.{Sane, IsCounted}
use Rattle.snapshot.specs.Saved.{SpellsState}
use Rattle.snapshot.specs.Loaded.{sites}
use Rattle.snapshot.specs.Restored.{state_in}
use Rattle.command_files.specs.declared.file_faults.NamedFault.{NamedFault}
use Rattle.command_files.specs.Contents.{image_data_of, scenario_of}
use Rattle.board_commands.specs.Contents.{state_refusal, sample_scenario}
use Rattle.outside_io.specs.Seen.{FilesSeen}
use Rattle.command_files.specs.Sources.{MayBe, TakesAll, image_file, script_file, scenario_in}
use Rattle.board_commands.specs.Sources.{state_by, state_files}
use Rattle.command_files.specs.FileFaults.{IsNamedFaultOf}

-- the run of a scenario starts sane, and its image and its script are no larger than those that can be read
pub record StartsWell (x : Scenario) : Type 0 where
  pub sane : Sane x.setup (start_of x)
  pub tasks : length x.setup.tasks ≤ 512
  pub ram : x.setup.ram ≤ 262144
  pub events : (turn : ℕ) → length (events_of x.script turn) ≤ 9

-- the same of the image and the script that are seen under these names
abbrev pub StartsSeen : List DeviceData → (List ℕ → Option (List ℕ)) → List ℕ → List ℕ → Type 0
StartsSeen devices seen image_name script_name =
    (image script : List ℕ) → seen image_name ≡ Some image → seen script_name ≡ Some script → StartsWell (scenario_of (image_data_of image) script devices)

-- this image or this script is the file that is not accepted, or their run starts well
abbrev pub StartsUnless : List DeviceData → FilesSeen → FilesSeen → List ℕ → List ℕ → NamedFault → Type 0
StartsUnless devices before after image script named_fault =
    IsNamedFaultOf before after (image_file image) named_fault ⊎ (IsNamedFaultOf before after (script_file script) named_fault ⊎ StartsSeen devices before.contents image script)

-- a sane state of a run of this scenario that these bytes spell
pub record IsSpelled (x : Scenario) (bytes : List ℕ) (s : State) : Type 0 where
  pub spells : SpellsState x.setup s bytes
  pub sane : Sane x.setup s
  pub counted : IsCounted s
  pub sites : sites s.devices ≡ sites x.devices

-- the run starts sane, and the board stands for the state that is read from these bytes, and for each state
-- that they spell
pub record IsLoaded {X : Type 0} {H : X → Type 0} (shown : Shows X H) (x : Scenario) (bytes : List ℕ) (b : Board X H) : Type 0 where
  pub start : Sane x.setup (start_of x)
  pub stands : Stands shown x b (state_in x.setup x.devices bytes)
  pub each : (s : State) → IsSpelled x bytes s → Stands shown x b s

-- the same of the bytes of the file of this name, which are accepted as a state from which this run is to go
-- on up to a bound
pub record IsStateSet {X : Type 0} {H : X → Type 0} (shown : Shows X H) (devices : List DeviceData) (seen : List ℕ → Option (List ℕ)) (image : ImageData) (script : ScriptData) (name : List ℕ) (bound : ℕ) (b : Board X H) : Type 0 where
  pub bytes : List ℕ
  pub held : MayBe seen name bytes
  pub accepted : state_refusal devices image bound bytes ≡ None
  pub loaded : IsLoaded shown (opened.scenario_of image script devices) bytes b
  pub turns : turns_of b ≤ bound

-- Each of these files is accepted, and their run starts sane. The board stands for the state from which the
-- run goes on, and for each state that the bytes spell.
pub record IsResumable {X : Type 0} {H : X → Type 0} (shown : Shows X H) (devices : List DeviceData) (image script state : List ℕ) (seen : List ℕ → Option (List ℕ)) (n : ℕ) (b : Board X H) : Type 0 where
  pub contents : List (List ℕ)
  pub accepted : TakesAll (MayBe seen) (state_files devices image script state n) contents
  pub start : Sane (scenario_in devices contents).setup (start_of (scenario_in devices contents))
  pub stands : Stands shown (scenario_in devices contents) b (state_by devices contents)
  pub each : (s : State) → IsSpelled (scenario_in devices contents) (slice_index_or contents 2 []) s → Stands shown (scenario_in devices contents) b s
  pub turns : turns_of b ≤ n

-- the board stands for the start of the run of the sample of a seed
pub record IsSampleReady {X : Type 0} {H : X → Type 0} (shown : Shows X H) (seed : ℕ) (b : Board X H) : Type 0 where
  pub image : ImageData
  pub built : Built (sample_app seed) (sample_sources seed) image
  pub stands : Stands shown (sample_scenario seed image) b (start_of (sample_scenario seed image))
  pub turns : turns_of b ≡ 0
