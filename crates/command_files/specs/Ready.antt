-- A board at the start of a run, or the file that is not accepted.
use Rattle.std.specs.Prelude.{◌≡◌, ℕ, List, [], ◌∷◌, ◌++◌, Bool, false, Option, Some, None}
use Rattle.kernel_abi.specs.Devices.{DeviceData}
use Rattle.app_toml.specs.Apps.{AppData}
use Rattle.image_format.specs.ImageData.{ImageData}
use Rattle.board_core.specs.Data.{Shows}
use Rattle.board_core.specs.declared.board.Board.{Board}
use Rattle.board_model.specs.Script.{Scenario, start_of}
use Rattle.board_core.specs.Stands.{Stands, turns_of}
use Rattle.run_script.specs.Scripts.{ScriptData}
use Rattle.trace_audit.specs.declared.judgement.Judgement as trace
use Rattle.trace_audit.specs.Judgements as trace_audit
use Rattle.command_files.specs.declared.file_faults.NamedFault.{NamedFault}
use Rattle.command_files.specs.declared.file_faults.NamedFault.TheVariants as named_faults
use Rattle.command_files.specs.Contents.{image_refusal, script_refusal, names_refusal, names_in, trace_refusal, image_data_of, script_of, scenario_of}
use Rattle.outside_io.specs.Seen.{FilesSeen}
use Rattle.command_files.specs.Sources.{File, first_of, MayBe, TakesAll, image_file, script_file, names_file, names_files, image_tasks, files_to_build, IsBuilt, described, sources_in, script_in, scenario_in}
use Rattle.command_files.specs.Verdict.{Verdict, names_by, task_names}
use Rattle.command_files.specs.FileFaults.{IsNamedFaultOf}
use Rattle.command_files.specs.declared.source_lines.SourceLines.{SourceLines}
use Rattle.command_files.specs.Building.{AreLines, IsBuiltApp, IsNamedFaultAfter}

-- the image is what the file of this name spells
pub record IsImageFile (seen : List ℕ → Option (List ℕ)) (name : List ℕ) (image : ImageData) : Type 0 where
  pub bytes : List ℕ
  pub held : MayBe seen name bytes
  pub accepted : image_refusal bytes ≡ None
  pub is : image ≡ image_data_of bytes

-- the script is what the file of this name holds
pub record IsScriptFile (seen : List ℕ → Option (List ℕ)) (name : List ℕ) (script : ScriptData) : Type 0 where
  pub bytes : List ℕ
  pub held : MayBe seen name bytes
  pub accepted : script_refusal bytes ≡ None
  pub is : script ≡ script_of bytes

-- the board stands for the start of the image's run with the script of this name and these devices
pub record IsSet {X : Type 0} {H : X → Type 0} (shown : Shows X H) (devices : List DeviceData) (seen : List ℕ → Option (List ℕ)) (image : ImageData) (name : List ℕ) (b : Board X H) : Type 0 where
  pub script : List ℕ
  pub held : MayBe seen name script
  pub accepted : script_refusal script ≡ None
  pub stands : Stands shown (scenario_of image script devices) b (start_of (scenario_of image script devices))
  pub turns : turns_of b ≡ 0

-- the image and the script of these names are accepted, and the board stands for the start of their run with
-- these devices
pub record IsRunSet {X : Type 0} {H : X → Type 0} (shown : Shows X H) (devices : List DeviceData) (image script : List ℕ) (seen : List ℕ → Option (List ℕ)) (b : Board X H) : Type 0 where
  pub image_data : ImageData
  pub of_image : IsImageFile seen image image_data
  pub set : IsSet shown devices seen image_data script b

-- the application of this name is accepted as one that names this many tasks, and these are its names
pub record IsNamesFile (seen : List ℕ → Option (List ℕ)) (tasks : ℕ) (name : List ℕ) (names : List (List ℕ)) : Type 0 where
  pub bytes : List ℕ
  pub held : MayBe seen name bytes
  pub accepted : names_refusal tasks bytes ≡ None
  pub is : names ≡ names_in bytes

-- these are the names of this many tasks: their places, or those of the application of this name
abbrev pub AreNames : (List ℕ → Option (List ℕ)) → ℕ → Option (List ℕ) → List (List ℕ) → Type 0
AreNames seen tasks None names = names ≡ task_names tasks
AreNames seen tasks (Some name) names = IsNamesFile seen tasks name names

-- why there are no names: that application is not accepted, or memory is short
abbrev pub IsNamesFault : FilesSeen → FilesSeen → ℕ → Option (List ℕ) → NamedFault → Type 0
IsNamesFault before after tasks None h = h ≡ named_faults.Memory
IsNamesFault before after tasks (Some name) h = IsNamedFaultOf before after (names_file tasks name) h

-- The image and the script of these names are accepted, the board stands for the start of their run with these
-- devices, and these are the names of its tasks.
pub record IsNamedSet {X : Type 0} {H : X → Type 0} (shown : Shows X H) (devices : List DeviceData) (image script : List ℕ) (named : Option (List ℕ)) (seen : List ℕ → Option (List ℕ)) (b : Board X H) (names : List (List ℕ)) : Type 0 where
  pub set : IsRunSet shown devices image script seen b
  pub are : AreNames seen (image_tasks set.of_image.bytes) named names

-- The application and the script of these names are accepted, and the board stands for the start of their run
-- with these devices. If it is wanted, it is known where the instructions and the labels of the sources lie.
pub record IsAppSet {X : Type 0} {H : X → Type 0} (shown : Shows X H) (devices : List DeviceData) (app script : List ℕ) (seen : List ℕ → Option (List ℕ)) (wanted : Bool) (b : Board X H) (described : AppData) (l : SourceLines) : Type 0 where
  pub image : ImageData
  pub built : IsBuiltApp seen app wanted described image l
  pub set : IsSet shown devices seen image script b

-- the same, where nothing is said of the sources
pub record IsGoSet {X : Type 0} {H : X → Type 0} (shown : Shows X H) (devices : List DeviceData) (app script : List ℕ) (seen : List ℕ → Option (List ℕ)) (b : Board X H) : Type 0 where
  pub described : AppData
  pub lines : SourceLines
  pub of_app : IsAppSet shown devices app script seen false b described lines

-- the trace of this name was accepted, and this is the verdict on it
pub record IsAuditOf (seen : List ℕ → Option (List ℕ)) (name : List ℕ) (found : trace.Judgement) : Type 0 where
  pub bytes : List ℕ
  pub held : MayBe seen name bytes
  pub accepted : trace_refusal bytes ≡ None
  pub verdict : trace_audit.IsJudgement bytes found

-- ## a command, by the files that it takes and by what it makes of their contents

-- the command takes this image, then this script, and then perhaps more files
pub record TakesImage (files_of : List ℕ → List File) (image script : List ℕ) : Type 0 where
  pub more : List ℕ → List File
  pub files : (first : List ℕ) → files_of first ≡ image_file image ∷ script_file script ∷ more first

-- the command takes this image and then this script, and answers their run with this verdict
pub record RunsImage (devices : List DeviceData) (files_of : List ℕ → List File) (Does : List (List ℕ) → Verdict → Type 0) (image script : List ℕ) (verdict : Scenario → Verdict) : Type 0 where
  pub files : (first : List ℕ) → files_of first ≡ image_file image ∷ script_file script ∷ []
  pub does : (contents : List (List ℕ)) → Does contents (verdict (scenario_in devices contents))

-- the command takes this image, this script and the names of the tasks, and this is its verdict on the names and
-- the run
pub record RunsNamed (devices : List DeviceData) (files_of : List ℕ → List File) (Does : List (List ℕ) → Verdict → Type 0) (image script : List ℕ) (names : Option (List ℕ)) (verdict : List (List ℕ) → Scenario → Verdict) : Type 0 where
  pub files : (first : List ℕ) → files_of first ≡ image_file image ∷ script_file script ∷ names_files (image_tasks first) names
  pub does : (contents : List (List ℕ)) → Does contents (verdict (names_by names contents) (scenario_in devices contents))

-- the same, whatever its verdict is
pub record TakesNamed (files_of : List ℕ → List File) (image script : List ℕ) (names : Option (List ℕ)) : Type 0 where
  pub files : (first : List ℕ) → files_of first ≡ image_file image ∷ script_file script ∷ names_files (image_tasks first) names

-- the command takes the files of this application and then this script
pub record TakesApp (files_of : List ℕ → List File) (app script : List ℕ) : Type 0 where
  pub files : (first : List ℕ) → files_of first ≡ files_to_build app first ++ script_file script ∷ []

-- the command takes the files of this application and then this script, and this is its verdict on the
-- application, its sources and the run
pub record RunsApp (devices : List DeviceData) (files_of : List ℕ → List File) (Does : List (List ℕ) → Verdict → Type 0) (app script : List ℕ) (verdict : AppData → List (List ℕ) → Scenario → Verdict) : Type 0 where
  pub files : (first : List ℕ) → files_of first ≡ files_to_build app first ++ script_file script ∷ []
  pub does : (contents : List (List ℕ)) (image : ImageData) → IsBuilt contents image
      → Does contents (verdict (described contents) (sources_in contents) (scenario_of image (script_in contents) devices))

-- a file of the command is not accepted
pub record IsNamedFaultIn (files_of : List ℕ → List File) (before after : FilesSeen) (named_fault : NamedFault) : Type 0 where
  pub contents : List (List ℕ)
  pub at : IsNamedFaultAfter before after (files_of (first_of contents)) contents named_fault

-- each file of the command is accepted, and the board stands for the start of the run that the command answers with
-- this verdict
pub record IsReady {X : Type 0} {H : X → Type 0} (shown : Shows X H) (files_of : List ℕ → List File) (Does : List (List ℕ) → Verdict → Type 0) (seen : List ℕ → Option (List ℕ)) (verdict : Scenario → Verdict) (b : Board X H) : Type 0 where
  pub contents : List (List ℕ)
  pub accepted : TakesAll (MayBe seen) files_of contents
  pub scenario : Scenario
  pub done : Does contents (verdict scenario)
  pub stands : Stands shown scenario b (start_of scenario)
  pub turns : turns_of b ≡ 0

-- Each file of the command is accepted, among them the sources of this application. The board stands for the
-- start of the run that the command answers with this verdict. If it is wanted, it is known where the
-- instructions of the sources lie.
pub record IsAppReady {X : Type 0} {H : X → Type 0} (shown : Shows X H) (files_of : List ℕ → List File) (Does : List (List ℕ) → Verdict → Type 0) (seen : List ℕ → Option (List ℕ)) (verdict : AppData → List (List ℕ) → Scenario → Verdict) (wanted : Bool) (b : Board X H) (app : AppData) (l : SourceLines) : Type 0 where
  pub sources : List (List ℕ)
  pub ready : IsReady shown files_of Does seen (verdict app sources) b
  pub wants : l.wanted ≡ wanted
  pub lines : AreLines app sources l
