-- What an answer of a command says about the files and the sink.
use Rattle.std.specs.Prelude.{◌≡◌, ◌≤◌, ◌⊎◌, ℕ, List, [], slice_index_or, Some, None}
use Rattle.kernel_abi.specs.Devices.{DeviceData}
use Rattle.board_model.specs.Script.{Scenario, start_of}
use Rattle.task_table.specs.model.State.{State}
use Rattle.task_table.specs.model.Sane.{Sane}
use Rattle.command_line.specs.declared.job.Detail.{Detail}
use Rattle.command_files.specs.Contents.{image_refusal, script_refusal, image_data_of, scenario_of}
use Rattle.outside_io.specs.Seen.{FilesSeen, SinkSeen}
use Rattle.command_files.specs.Sources.{File, Are, TakesAll, scenario_in}
use Rattle.command_files.specs.Verdict.{Verdict, unread}
use Rattle.board_commands.specs.Verdict.{resumed, run_of, level_of, ran}
use Rattle.board_commands.specs.Ready.{StartsWell, IsSpelled}
use Rattle.command_files.specs.Answer.{IsShort, Tells, Reason, IsUnread}
use Rattle.board_commands.specs.Fit.{IsOfRun, IsFitRun}
use Rattle.board_commands.specs.Sources.{state_files}

-- ## a run that was written

-- If the run was written to its end, this is its verdict, and its numbers are in range.
abbrev pub TellsFit : ℕ → Detail → Verdict → ℕ → Type 0
TellsFit n detail v r = IsOfRun r → (x : Scenario) × (v ≡ ran n detail x) × IsFitRun x (run_of (level_of detail) n x)

-- the answer of a command that writes a run of at most n turns from its start
abbrev pub AnswersRun : (List ℕ → List File) → (List (List ℕ) → Verdict → Type 0) → ℕ → Detail → FilesSeen → FilesSeen → SinkSeen → SinkSeen → ℕ → Type 0
AnswersRun files_of Does n detail before after w w' r = IsShort before after w w' r ⊎ ((v : Verdict) × Reason files_of Does before after v × Tells before after w w' v r × TellsFit n detail v r)

-- ## runs that are continued

-- the line for a file that cannot be read was written
pub record TellsUnread (files_of : List ℕ → List File) (before after : FilesSeen) (w w' : SinkSeen) (r : ℕ) : Type 0 where
  pub file : File
  pub is : IsUnread files_of before after file
  pub tells : Tells before after w w' (unread [] file.name) r

-- the verdict is the run from a state that these bytes spell
pub record IsFromSpelled (m : ℕ) (detail : Detail) (x : Scenario) (bytes : List ℕ) (v : Verdict) : Type 0 where
  pub state : State
  pub spelled : IsSpelled x bytes state
  pub is : v ≡ resumed m detail x state

-- What is written when `resume` is asked for with files of these names. First: if its image and its script
-- are seen and accepted, their run starts well and no more turns are asked for than a run may have. Second:
-- if all its files are seen and accepted, the text is the run from each state that the last of them spells.
-- To show that a state is spelled there, one may use that the start of the run is sane. In both cases it may
-- be instead that a file cannot be read and this was written, or that memory is short.
pub record TellsResumed (devices : List DeviceData) (image_name script_name state_name : List ℕ) (m : ℕ) (detail : Detail) (before after : FilesSeen) (w w' : SinkSeen) (r : ℕ) : Type 0 where
  pub starts : (image script : List ℕ) → before.contents image_name ≡ Some image → before.contents script_name ≡ Some script → image_refusal image ≡ None → script_refusal script ≡ None
      → (StartsWell (scenario_of (image_data_of image) script devices) × (m ≤ 1000000000)) ⊎ (TellsUnread (state_files devices image_name script_name state_name m) before after w w' r ⊎ IsShort before after w w' r)
  pub each : (contents : List (List ℕ)) (v : Verdict) → TakesAll (Are before.contents) (state_files devices image_name script_name state_name m) contents
      → let x = scenario_in devices contents in
      (Sane x.setup (start_of x) → IsFromSpelled m detail x (slice_index_or contents 2 []) v) → Tells before after w w' v r ⊎ TellsUnread (state_files devices image_name script_name state_name m) before after w w' r
