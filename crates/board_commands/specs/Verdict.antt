-- What each command answers: a status, its text, and the file that it puts.
use Rattle.std.specs.Prelude.{◌≡◌, ℕ, ◌-◌, Bool, if◌then◌else◌, List, [], ◌++◌, length, Some}
use Rattle.kernel_abi.specs.Devices.{DeviceData}
use Rattle.image_format.specs.ImageData.{ImageData}
use Rattle.image_build.specs.Built.{Built}
use Rattle.sample_gen.specs.Sample.{sample_app, sample_sources}
use Rattle.task_table.specs.model.State.{Setup, State}
use Rattle.board_model.specs.declared.outcomes.Level.{Level}
use Rattle.board_model.specs.declared.outcomes.Level.TheVariants.{Calls, All}
use Rattle.board_model.specs.Script.{Scenario, start_of}
use Rattle.board_model.specs.Run as board
use Rattle.board_model.specs.Cut.{from_turn}
use Rattle.board_model.specs.Alike.{reduced}
use Rattle.snapshot.specs.Saved.{spelling as spelling_of_state}
use Rattle.board_run.specs.Text.{trace_text}
use Rattle.board_run.specs.Counts.{summary_text}
use Rattle.board_run.specs.MemoryText.{memory_text}
use Rattle.command_line.specs.CommandLine.{run}
use Rattle.command_line.specs.declared.job.Detail.{Detail}
use Rattle.command_files.specs.Contents.{scenario_of}
use Rattle.board_commands.specs.Contents.{sample_scenario}
use Rattle.command_files.specs.Sources.{IsBuilt, script_in, scenario_in}
use Rattle.board_commands.specs.Sources.{state_by}
use Rattle.command_files.specs.Verdict.{Verdict, line_alone, saved_line, status_of}

-- all instructions are noted, or not
abbrev pub level_of : Detail → Level
level_of detail = if detail.instructions then All else Calls

-- the run of a scenario from its start, of at most n turns
abbrev pub run_of : Level → ℕ → Scenario → board.Run
run_of level n x = board.run level x n (start_of x)

-- the memory of its last state, if it is asked for
abbrev pub memory_if : Bool → Setup → State → List ℕ
memory_if mem g s = if mem then memory_text g s else []

-- a run was done
abbrev pub ran : ℕ → Detail → Scenario → Verdict
ran n detail x =
    let r = run_of (level_of detail) n x in
    line_alone (status_of r.end) (trace_text r ++ memory_if detail.memory x.setup r.last)

-- the run of a scenario from one of its states up to turn n
abbrev pub run_from : Level → ℕ → Scenario → State → board.Run
run_from level n x s = board.run level x (n - s.turn) s

-- a run was continued from one of its states
abbrev pub resumed : ℕ → Detail → Scenario → State → Verdict
resumed n detail x s =
    let r = run_from (level_of detail) n x s in
    line_alone (status_of r.end) (trace_text r ++ memory_if detail.memory x.setup r.last)

-- what is left of a run, without the lines of turns before turn k
abbrev pub rest_of_run : ℕ → ℕ → Detail → Scenario → Verdict
rest_of_run k n detail x =
    let r = from_turn k (run_of (level_of detail) n x) in
    line_alone (status_of r.end) (trace_text r ++ memory_if detail.memory x.setup r.last)

-- the spelling of the state in which a run of at most n turns ends
abbrev pub saved_bytes : ℕ → Scenario → List ℕ
saved_bytes n x = spelling_of_state (reduced (run_of Calls n x).last)

-- that state was put under a name
abbrev pub saved : List ℕ → ℕ → Scenario → Verdict
saved out n x = record { status = 0; text = saved_line (length (saved_bytes n x)); put = Some (out, saved_bytes n x) }

-- the sample of a seed was run: how the run ended, and how many notes of each kind it had
abbrev pub sampled : ℕ → Scenario → Verdict
sampled n x =
    let r = run_of Calls n x in
    line_alone (status_of r.end) (summary_text r)

-- ## what these commands make of accepted files with these contents, if a run has these devices

abbrev pub Runs : ℕ → Detail → List DeviceData → List (List ℕ) → Verdict → Type 0
Runs steps detail devices contents v = v ≡ ran steps detail (scenario_in devices contents)

abbrev pub Goes : ℕ → Detail → List DeviceData → List (List ℕ) → Verdict → Type 0
Goes steps detail devices contents v = (image : ImageData) × IsBuilt contents image × (v ≡ ran steps detail (scenario_of image (script_in contents) devices))

abbrev pub Saves : List ℕ → ℕ → List DeviceData → List (List ℕ) → Verdict → Type 0
Saves out steps devices contents v = v ≡ saved out steps (scenario_in devices contents)

abbrev pub Resumes : ℕ → Detail → List DeviceData → List (List ℕ) → Verdict → Type 0
Resumes steps detail devices contents v = v ≡ resumed steps detail (scenario_in devices contents) (state_by devices contents)

-- no run of a sample has a device
abbrev pub Samples : ℕ → ℕ → List (List ℕ) → Verdict → Type 0
Samples seed steps contents v = (image : ImageData) × Built (sample_app seed) (sample_sources seed) image × (v ≡ sampled steps (sample_scenario seed image))
