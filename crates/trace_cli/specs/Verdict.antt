-- What the program answers: a status, its text, and the file that it puts.
use Rattle.std.specs.Prelude.{◌≡◌, ℕ, Bool, false, true, if◌then◌else◌, List, [], length, take, slice_index_or, codes, Option, Some, Ok}
use Rattle.kernel_abi.specs.Devices.{DeviceData}
use Rattle.image_format.specs.ImageData.{ImageData}
use Rattle.board_model.specs.declared.outcomes.Level.TheVariants.{Calls, All}
use Rattle.board_model.specs.Script.{Scenario, start_of}
use Rattle.run_cover.specs.Known.{IsKnownOf}
use Rattle.run_cover.specs.Text.{cover_text}
use Rattle.run_cover.specs.Tracefile.{Section, run_tracefile}
use Rattle.run_lanes.specs.Pictured.{picture_text}
use Rattle.run_lanes.specs.Timeline.{timeline_text}
use Rattle.sweep_core.specs.Swept.{Asking, makes_difference, sweep_text}
use Rattle.sweep_core.specs.Sweeping.{asked}
use Rattle.debug_core.specs.declared.command.Command.{Command}
use Rattle.debug_core.specs.Answers.{text as answers_text}
use Rattle.debug_core.specs.Live.{live_limit, live_text}
use Rattle.debug_core.specs.Reading.{commands_or_fault}
use Rattle.debug_core.specs.Session.{opened}
use Rattle.command_line.specs.CommandLine.{Asked, build, run, go, list, sample, migrate, audit, save, resume, debug, cover, sweep, timeline, live, picture, lcov, help, is_accepted}
use Rattle.thumb_asm.specs.Meaning.{Names}
use Rattle.command_files.specs.Contents.{Why, script_of, scenario_of}
use Rattle.command_files.specs.Building.{labels_from}
use Rattle.trace_cli.specs.Tracing.{sections}
use Rattle.trace_cli.specs.Words.{job_in}
use Rattle.command_files.specs.Sources.{File, Are, Reaches, TakesAll, IsBuilt, described, sources_in, script_in, scenario_in}
use Rattle.trace_cli.specs.Sources.{files_of}
use Rattle.command_files.specs.Verdict.{Verdict, line_alone, traced_line, drawn_line, refused, status_of, names_by, Builds, Lists, Migrates, Audits, Helps}
use Rattle.board_commands.specs.Verdict.{run_of, Runs, Goes, Saves, Resumes, Samples}

-- ## the verdicts

abbrev pub usage_line : List ℕ
usage_line = codes "usage: hubris build, run, go, list, sample, migrate, audit, save, resume, debug, cover, sweep, timeline, live, picture, lcov or help\n"

-- the words are not accepted
abbrev pub usage : Verdict
usage = line_alone 2 usage_line

-- commands were carried out over the run of a scenario: the answer to each of them
abbrev pub debugged : Scenario → List Command → Verdict
debugged x commands = line_alone 0 (answers_text x commands)

-- the lines of these bytes were carried out over the run of a scenario as they came: the answer to each of them
abbrev pub lived : Scenario → List ℕ → Verdict
lived x bytes = line_alone 0 (live_text x opened (take live_limit bytes))

-- how often a run executed each instruction, with these labels; the test `known` says what is known to be
-- code
abbrev pub covered : ℕ → Scenario → Names → (ℕ → Bool) → Verdict
covered n x labels known =
    let r = run_of All n x in
    line_alone (status_of r.end) (cover_text x.setup r known labels)

-- the test is true of exactly what is known to be code of that run
abbrev pub IsKnownIn : ℕ → Scenario → (ℕ → Bool) → Type 0
IsKnownIn n x known = IsKnownOf x.setup (run_of All n x) known

abbrev pub IsCovered : ℕ → Scenario → Names → Verdict → Type 0
IsCovered n x labels v = (known : ℕ → Bool) × IsKnownIn n x known × (v ≡ covered n x labels known)

-- what a sweep is asked for, if its arrival has these bytes
abbrev pub asking : List ℕ → ℕ → ℕ → ℕ → Bool → Asking
asking arrival from to limit mem = asked (script_of arrival).events from to limit mem

-- a run was made for each arrival time
abbrev pub swept : Scenario → Asking → Verdict
swept x a = line_alone (if makes_difference x a then 8 else 0) (sweep_text x a)

-- a run was written as a timeline, with these names of tasks
abbrev pub timed : ℕ → List (List ℕ) → Scenario → Verdict
timed n names x = line_alone (status_of (run_of Calls n x).end) (timeline_text names x n (start_of x))

-- a run was drawn as a picture, with this title and these names of tasks, and put under a name
abbrev pub drawn : List ℕ → ℕ → List ℕ → List (List ℕ) → Scenario → Verdict
drawn out n title names x =
    let bytes = picture_text title names x n (start_of x) in
    record { status = 0; text = drawn_line (length bytes); put = Some (out, bytes) }

-- how often a run executed each line of these sections was put under a name
abbrev pub traced : List ℕ → ℕ → List Section → Scenario → Verdict
traced out n sections x =
    let bytes = run_tracefile (run_of All n x) sections in
    record { status = 0; text = traced_line (length bytes); put = Some (out, bytes) }

-- ## what each command makes of accepted files with these contents, if a run has these devices

abbrev pub Does : List DeviceData → Asked → List (List ℕ) → Verdict → Type 0
Does devices (build app out) contents v = Builds out contents v
Does devices (run image script steps detail) contents v = Runs steps detail devices contents v
Does devices (go app script steps detail) contents v = Goes steps detail devices contents v
Does devices (list image) contents v = Lists contents v
Does devices (sample seed steps) contents v = Samples seed steps contents v
Does devices (migrate image out) contents v = Migrates out contents v
Does devices (audit name) contents v = Audits contents v
Does devices (save image script out steps) contents v = Saves out steps devices contents v
Does devices (resume image script state steps detail) contents v = Resumes steps detail devices contents v
Does devices (debug image script name) contents v =
    (commands : List Command) × (commands_or_fault (slice_index_or contents 2 []) ≡ Ok commands) × (v ≡ debugged (scenario_in devices contents) commands)
Does devices (cover image script steps false) contents v = IsCovered steps (scenario_in devices contents) [] v
Does devices (cover app script steps true) contents v =
    (image : ImageData) × IsBuilt contents image × IsCovered steps (scenario_of image (script_in contents) devices) (labels_from (described contents) 0 (sources_in contents)) v
Does devices (sweep image script arrival from to steps memory) contents v = v ≡ swept (scenario_in devices contents) (asking (slice_index_or contents 2 []) from to steps memory)
Does devices (timeline image script steps names) contents v = v ≡ timed steps (names_by names contents) (scenario_in devices contents)
Does devices (live image script name) contents v = v ≡ lived (scenario_in devices contents) (slice_index_or contents 2 [])
Does devices (picture image script out steps names) contents v = v ≡ drawn out steps image (names_by names contents) (scenario_in devices contents)
Does devices (lcov app script out steps) contents v =
    (image : ImageData) × IsBuilt contents image × (v ≡ traced out steps (sections (described contents) (sources_in contents)) (scenario_of image (script_in contents) devices))
Does devices (help about) contents v = Helps about contents v

-- ## the verdict on words and contents, if they are seen as far as they count and a run has these devices

-- The answer to words that are not accepted is the usage line. The answer to the first file that is refused
-- is its line. If all files are accepted, the job decides. There is at most one verdict.
pub data IsVerdict (devices : List DeviceData) (words : List (List ℕ)) (seen : List ℕ → Option (List ℕ)) (v : Verdict) : Type 0 where
  no_job : is_accepted words ≡ false → v ≡ usage → IsVerdict devices words seen v
  refuses : (job : Asked) (contents : List (List ℕ)) (f : File) (bytes : List ℕ) (why : Why) → job_in words ≡ Some job
      → Reaches (Are seen) (files_of devices job) contents f → Are seen f.name bytes → f.refusal bytes ≡ Some why → v ≡ refused f.name why → IsVerdict devices words seen v
  does : (job : Asked) (contents : List (List ℕ)) → job_in words ≡ Some job
      → TakesAll (Are seen) (files_of devices job) contents → Does devices job contents v → IsVerdict devices words seen v
