-- What an answer of the program says about the words, the files and the sink.
use Rattle.std.specs.Prelude.{◌≡◌, ◌≤◌, ◌⊎◌, ℕ, false, List, [], ◌++◌, length, Option, Some, None}
use Rattle.std.specs.Io.KnownBytes.{Appends}
use Rattle.kernel_abi.specs.Devices.{DeviceData}
use Rattle.outside_io.specs.Outside.{WhereSeen, Rose, AppendsFront, IsFront, short_name}
use Rattle.board_model.specs.declared.outcomes.Level.TheVariants.{Calls}
use Rattle.board_model.specs.Script.{Scenario}
use Rattle.audit_runs.specs.Last.{IsGoodText}
use Rattle.debug_core.specs.Live.{begun_text}
use Rattle.debug_core.specs.Session.{opened}
use Rattle.command_line.specs.CommandLine.{Asked, build, run, go, list, sample, migrate, audit, save, resume, debug, cover, sweep, timeline, live, picture, lcov, help, is_accepted}
use Rattle.command_line.specs.declared.job.Detail.{Detail}
use Rattle.command_files.specs.Contents.{Why, image_refusal, script_refusal, image_data_of, scenario_of}
use Rattle.outside_io.specs.Seen.{FilesSeen, SinkSeen}
use Rattle.trace_cli.specs.Words.{job_in}
use Rattle.command_files.specs.Sources.{File, MayBe, Reaches, scenario_in}
use Rattle.command_files.specs.Verdict.{Verdict, refused, refused_line, unread, unread_line}
use Rattle.trace_cli.specs.Verdict.{usage, Does, IsVerdict}
use Rattle.board_commands.specs.Verdict.{saved_bytes, run_of, rest_of_run}
use Rattle.command_files.specs.Answer.{HasPut, HasSpoiled, IsShort, Tells, IsRefused, IsAccepted}
use Rattle.trace_cli.specs.Sources.{files_of}
use Rattle.board_commands.specs.Fit.{IsOfRun}
use Rattle.board_commands.specs.Answer.{TellsResumed}

-- ## why a job has a verdict (the files: before and after the call; the devices: those of a run)

-- the answers to the lines that came from the front of a file and were carried out over the run of a scenario
pub record IsBegun (x : Scenario) (contents : Option (List ℕ)) (told : List ℕ) : Type 0 where
  pub front : List ℕ
  pub held : WhereSeen contents (IsFront front)
  pub is : told ≡ begun_text x opened front

-- What was written before a file could not be read, when the files before it have these contents. It is
-- nothing, except for the third file of `live`: then it is the answers to the lines that came.
abbrev pub WasTold : List DeviceData → Asked → (List ℕ → Option (List ℕ)) → List (List ℕ) → List ℕ → Type 0
WasTold devices (live image script name) seen contents told = (told ≡ []) ⊎ ((length contents ≡ 2) × IsBegun (scenario_in devices contents) (seen name) told)
WasTold devices job seen contents told = told ≡ []

-- Each earlier file is accepted, and a read of this one failed. The count of failed reads says so, and the
-- name of the last failing call.
pub record IsUnread (devices : List DeviceData) (job : Asked) (before after : FilesSeen) (f : File) : Type 0 where
  pub contents : List (List ℕ)
  pub reached : Reaches (MayBe before.contents) (files_of devices job) contents f
  pub rose : Rose before.read_faults after.read_faults
  pub named : WhereSeen after.last_failing (λ name. name ≡ short_name f.name)
  pub told : List ℕ
  pub was_told : WasTold devices job before.contents contents told

pub data JobReason (devices : List DeviceData) (job : Asked) (before after : FilesSeen) (v : Verdict) : Type 0 where
  cannot_read : (f : File) (is : IsUnread devices job before after f) → v ≡ unread is.told f.name → JobReason devices job before after v
  refuses : (f : File) (why : Why) → IsRefused (files_of devices job) before.contents f why → v ≡ refused f.name why → JobReason devices job before after v
  does : (contents : List (List ℕ)) → IsAccepted (files_of devices job) before.contents contents → Does devices job contents v → JobReason devices job before after v

-- ## why words have a verdict

pub data CommandReason (devices : List DeviceData) (words : List (List ℕ)) (before after : FilesSeen) (v : Verdict) : Type 0 where
  no_job : is_accepted words ≡ false → v ≡ usage → CommandReason devices words before after v
  of_job : (job : Asked) → job_in words ≡ Some job → JobReason devices job before after v → CommandReason devices words before after v

-- ## what `audit` says of it

-- if `run` or `go` wrote a run to its end, `audit` accepts its text (docs/FORMATS.md, Audit)
abbrev pub TellsGood : Asked → Verdict → ℕ → Type 0
TellsGood (run image script steps detail) v r = IsOfRun r → IsGoodText v.text
TellsGood (go app script steps detail) v r = IsOfRun r → IsGoodText v.text
TellsGood (build app out) v r = Unit {0}
TellsGood (list image) v r = Unit {0}
TellsGood (sample seed steps) v r = Unit {0}
TellsGood (migrate image out) v r = Unit {0}
TellsGood (audit trace) v r = Unit {0}
TellsGood (save image script out steps) v r = Unit {0}
TellsGood (resume image script state steps detail) v r = Unit {0}
TellsGood (debug image script commands) v r = Unit {0}
TellsGood (cover image script steps labels) v r = Unit {0}
TellsGood (sweep image script arrival from to steps memory) v r = Unit {0}
TellsGood (timeline image script steps names) v r = Unit {0}
TellsGood (live image script commands) v r = Unit {0}
TellsGood (picture image script out steps names) v r = Unit {0}
TellsGood (lcov app script out steps) v r = Unit {0}
TellsGood (help about) v r = Unit {0}

-- the same for words, if they ask for a job
abbrev pub TellsGoodIn : Option Asked → Verdict → ℕ → Type 0
TellsGoodIn None v r = Unit {0}
TellsGoodIn (Some job) v r = TellsGood job v r

-- ## the answer to a job, and to words: a verdict with its reason was written, or memory is short

abbrev pub AnswersJob : List DeviceData → Asked → FilesSeen → FilesSeen → SinkSeen → SinkSeen → ℕ → Type 0
AnswersJob devices job before after w w' r = IsShort before after w w' r ⊎ ((v : Verdict) × JobReason devices job before after v × Tells before after w w' v r × TellsGood job v r)

abbrev pub Answers : List DeviceData → List (List ℕ) → FilesSeen → FilesSeen → SinkSeen → SinkSeen → ℕ → Type 0
Answers devices words before after w w' r = IsShort before after w w' r ⊎ ((v : Verdict) × CommandReason devices words before after v × Tells before after w w' v r × TellsGoodIn (job_in words) v r)

-- ## by status

-- 0, 6, 7 and 8: the job was done, its file put and its text pushed whole, under the status of its verdict;
-- `audit` accepts the text of a run
pub record HasDone (devices : List DeviceData) (words : List (List ℕ)) (before after : FilesSeen) (w w' : SinkSeen) (r : ℕ) : Type 0 where
  pub job : Asked
  pub command : job_in words ≡ Some job
  pub contents : List (List ℕ)
  pub accepted : IsAccepted (files_of devices job) before.contents contents
  pub verdict : Verdict
  pub done : Does devices job contents verdict
  pub status : verdict.status ≡ r
  pub put : HasPut before.contents after.contents verdict.put
  pub text : Appends w.written w'.written verdict.text
  pub good : TellsGood job verdict r

abbrev pub IsDone : ℕ → Type 0
IsDone r = (r ≡ 0) ⊎ ((r ≡ 6) ⊎ ((r ≡ 7) ⊎ (r ≡ 8)))

-- 1: the line for a file that is refused
pub record HasRefused (devices : List DeviceData) (words : List (List ℕ)) (seen : List ℕ → Option (List ℕ)) (w w' : SinkSeen) : Type 0 where
  pub job : Asked
  pub command : job_in words ≡ Some job
  pub file : File
  pub why : Why
  pub is : IsRefused (files_of devices job) seen file why
  pub line : Appends w.written w'.written (refused_line file.name why.0 why.1)

-- 3: the line for a file that cannot be read, after what was written before it
pub record HasUnread (devices : List DeviceData) (words : List (List ℕ)) (before after : FilesSeen) (w w' : SinkSeen) : Type 0 where
  pub job : Asked
  pub command : job_in words ≡ Some job
  pub file : File
  pub is : IsUnread devices job before after file
  pub line : Appends w.written w'.written (is.told ++ unread_line file.name)

-- 4: the file was put, if there is one, and a front of the text was pushed; or its put failed, and nothing
-- was pushed
abbrev pub IsCut : FilesSeen → FilesSeen → SinkSeen → SinkSeen → Verdict → Type 0
IsCut before after w w' v =
    (Rose w.faults w'.faults × HasPut before.contents after.contents v.put × AppendsFront w.written w'.written v.text)
    ⊎ (Rose before.put_faults after.put_faults × HasSpoiled before.contents after.contents v.put × (w'.written ≡ w.written))

pub record HasFront (devices : List DeviceData) (words : List (List ℕ)) (before after : FilesSeen) (w w' : SinkSeen) : Type 0 where
  pub verdict : Verdict
  pub reason : CommandReason devices words before after verdict
  pub front : IsCut before after w w' verdict

-- ## when the contents are seen

-- A read failed, and the line for that file was written. `Answered`: this verdict was written, or a read failed
-- like that.
pub record HasUnreadSeen (devices : List DeviceData) (words : List (List ℕ)) (before after : FilesSeen) (w w' : SinkSeen) (r : ℕ) : Type 0 where
  pub job : Asked
  pub command : job_in words ≡ Some job
  pub file : File
  pub is : IsUnread devices job before after file
  pub tells : Tells before after w w' (unread is.told file.name) r

abbrev pub Answered : List DeviceData → List (List ℕ) → FilesSeen → FilesSeen → SinkSeen → SinkSeen → Verdict → ℕ → Type 0
Answered devices words before after w w' v r = Tells before after w w' v r ⊎ HasUnreadSeen devices words before after w w' r

-- for each verdict on the words and the seen contents: that verdict was written, or the line for a read that
-- failed
abbrev pub AnswersEach : List DeviceData → List (List ℕ) → FilesSeen → FilesSeen → SinkSeen → SinkSeen → ℕ → Type 0
AnswersEach devices words before after w w' r = (v : Verdict) → IsVerdict devices words before.contents v → Answered devices words before after w w' v r

-- if no count of faults rose: the file was put and the whole text pushed under its status, or memory is short
abbrev pub IsComplete : FilesSeen → FilesSeen → SinkSeen → SinkSeen → Verdict → ℕ → Type 0
IsComplete before after w w' v r =
    ((r ≡ v.status) × HasPut before.contents after.contents v.put × Appends w.written w'.written v.text) ⊎ IsShort before after w w' r

-- ## runs that are saved and continued

-- of any other job this says nothing
abbrev pub TellsEach : List DeviceData → Asked → FilesSeen → FilesSeen → SinkSeen → SinkSeen → ℕ → Type 0
TellsEach devices (resume image script state m detail) before after w w' r = TellsResumed devices image script state m detail before after w w' r
TellsEach devices job before after w w' r = Unit {0}

-- `resume` is asked for with the image and the script of a run, up to turn m, and with the state that `save`
-- puts of that run up to turn n. That state is of turn m or an earlier one. Then the text is that of `run` up
-- to turn m, without the lines of turns before the saved one.
abbrev pub GoesOn : List DeviceData → List (List ℕ) → FilesSeen → FilesSeen → SinkSeen → SinkSeen → ℕ → Type 0
GoesOn devices words before after w w' r =
    (image_name script_name state_name image script : List ℕ) (m n : ℕ) (detail : Detail)
    → let x = scenario_of (image_data_of image) script devices in
    let last = (run_of Calls n x).last in
    job_in words ≡ Some (resume image_name script_name state_name m detail)
    → before.contents image_name ≡ Some image → before.contents script_name ≡ Some script → before.contents state_name ≡ Some (saved_bytes n x)
    → image_refusal image ≡ None → script_refusal script ≡ None → last.turn ≤ m
    → Answered devices words before after w w' (rest_of_run last.turn m detail x) r
