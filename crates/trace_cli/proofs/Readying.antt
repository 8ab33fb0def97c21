-- From the files of a job to its answer.
use Rattle.std.proofs.Common.{◌≡◌, ℕ, ◌≤◌, Bool, List, [], ◌∷◌, length, Option, Some, None, refl, sym, ap, subst, ◌∙◌, inl, inr, true}
use Rattle.std.specs.Prelude.{slice_get}
use Rattle.kernel_abi.specs.Devices.{AreFresh, DeviceData}
use Rattle.image_format.specs.ImageData.{ImageData}
use Rattle.board_core.specs.Data.{Shows}
use Rattle.board_core.specs.declared.board.Board.{Board}
use Rattle.board_model.specs.Script.{Scenario, start_of}
use Rattle.board_core.specs.Opened as opened
use Rattle.run_script.specs.Scripts.{Listed, ScriptData}
use Rattle.sweep_core.specs.declared.sweeper.Sweeper.{Sweeper}
use Rattle.sweep_core.specs.Sweeping.{IsReady as IsReadyToSweep, asked}
use Rattle.board_core.specs.Stands.{Stands}
use Rattle.command_line.specs.CommandLine.{Asked, build, run, go, list, sample, migrate, audit, save, resume, debug, cover, sweep, timeline, live, picture as draw_picture, lcov, help}
use Rattle.command_line.specs.declared.job.Detail.{Detail}
use Rattle.debug_core.specs.declared.command.Command.{Command}
use Rattle.command_files.specs.declared.file_faults.NamedFault.{NamedFault}
use Rattle.command_files.specs.Contents.{image_data_of, scenario_of, script_of}
use Rattle.outside_io.specs.Seen.{FilesSeen, SinkSeen}
use Rattle.command_files.specs.Sources.{File, image_file, script_file, first_of, MayBe, Takes, Reaches}
use Rattle.trace_cli.specs.Sources.{commands_file, arrival_file, files_of}
use Rattle.command_files.specs.FileFaults.{IsNamedFaultOf}
use Rattle.app_toml.specs.Apps.{AppData}
use Rattle.run_cover.specs.Tracefile.{Section}
use Rattle.command_files.specs.declared.source_lines.SourceLines.{SourceLines}
use Rattle.command_files.specs.Building.{kept_lines}
use Rattle.trace_cli.specs.Tracing.{sections, sections_by}
use Rattle.thumb_asm.specs.declared.listing.InsnLine.{InsnLine}
use Rattle.trace_cli.specs.Ready.{IsCommandsFile, IsDebugReady, IsArrivalFile, IsSweepReady}
use Rattle.command_files.specs.Ready.{IsImageFile, IsScriptFile, IsReady, IsAppReady, IsNamedFaultIn}
use Rattle.command_files.specs.Pushed.{Pushed, Says, pushed, silent, SaysNamedFault}
use Rattle.command_files.specs.Verdict.{Verdict, refused}
use Rattle.trace_cli.specs.Verdict.{Does, debugged, swept, timed, drawn, traced}
use Rattle.trace_cli.specs.Answer.{JobReason, cannot_read, refuses, does, WasTold, TellsGood, AnswersJob}
use Rattle.command_files.proofs.Lists.{takes_none, takes_first}
use Rattle.command_files.specs.Answer as command
use Rattle.command_files.specs.Answer.{Tells}
use Rattle.board_commands.specs.Answer.{AnswersRun, TellsFit}
use Rattle.command_files.proofs.Readying.{faults_first, faults_at, one_file, two_files}
use Rattle.command_files.proofs.Answering.{silent_short, put_nothing, tells_pushed, tells_earlier, named_fault_by}

-- ## `debug`

pub commands_there : {seen seen' : List ℕ → Option (List ℕ)} {name : List ℕ} {commands : List Command} → seen ≡ seen' → IsCommandsFile seen name commands → IsCommandsFile seen' name commands
commands_there {seen} {seen'} {name} {commands} same h = subst (λ (t : List ℕ → Option (List ℕ)). IsCommandsFile t name commands) same h

pub debug_ready : {X : Type 0} {H : X → Type 0} {shown : Shows X H} {devices : List DeviceData} (seen : List ℕ → Option (List ℕ)) (image script name : List ℕ) (image_data : ImageData) (events : ScriptData) (commands : List Command) (b : Board X H) → IsImageFile seen image image_data
    → IsScriptFile seen script events → IsCommandsFile seen name commands → Stands shown (opened.scenario_of image_data events devices) b (start_of (opened.scenario_of image_data events devices)) → IsDebugReady shown devices (debug image script name) seen commands b
debug_ready {X} {H} {shown} {devices} seen image script name image_data events commands b i s c stands =
    let of_image : Stands shown (opened.scenario_of (image_data_of i.bytes) events devices) b (start_of (opened.scenario_of (image_data_of i.bytes) events devices)) =
    subst (λ (p : ImageData). Stands shown (opened.scenario_of p events devices) b (start_of (opened.scenario_of p events devices))) i.is stands in
    record {
      contents = i.bytes ∷ s.bytes ∷ c.bytes ∷ [];
      accepted = record {
        takes = takes_first (MayBe seen) (image_file image) (script_file script ∷ commands_file name ∷ []) i.bytes (s.bytes ∷ c.bytes ∷ []) i.held i.accepted
            (takes_first (MayBe seen) (script_file script) (commands_file name ∷ []) s.bytes (c.bytes ∷ []) s.held s.accepted
            (takes_first (MayBe seen) (commands_file name) [] c.bytes [] c.held c.accepted (takes_none (MayBe seen) [])));
        all = refl;
      };
      scenario = scenario_of (image_data_of i.bytes) s.bytes devices;
      done = (commands, c.is, refl);
      stands = subst (λ (d : ScriptData). Stands shown (opened.scenario_of (image_data_of i.bytes) d devices) b (start_of (opened.scenario_of (image_data_of i.bytes) d devices))) s.is of_image;
    }

pub debug_image_faults : {devices : List DeviceData} (fresh : AreFresh devices) (a c : FilesSeen) (image script name : List ℕ) (h : NamedFault) → IsNamedFaultOf a c (image_file image) h → IsNamedFaultIn (files_of devices (debug image script name)) a c h
debug_image_faults {devices} fresh a c image script name h fault = faults_first (image_file image) a c h refl fault

pub debug_script_faults : {devices : List DeviceData} (fresh : AreFresh devices) (a b c : FilesSeen) (image script name : List ℕ) (image_data : ImageData) (h : NamedFault) → IsImageFile a.contents image image_data → b.contents ≡ a.contents
    → a.read_faults ≤ b.read_faults → IsNamedFaultOf b c (script_file script) h → IsNamedFaultIn (files_of devices (debug image script name)) a c h
debug_script_faults {devices} fresh a b c image script name image_data h i seen later fault = faults_at (i.bytes ∷ []) (script_file script) a b c h (one_file a.contents image image_data (script_file script ∷ commands_file name ∷ []) i) refl seen later fault

pub debug_commands_faults : {devices : List DeviceData} (fresh : AreFresh devices) (a b c : FilesSeen) (image script name : List ℕ) (image_data : ImageData) (events : ScriptData) (h : NamedFault) → IsImageFile a.contents image image_data → IsScriptFile a.contents script events
    → b.contents ≡ a.contents → a.read_faults ≤ b.read_faults → IsNamedFaultOf b c (commands_file name) h → IsNamedFaultIn (files_of devices (debug image script name)) a c h
debug_commands_faults {devices} fresh a b c image script name image_data events h i s seen later fault = faults_at (i.bytes ∷ s.bytes ∷ []) (commands_file name) a b c h (two_files a.contents image script image_data events (commands_file name ∷ []) i s) refl seen later fault

-- ## `sweep`

pub arrival_there : {seen seen' : List ℕ → Option (List ℕ)} {name : List ℕ} {arrival : ScriptData} → seen ≡ seen' → IsArrivalFile seen name arrival → IsArrivalFile seen' name arrival
arrival_there {seen} {seen'} {name} {arrival} same h = subst (λ (t : List ℕ → Option (List ℕ)). IsArrivalFile t name arrival) same h

pub sweep_ready : {X : Type 0} {H : X → Type 0} {shown : Shows X H} {devices : List DeviceData} (seen : List ℕ → Option (List ℕ)) (image script name : List ℕ) (from to limit : ℕ) (mem : Bool) (image_data : ImageData) (events arrival : ScriptData) (w : Sweeper X H) → IsImageFile seen image image_data
    → IsScriptFile seen script events → IsArrivalFile seen name arrival → IsReadyToSweep shown (opened.scenario_of image_data events devices) arrival.events w → IsSweepReady shown devices (sweep image script name from to limit mem) seen from to limit mem w
sweep_ready {X} {H} {shown} {devices} seen image script name from to limit mem image_data events arrival w i s c ready =
    let of_image : IsReadyToSweep shown (opened.scenario_of (image_data_of i.bytes) events devices) arrival.events w =
    subst (λ (p : ImageData). IsReadyToSweep shown (opened.scenario_of p events devices) arrival.events w) i.is ready in
    let of_script : IsReadyToSweep shown (scenario_of (image_data_of i.bytes) s.bytes devices) arrival.events w =
    subst (λ (d : ScriptData). IsReadyToSweep shown (opened.scenario_of (image_data_of i.bytes) d devices) arrival.events w) s.is of_image in
    record {
      contents = i.bytes ∷ s.bytes ∷ c.bytes ∷ [];
      accepted = record {
        takes = takes_first (MayBe seen) (image_file image) (script_file script ∷ arrival_file name ∷ []) i.bytes (s.bytes ∷ c.bytes ∷ []) i.held i.accepted
            (takes_first (MayBe seen) (script_file script) (arrival_file name ∷ []) s.bytes (c.bytes ∷ []) s.held s.accepted
            (takes_first (MayBe seen) (arrival_file name) [] c.bytes [] c.held c.accepted (takes_none (MayBe seen) [])));
        all = refl;
      };
      scenario = scenario_of (image_data_of i.bytes) s.bytes devices;
      arrival = (script_of c.bytes).events;
      done = refl;
      ready = subst (λ (d : ScriptData). IsReadyToSweep shown (scenario_of (image_data_of i.bytes) s.bytes devices) d.events w) c.is of_script;
    }

pub sweep_image_faults : {devices : List DeviceData} (fresh : AreFresh devices) (a c : FilesSeen) (image script name : List ℕ) (from to limit : ℕ) (mem : Bool) (h : NamedFault) → IsNamedFaultOf a c (image_file image) h → IsNamedFaultIn (files_of devices (sweep image script name from to limit mem)) a c h
sweep_image_faults {devices} fresh a c image script name from to limit mem h fault = faults_first (image_file image) a c h refl fault

pub sweep_script_faults : {devices : List DeviceData} (fresh : AreFresh devices) (a b c : FilesSeen) (image script name : List ℕ) (from to limit : ℕ) (mem : Bool) (image_data : ImageData) (h : NamedFault) → IsImageFile a.contents image image_data → b.contents ≡ a.contents
    → a.read_faults ≤ b.read_faults → IsNamedFaultOf b c (script_file script) h → IsNamedFaultIn (files_of devices (sweep image script name from to limit mem)) a c h
sweep_script_faults {devices} fresh a b c image script name from to limit mem image_data h i seen later fault =
    faults_at (i.bytes ∷ []) (script_file script) a b c h (one_file a.contents image image_data (script_file script ∷ arrival_file name ∷ []) i) refl seen later fault

pub sweep_arrival_faults : {devices : List DeviceData} (fresh : AreFresh devices) (a b c : FilesSeen) (image script name : List ℕ) (from to limit : ℕ) (mem : Bool) (image_data : ImageData) (events : ScriptData) (h : NamedFault) → IsImageFile a.contents image image_data → IsScriptFile a.contents script events
    → b.contents ≡ a.contents → a.read_faults ≤ b.read_faults → IsNamedFaultOf b c (arrival_file name) h → IsNamedFaultIn (files_of devices (sweep image script name from to limit mem)) a c h
sweep_arrival_faults {devices} fresh a b c image script name from to limit mem image_data events h i s seen later fault =
    faults_at (i.bytes ∷ s.bytes ∷ []) (arrival_file name) a b c h (two_files a.contents image script image_data events (arrival_file name ∷ []) i s) refl seen later fault

-- ## the answer

pub answers_pushed : {devices : List DeviceData} (job : Asked) (a b : FilesSeen) (w w' : SinkSeen) (v : Verdict) (r : ℕ) → b.contents ≡ a.contents → v.put ≡ None → JobReason devices job a b v → TellsGood job v r → Pushed w w' v r → AnswersJob devices job a b w w' r
answers_pushed job a b w w' v r same none why good p = inr (v, why, tells_pushed a b w w' v r (put_nothing a b v same none) p, good)

pub answers_said : {devices : List DeviceData} (job : Asked) (a b : FilesSeen) (w w' : SinkSeen) (v : Verdict) (r : ℕ) → b.contents ≡ a.contents → v.put ≡ None → JobReason devices job a b v → TellsGood job v r → Says w w' v r → AnswersJob devices job a b w w' r
answers_said job a b w w' v r same none why good (pushed p) = answers_pushed job a b w w' v r same none why good p
answers_said job a b w w' v r same none why good (silent s) = inl (silent_short a b w w' r same s)

-- before a file that is not accepted nothing was told
nothing_told : (devices : List DeviceData) (job : Asked) (seen : List ℕ → Option (List ℕ)) (contents : List (List ℕ)) → WasTold devices job seen contents []
nothing_told devices (build app out) seen contents = refl
nothing_told devices (run image script steps detail) seen contents = refl
nothing_told devices (go app script steps detail) seen contents = refl
nothing_told devices (list image) seen contents = refl
nothing_told devices (sample seed steps) seen contents = refl
nothing_told devices (migrate image out) seen contents = refl
nothing_told devices (audit trace) seen contents = refl
nothing_told devices (save image script out steps) seen contents = refl
nothing_told devices (resume image script state steps detail) seen contents = refl
nothing_told devices (debug image script commands) seen contents = refl
nothing_told devices (cover image script steps labels) seen contents = refl
nothing_told devices (sweep image script arrival from to steps memory) seen contents = refl
nothing_told devices (timeline image script steps names) seen contents = refl
nothing_told devices (live image script commands) seen contents = inl refl
nothing_told devices (draw_picture image script out steps names) seen contents = refl
nothing_told devices (lcov app script out steps) seen contents = refl
nothing_told devices (help about) seen contents = refl

-- ## a command of a crate below

-- its files are those of the job
taken_below : (devices : List DeviceData) (files : List ℕ → List File) (job : Asked) (same : (first : List ℕ) → files first ≡ files_of devices job first) (seen : List ℕ → Option (List ℕ)) (contents : List (List ℕ))
    → Takes (MayBe seen) (files (first_of contents)) contents → Takes (MayBe seen) (files_of devices job (first_of contents)) contents
taken_below devices files job same seen contents takes = subst (λ (fs : List File). Takes (MayBe seen) fs contents) (same (first_of contents)) takes

reached_below : (devices : List DeviceData) (files : List ℕ → List File) (job : Asked) (same : (first : List ℕ) → files first ≡ files_of devices job first) (seen : List ℕ → Option (List ℕ)) (contents : List (List ℕ)) (f : File)
    → Reaches (MayBe seen) files contents f → Reaches (MayBe seen) (files_of devices job) contents f
reached_below devices files job same seen contents f h = record {
  takes = taken_below devices files job same seen contents h.takes;
  next = subst (λ (fs : List File). slice_get fs (length contents) ≡ Some f) (same (first_of contents)) h.next;
}

reason_below : (devices : List DeviceData) (files : List ℕ → List File) (D : List (List ℕ) → Verdict → Type 0) (job : Asked) (same : (first : List ℕ) → files first ≡ files_of devices job first) (doing : (contents : List (List ℕ)) (v : Verdict) → D contents v → Does devices job contents v)
    (a b : FilesSeen) (v : Verdict) → command.Reason files D a b v → JobReason devices job a b v
reason_below devices files D job same doing a b v (command.cannot_read f h e) =
    cannot_read f (record { contents = h.contents; reached = reached_below devices files job same a.contents h.contents f h.reached; rose = h.rose; named = h.named; told = []; was_told = nothing_told devices job a.contents h.contents }) e
reason_below devices files D job same doing a b v (command.refuses f why h e) =
    refuses f why (record { contents = h.contents; reached = reached_below devices files job same a.contents h.contents f h.reached; refused = h.refused }) e
reason_below devices files D job same doing a b v (command.does contents all done) =
    does contents (record { takes = taken_below devices files job same a.contents contents all.takes; all = sym (ap (λ (fs : List File). length fs) (same (first_of contents))) ∙ all.all }) (doing contents v done)

pub answers_below : {devices : List DeviceData} {files : List ℕ → List File} {D : List (List ℕ) → Verdict → Type 0} {a b : FilesSeen} {w w' : SinkSeen} {r : ℕ} → command.AnswersBy files D a b w w' r
    → (job : Asked) (same : (first : List ℕ) → files first ≡ files_of devices job first) (doing : (contents : List (List ℕ)) (v : Verdict) → D contents v → Does devices job contents v) → ((v : Verdict) → TellsGood job v r) → AnswersJob devices job a b w w' r
answers_below (inl s) job same doing good = inl s
answers_below {devices} {files} {D} {a} {b} (inr h) job same doing good = inr (h.0, reason_below devices files D job same doing a b h.0 h.1, h.2, good h.0)

-- a run of at most n turns from its start
pub run_below : {devices : List DeviceData} {files : List ℕ → List File} {D : List (List ℕ) → Verdict → Type 0} {a b : FilesSeen} {w w' : SinkSeen} {r : ℕ} (n : ℕ) (detail : Detail) → AnswersRun files D n detail a b w w' r
    → (job : Asked) (same : (first : List ℕ) → files first ≡ files_of devices job first) (doing : (contents : List (List ℕ)) (v : Verdict) → D contents v → Does devices job contents v) → ((v : Verdict) → TellsFit n detail v r → TellsGood job v r) → AnswersJob devices job a b w w' r
run_below n detail (inl s) job same doing good = inl s
run_below {devices} {files} {D} {a} {b} n detail (inr h) job same doing good = inr (h.0, reason_below devices files D job same doing a b h.0 h.1, h.2, good h.0 h.3)

-- a file is not accepted
pub answers_named_fault : {devices : List DeviceData} (job : Asked) (a b : FilesSeen) (w w' : SinkSeen) (h : NamedFault) (r : ℕ) → ((v : Verdict) → TellsGood job v r) → b.contents ≡ a.contents → IsNamedFaultIn (files_of devices job) a b h → SaysNamedFault w w' h r → AnswersJob devices job a b w w' r
answers_named_fault {devices} job a b w w' h r good same fault says =
    answers_below {devices = devices} {files = files_of devices job} {D = Does devices job} (named_fault_by a b w w' h r same fault says) job (λ first. refl) (λ contents v done. done) good

-- ## the answers

pub answers_debugged : {X : Type 0} {H : X → Type 0} {shown : Shows X H} {devices : List DeviceData} (image script name : List ℕ) (a b : FilesSeen) (w w' : SinkSeen) (commands : List Command) (bd : Board X H) (r : ℕ) → b.contents ≡ a.contents
    → IsDebugReady shown devices (debug image script name) a.contents commands bd → ((x : Scenario) → Stands shown x bd (start_of x) → Says w w' (debugged x commands) r) → AnswersJob devices (debug image script name) a b w w' r
answers_debugged image script name a b w w' commands bd r same h says =
    answers_said (debug image script name) a b w w' (debugged h.scenario commands) r same refl
    (does h.contents h.accepted h.done) tt (says h.scenario h.stands)

pub answers_swept : {X : Type 0} {H : X → Type 0} {shown : Shows X H} {devices : List DeviceData} (image script name : List ℕ) (a b : FilesSeen) (w w' : SinkSeen) (from to limit : ℕ) (mem : Bool) (sweeper : Sweeper X H) (r : ℕ) → b.contents ≡ a.contents
    → IsSweepReady shown devices (sweep image script name from to limit mem) a.contents from to limit mem sweeper
    → ((x : Scenario) (arrival : List Listed) → IsReadyToSweep shown x arrival sweeper → Pushed w w' (swept x (asked arrival from to limit mem)) r)
    → AnswersJob devices (sweep image script name from to limit mem) a b w w' r
answers_swept image script name a b w w' from to limit mem sweeper r same h pushes =
    answers_pushed (sweep image script name from to limit mem) a b w w' (swept h.scenario (asked h.arrival from to limit mem)) r same refl
    (does h.contents h.accepted h.done) tt (pushes h.scenario h.arrival h.ready)

pub answers_timed : {X : Type 0} {H : X → Type 0} {shown : Shows X H} {devices : List DeviceData} (image script : List ℕ) (named : Option (List ℕ)) (a b : FilesSeen) (w w' : SinkSeen) (n : ℕ) (names : List (List ℕ)) (bd : Board X H) (r : ℕ) → b.contents ≡ a.contents
    → IsReady shown (files_of devices (timeline image script n named)) (Does devices (timeline image script n named)) a.contents (timed n names) bd → ((x : Scenario) → Stands shown x bd (start_of x) → Says w w' (timed n names x) r) → AnswersJob devices (timeline image script n named) a b w w' r
answers_timed image script named a b w w' n names bd r same h says =
    answers_said (timeline image script n named) a b w w' (timed n names h.scenario) r same refl (does h.contents h.accepted h.done) tt (says h.scenario h.stands)

-- ## what a file is put under

pub answers_drawn : {X : Type 0} {H : X → Type 0} {shown : Shows X H} {devices : List DeviceData} (image script out : List ℕ) (named : Option (List ℕ)) (a b c : FilesSeen) (w w' : SinkSeen) (n : ℕ) (names : List (List ℕ)) (bd : Board X H) (r : ℕ) → b.contents ≡ a.contents → b.put_faults ≡ a.put_faults
    → IsReady shown (files_of devices (draw_picture image script out n named)) (Does devices (draw_picture image script out n named)) a.contents (drawn out n image names) bd → ((x : Scenario) → Stands shown x bd (start_of x) → Tells b c w w' (drawn out n image names x) r) → AnswersJob devices (draw_picture image script out n named) a c w w' r
answers_drawn image script out named a b c w w' n names bd r same puts h tells =
    let x = h.scenario in
    inr (drawn out n image names x, does h.contents h.accepted h.done, tells_earlier a b c w w' (drawn out n image names x) r same puts (tells x h.stands), tt)

-- where the lines of the sources are kept, the run is answered by them
pub lines_ready : {X : Type 0} {H : X → Type 0} {shown : Shows X H} {devices : List DeviceData} (fresh : AreFresh devices) (job : Asked) (out : List ℕ) (n : ℕ) (seen : List ℕ → Option (List ℕ)) (bd : Board X H) (app : AppData) (l : SourceLines)
    → IsAppReady shown (files_of devices job) (Does devices job) seen (λ described sources. traced out n (sections described sources)) true bd app l → IsReady shown (files_of devices job) (Does devices job) seen (traced out n (sections_by app (kept_lines l))) bd
lines_ready {shown = shown} {devices = devices} fresh job out n seen bd app l h =
    subst (λ (lists : List (List InsnLine)). IsReady shown (files_of devices job) (Does devices job) seen (traced out n (sections_by app lists)) bd) (sym (h.lines.lines h.wants)) h.ready

pub answers_traced : {X : Type 0} {H : X → Type 0} {shown : Shows X H} {devices : List DeviceData} (app script out : List ℕ) (a b c : FilesSeen) (w w' : SinkSeen) (n : ℕ) (secs : List Section) (bd : Board X H) (r : ℕ) → b.contents ≡ a.contents → b.put_faults ≡ a.put_faults
    → IsReady shown (files_of devices (lcov app script out n)) (Does devices (lcov app script out n)) a.contents (traced out n secs) bd → ((x : Scenario) → Stands shown x bd (start_of x) → Tells b c w w' (traced out n secs x) r) → AnswersJob devices (lcov app script out n) a c w w' r
answers_traced app script out a b c w w' n secs bd r same puts h tells =
    let x = h.scenario in
    inr (traced out n secs x, does h.contents h.accepted h.done, tells_earlier a b c w w' (traced out n secs x) r same puts (tells x h.stands), tt)
