-- From the files of a command to its board, or to the file that is not accepted.
use Rattle.std.proofs.Common.{◌≡◌, ℕ, suc, ◌≤◌, Bool, List, [], ◌∷◌, ◌++◌, length, take, get_or, Option, Some, refl, sym, ap, subst, ◌∙◌, arith}
use Rattle.std.specs.Prelude.{slice_get}
use Rattle.kernel_abi.specs.Devices.{DeviceData}
use Rattle.image_format.specs.ImageData.{ImageData}
use Rattle.image_build.specs.Built.{Built}
use Rattle.board_core.specs.Data.{Shows}
use Rattle.board_core.specs.declared.board.Board.{Board}
use Rattle.board_model.specs.Script.{Scenario, start_of}
use Rattle.board_core.specs.Opened as opened
use Rattle.run_script.specs.Scripts.{ScriptData}
use Rattle.board_core.specs.Stands.{Stands, StandsForSome, turns_of}
use Rattle.command_line.specs.CommandLine.{run}
use Rattle.command_files.specs.declared.file_faults.NamedFault.{NamedFault}
use Rattle.command_files.specs.Contents.{scenario_of, application_of}
use Rattle.outside_io.specs.Seen.{FilesSeen}
use Rattle.command_files.specs.Sources.{File, image_file, script_file, files_to_build, first_of, MayBe, Takes, TakesAll, IsBuilt, sources_in, script_in}
use Rattle.command_files.specs.FileFaults.{IsNamedFaultOf}
use Rattle.app_toml.specs.Apps.{AppData}
use Rattle.command_files.specs.declared.source_lines.SourceLines.{SourceLines}
use Rattle.command_files.specs.Building.{IsBuiltApp, IsNamedFaultInApp}
use Rattle.command_files.specs.Ready.{IsImageFile, IsScriptFile, IsSet, TakesImage, RunsImage, TakesApp, RunsApp, IsReady, IsAppReady, IsNamedFaultIn, IsRunSet, IsAppSet, IsGoSet}
use Rattle.command_files.specs.Verdict.{Verdict, built}
use Rattle.command_files.proofs.Lists.{at_end, longer, takes_none, takes_first, takes_wider, takes_last, get_more, get_last}
use Rattle.command_files.proofs.Faulting.{faults_earlier}
use Rattle.command_files.proofs.Taking.{as_many_sources}
use Rattle.std.proofs.lemmas.List.{take_all}

-- a command that runs an image takes it and a script, and no more
pub takes_of : {devices : List DeviceData} {files_of : List ℕ → List File} {Does : List (List ℕ) → Verdict → Type 0} {image script : List ℕ} {verdict : Scenario → Verdict} → RunsImage devices files_of Does image script verdict → TakesImage files_of image script
takes_of runs = record { more = λ _. []; files = runs.files }

-- what is set up by the same contents elsewhere
pub set_there : {X : Type 0} {H : X → Type 0} {shown : Shows X H} {devices : List DeviceData} {seen seen' : List ℕ → Option (List ℕ)} {image_data : ImageData} {script : List ℕ} {b : Board X H} → seen ≡ seen' → IsSet shown devices seen image_data script b → IsSet shown devices seen' image_data script b
set_there {X} {H} {shown} {devices} {seen} {seen'} {image_data} {script} {b} same h = subst (λ (t : List ℕ → Option (List ℕ)). IsSet shown devices t image_data script b) same h

-- ## a file that is not accepted

-- the first of a command
pub faults_first : {files_of : List ℕ → List File} (f : File) (a c : FilesSeen) (h : NamedFault) → slice_get (files_of []) 0 ≡ Some f → IsNamedFaultOf a c f h → IsNamedFaultIn files_of a c h
faults_first {files_of} f a c h next fault = record {
  contents = [];
  at = record { takes = takes_none (MayBe a.contents) (files_of []); file = f; next = next; fault = fault };
}

-- one behind others that are accepted
pub faults_at : {files_of : List ℕ → List File} (contents : List (List ℕ)) (f : File) (a b c : FilesSeen) (h : NamedFault) → Takes (MayBe a.contents) (files_of (first_of contents)) contents
    → slice_get (files_of (first_of contents)) (length contents) ≡ Some f → b.contents ≡ a.contents → a.read_faults ≤ b.read_faults → IsNamedFaultOf b c f h → IsNamedFaultIn files_of a c h
faults_at contents f a b c h takes next seen later fault = record {
  contents = contents;
  at = record { takes = takes; file = f; next = next; fault = faults_earlier a b c f h seen later fault };
}

-- ## an image and a script

pub one_file : (seen : List ℕ → Option (List ℕ)) (name : List ℕ) (image : ImageData) (more : List File) (h : IsImageFile seen name image) → Takes (MayBe seen) (image_file name ∷ more) (h.bytes ∷ [])
one_file seen name image more h = takes_first (MayBe seen) (image_file name) more h.bytes [] h.held h.accepted (takes_none (MayBe seen) more)

pub image_ready : {X : Type 0} {H : X → Type 0} {shown : Shows X H} {devices : List DeviceData} {files_of : List ℕ → List File} {Does : List (List ℕ) → Verdict → Type 0} (seen : List ℕ → Option (List ℕ)) (verdict : Scenario → Verdict) (image script : List ℕ) (image_data : ImageData) (b : Board X H) → RunsImage devices files_of Does image script verdict
    → IsImageFile seen image image_data → IsSet shown devices seen image_data script b → IsReady shown files_of Does seen verdict b
image_ready {X} {H} {shown} {devices} {files_of} {Does} seen verdict image script image_data b runs i s =
    let contents = i.bytes ∷ s.script ∷ [] in
    let takes : Takes (MayBe seen) (image_file image ∷ script_file script ∷ []) contents =
    takes_first (MayBe seen) (image_file image) (script_file script ∷ []) i.bytes (s.script ∷ []) i.held i.accepted
    (takes_first (MayBe seen) (script_file script) [] s.script [] s.held s.accepted (takes_none (MayBe seen) [])) in
    record {
      contents = contents;
      accepted = record {
        takes = subst (λ (fs : List File). Takes (MayBe seen) fs contents) (sym (runs.files i.bytes)) takes;
        all = ap length (runs.files i.bytes);
      };
      scenario = scenario_of image_data s.script devices;
      done = subst (λ (p : ImageData). Does contents (verdict (scenario_of p s.script devices))) (sym i.is) (runs.does contents);
      stands = s.stands;
      turns = s.turns;
    }

-- the same of a board that was set up
pub run_ready : {X : Type 0} {H : X → Type 0} {shown : Shows X H} {devices : List DeviceData} {files_of : List ℕ → List File} {Does : List (List ℕ) → Verdict → Type 0} {seen : List ℕ → Option (List ℕ)} {image script : List ℕ} {verdict : Scenario → Verdict} {b : Board X H} → RunsImage devices files_of Does image script verdict
    → IsRunSet shown devices image script seen b → IsReady shown files_of Does seen verdict b
run_ready {seen = seen} {image = image} {script = script} {verdict = verdict} {b = b} runs h = image_ready seen verdict image script h.image_data b runs h.of_image h.set

pub image_faults : {files_of : List ℕ → List File} (a c : FilesSeen) (image script : List ℕ) (h : NamedFault) → TakesImage files_of image script → IsNamedFaultOf a c (image_file image) h → IsNamedFaultIn files_of a c h
image_faults a c image script h takes fault = faults_first (image_file image) a c h (ap (λ (fs : List File). slice_get fs 0) (takes.files [])) fault

pub script_faults : {files_of : List ℕ → List File} (a b c : FilesSeen) (image script : List ℕ) (image_data : ImageData) (h : NamedFault) → TakesImage files_of image script → IsImageFile a.contents image image_data → b.contents ≡ a.contents
    → a.read_faults ≤ b.read_faults → IsNamedFaultOf b c (script_file script) h → IsNamedFaultIn files_of a c h
script_faults a b c image script image_data h takes i seen later fault =
    faults_at (i.bytes ∷ []) (script_file script) a b c h
    (subst (λ (fs : List File). Takes (MayBe a.contents) fs (i.bytes ∷ [])) (sym (takes.files i.bytes)) (one_file a.contents image image_data (script_file script ∷ takes.more i.bytes) i))
    (ap (λ (fs : List File). slice_get fs 1) (takes.files i.bytes)) seen later fault

pub set_by_script : {X : Type 0} {H : X → Type 0} {shown : Shows X H} {devices : List DeviceData} (seen : List ℕ → Option (List ℕ)) (image : ImageData) (name : List ℕ) (script : ScriptData) (b : Board X H) → IsScriptFile seen name script
    → Stands shown (opened.scenario_of image script devices) b (start_of (opened.scenario_of image script devices)) → turns_of b ≡ 0 → IsSet shown devices seen image name b
set_by_script {X} {H} {shown} {devices} seen image name script b i stands turns = record {
  script = i.bytes;
  held = i.held;
  accepted = i.accepted;
  stands = subst (λ (d : ScriptData). Stands shown (opened.scenario_of image d devices) b (start_of (opened.scenario_of image d devices))) i.is stands;
  turns = turns;
}

-- both files
pub two_files : (seen : List ℕ → Option (List ℕ)) (image script : List ℕ) (image_data : ImageData) (events : ScriptData) (more : List File) (i : IsImageFile seen image image_data) (s : IsScriptFile seen script events)
    → Takes (MayBe seen) (image_file image ∷ script_file script ∷ more) (i.bytes ∷ s.bytes ∷ [])
two_files seen image script image_data events more i s =
    takes_first (MayBe seen) (image_file image) (script_file script ∷ more) i.bytes (s.bytes ∷ []) i.held i.accepted
    (takes_first (MayBe seen) (script_file script) more s.bytes [] s.held s.accepted (takes_none (MayBe seen) more))

-- a file of the same contents elsewhere
pub script_there : {seen seen' : List ℕ → Option (List ℕ)} {name : List ℕ} {script : ScriptData} → seen ≡ seen' → IsScriptFile seen name script → IsScriptFile seen' name script
script_there {seen} {seen'} {name} {script} same h = subst (λ (t : List ℕ → Option (List ℕ)). IsScriptFile t name script) same h

-- a board that is set stands for the start of its run
pub set_stood : {X : Type 0} {H : X → Type 0} {shown : Shows X H} {devices : List DeviceData} (image script : List ℕ) (seen : List ℕ → Option (List ℕ)) (bd : Board X H) → IsRunSet shown devices image script seen bd → StandsForSome shown bd
set_stood {devices = devices} image script seen bd h = let x = scenario_of h.image_data h.set.script devices in (x, start_of x, h.set.stands)

pub app_stood : {X : Type 0} {H : X → Type 0} {shown : Shows X H} {devices : List DeviceData} (app script : List ℕ) (seen : List ℕ → Option (List ℕ)) (bd : Board X H) (wanted : Bool) (described : AppData) (l : SourceLines)
    → IsAppSet shown devices app script seen wanted bd described l → StandsForSome shown bd
app_stood {devices = devices} app script seen bd wanted described l h = let x = scenario_of h.image h.set.script devices in (x, start_of x, h.set.stands)

pub ready_stood : {X : Type 0} {H : X → Type 0} {shown : Shows X H} {files_of : List ℕ → List File} {Does : List (List ℕ) → Verdict → Type 0} {seen : List ℕ → Option (List ℕ)} {verdict : Scenario → Verdict} (bd : Board X H) → IsReady shown files_of Does seen verdict bd → StandsForSome shown bd × (turns_of bd ≡ 0)
ready_stood bd h = ((h.scenario, start_of h.scenario, h.stands), h.turns)

-- ## an application and a script

take_front : {A : Type 0} (xs ys : List A) → take (length xs) (xs ++ ys) ≡ take (length xs) xs
take_front [] ys = refl
take_front (x ∷ xs) ys = ap (λ zs. x ∷ zs) (take_front xs ys)

pub files_then : {A : Type 0} (files : List A) (f : A) (n : ℕ) → length files ≡ n → slice_get (files ++ f ∷ []) n ≡ Some f
files_then files f n e = ap (λ k. slice_get (files ++ f ∷ []) k) (sym e) ∙ get_last files f

-- the sources and the script, apart
pub go_image : (bytes : List ℕ) (sources : List (List ℕ)) (script : List ℕ) (image_data : ImageData) → length (application_of bytes).tasks ≡ length sources
    → IsBuilt (bytes ∷ sources) image_data → IsBuilt (bytes ∷ (sources ++ script ∷ [])) image_data
go_image bytes sources script image_data count h =
    let fewer : take (length (application_of bytes).tasks) sources ≡ take (length (application_of bytes).tasks) (sources ++ script ∷ []) =
    ap (λ n. take n sources) count ∙ sym (take_front sources (script ∷ [])) ∙ ap (λ n. take n (sources ++ script ∷ [])) (sym count) in
    record { built = subst (λ (ss : List (List ℕ)). Built (application_of bytes) ss image_data) fewer h.built; sound = h.sound }

pub go_script : (bytes : List ℕ) (sources : List (List ℕ)) (script : List ℕ) → length (application_of bytes).tasks ≡ length sources → script_in (bytes ∷ (sources ++ script ∷ [])) ≡ script
go_script bytes sources script count = ap (λ n. get_or (sources ++ script ∷ []) n []) count ∙ at_end sources script []

-- the sources alone
app_sources : (bytes : List ℕ) (sources : List (List ℕ)) (script : List ℕ) → length (application_of bytes).tasks ≡ length sources → sources_in (bytes ∷ (sources ++ script ∷ [])) ≡ sources
app_sources bytes sources script count =
    let n = length (application_of bytes).tasks in
    ap (λ k. take k (sources ++ script ∷ [])) count ∙ take_front sources (script ∷ []) ∙ take_all (length sources) sources (omega arith)

-- a command that runs an application takes it and a script, and no more
pub takes_app_of : {devices : List DeviceData} {files_of : List ℕ → List File} {Does : List (List ℕ) → Verdict → Type 0} {app script : List ℕ} {verdict : AppData → List (List ℕ) → Scenario → Verdict} → RunsApp devices files_of Does app script verdict → TakesApp files_of app script
takes_app_of runs = record { files = runs.files }

-- the contents of its files, of which each is accepted, and what they say
pub record AreTaken (files_of : List ℕ → List File) (seen : List ℕ → Option (List ℕ)) (sources : List (List ℕ)) (script : List ℕ) (image_data : ImageData) (contents : List (List ℕ)) : Type 0 where
  pub accepted : TakesAll (MayBe seen) files_of contents
  pub built : IsBuilt contents image_data
  pub sources_are : sources_in contents ≡ sources
  pub script_is : script_in contents ≡ script

pub app_taken : {X : Type 0} {H : X → Type 0} {shown : Shows X H} {devices : List DeviceData} {seen : List ℕ → Option (List ℕ)} {app script : List ℕ} {wanted : Bool} {described : AppData} {l : SourceLines} {files_of : List ℕ → List File} (image_data : ImageData) (b : Board X H)
    → TakesApp files_of app script → (i : IsBuiltApp seen app wanted described image_data l) → (s : IsSet shown devices seen image_data script b) → AreTaken files_of seen i.sources s.script image_data (i.bytes ∷ (i.sources ++ s.script ∷ []))
app_taken {devices = devices} {seen = seen} {app = app} {script = script} image_data b takes_app i s =
    let files = files_to_build app i.bytes in
    let contents = i.bytes ∷ (i.sources ++ s.script ∷ []) in
    let count : length (application_of i.bytes).tasks ≡ length i.sources = (let all = i.each.all in let many = as_many_sources (application_of i.bytes) in omega arith) in
    let takes : Takes (MayBe seen) (files ++ script_file script ∷ []) contents =
    takes_last (MayBe seen) (files ++ script_file script ∷ []) (i.bytes ∷ i.sources) (script_file script) s.script
    (takes_wider (MayBe seen) files (script_file script ∷ []) (i.bytes ∷ i.sources) i.each.takes)
    (files_then files (script_file script) (length (i.bytes ∷ i.sources)) i.each.all) s.held s.accepted in
    record {
      accepted = record {
        takes = subst (λ (fs : List File). Takes (MayBe seen) fs contents) (sym (takes_app.files i.bytes)) takes;
        all = ap length (takes_app.files i.bytes) ∙ longer files (script_file script) ∙ ap suc i.each.all ∙ sym (longer (i.bytes ∷ i.sources) s.script);
      };
      built = go_image i.bytes i.sources s.script image_data count i.is;
      sources_are = app_sources i.bytes i.sources s.script count;
      script_is = go_script i.bytes i.sources s.script count;
    }

pub app_ready : {X : Type 0} {H : X → Type 0} {shown : Shows X H} {devices : List DeviceData} {seen : List ℕ → Option (List ℕ)} {app script : List ℕ} {wanted : Bool} {described : AppData} {l : SourceLines} {files_of : List ℕ → List File} {Does : List (List ℕ) → Verdict → Type 0} (verdict : AppData → List (List ℕ) → Scenario → Verdict) (image_data : ImageData) (b : Board X H)
    → RunsApp devices files_of Does app script verdict → IsBuiltApp seen app wanted described image_data l → IsSet shown devices seen image_data script b → IsAppReady shown files_of Does seen verdict wanted b described l
app_ready {X} {H} {shown} {devices} {seen} {app} {script} {wanted} {described} {l} {files_of} {Does} verdict image_data b runs i s =
    let contents = i.bytes ∷ (i.sources ++ s.script ∷ []) in
    let taken = app_taken image_data b (takes_app_of runs) i s in
    let does = runs.does contents image_data taken.built in
    let by_sources = subst (λ (ss : List (List ℕ)). Does contents (verdict (application_of i.bytes) ss (scenario_of image_data (script_in contents) devices))) taken.sources_are does in
    let by_script = subst (λ (t : List ℕ). Does contents (verdict (application_of i.bytes) i.sources (scenario_of image_data t devices))) taken.script_is by_sources in
    record {
      sources = i.sources;
      ready = record {
        contents = contents;
        accepted = taken.accepted;
        scenario = scenario_of image_data s.script devices;
        done = subst (λ (a : AppData). Does contents (verdict a i.sources (scenario_of image_data s.script devices))) i.described by_script;
        stands = s.stands;
        turns = s.turns;
      };
      wants = i.wants;
      lines = i.lines;
    }

-- the same of a board that was set up
pub app_set_ready : {X : Type 0} {H : X → Type 0} {shown : Shows X H} {devices : List DeviceData} {seen : List ℕ → Option (List ℕ)} {app script : List ℕ} {wanted : Bool} {described : AppData} {l : SourceLines} {files_of : List ℕ → List File} {Does : List (List ℕ) → Verdict → Type 0} {verdict : AppData → List (List ℕ) → Scenario → Verdict} {b : Board X H}
    → RunsApp devices files_of Does app script verdict → IsAppSet shown devices app script seen wanted b described l → IsAppReady shown files_of Does seen verdict wanted b described l
app_set_ready {verdict = verdict} {b = b} runs h = app_ready verdict h.image b runs h.built h.set

-- where the verdict is on the run alone
pub go_ready : {X : Type 0} {H : X → Type 0} {shown : Shows X H} {devices : List DeviceData} {seen : List ℕ → Option (List ℕ)} {app script : List ℕ} {files_of : List ℕ → List File} {Does : List (List ℕ) → Verdict → Type 0} {verdict : Scenario → Verdict} {b : Board X H}
    → RunsApp devices files_of Does app script (λ _ _. verdict) → IsGoSet shown devices app script seen b → IsReady shown files_of Does seen verdict b
go_ready runs h = (app_set_ready runs h.of_app).ready

pub app_faults : {files_of : List ℕ → List File} {app script : List ℕ} (a c : FilesSeen) (h : NamedFault) → TakesApp files_of app script → IsNamedFaultInApp a c app h → IsNamedFaultIn files_of a c h
app_faults {app = app} {script = script} a c h runs i =
    let files = files_to_build app (first_of i.contents) in
    let same = runs.files (first_of i.contents) in
    record {
      contents = i.contents;
      at = record {
        takes = subst (λ (fs : List File). Takes (MayBe a.contents) fs i.contents) (sym same) (takes_wider (MayBe a.contents) files (script_file script ∷ []) i.contents i.at.takes);
        file = i.at.file;
        next = ap (λ (fs : List File). slice_get fs (length i.contents)) same ∙ get_more files (script_file script ∷ []) (length i.contents) i.at.file i.at.next;
        fault = i.at.fault;
      };
    }

pub app_script_faults : {files_of : List ℕ → List File} {app script : List ℕ} {wanted : Bool} {described : AppData} {l : SourceLines} (a b c : FilesSeen) (image_data : ImageData) (h : NamedFault) → TakesApp files_of app script
    → IsBuiltApp a.contents app wanted described image_data l → b.contents ≡ a.contents → a.read_faults ≤ b.read_faults → IsNamedFaultOf b c (script_file script) h → IsNamedFaultIn files_of a c h
app_script_faults {app = app} {script = script} a b c image_data h runs i seen later fault =
    let files = files_to_build app i.bytes in
    let same = runs.files i.bytes in
    record {
      contents = i.bytes ∷ i.sources;
      at = record {
        takes = subst (λ (fs : List File). Takes (MayBe a.contents) fs (i.bytes ∷ i.sources)) (sym same) (takes_wider (MayBe a.contents) files (script_file script ∷ []) (i.bytes ∷ i.sources) i.each.takes);
        file = script_file script;
        next = ap (λ (fs : List File). slice_get fs (length (i.bytes ∷ i.sources))) same ∙ files_then files (script_file script) (length (i.bytes ∷ i.sources)) i.each.all;
        fault = faults_earlier a b c (script_file script) h seen later fault;
      };
    }
