-- The run of an image and a script, and the names of its tasks.
use Rattle.std.proofs.Common.{◌≡◌, ◌∙◌, ℕ, suc, ◌≤◌, List, [], ◌∷◌, length, Option, Some, None, refl, sym, ap, subst}
use Rattle.std.specs.Prelude.{slice_get}
use Rattle.std.proofs.lemmas.List.{length-map}
use Rattle.kernel_abi.specs.Devices.{DeviceData}
use Rattle.image_format.specs.ImageData.{ImageData}
use Rattle.board_core.specs.Data.{Shows}
use Rattle.board_core.specs.declared.board.Board.{Board}
use Rattle.board_core.specs.Opened.{setup_of_task}
use Rattle.board_core.specs.Stands.{Stands}
use Rattle.board_model.specs.Script.{Scenario, start_of}
use Rattle.task_table.specs.model.State.{State}
use Rattle.outside_io.specs.Seen.{FilesSeen}
use Rattle.command_files.specs.declared.file_faults.NamedFault.{NamedFault}
use Rattle.command_files.specs.Contents.{scenario_of}
use Rattle.command_files.specs.Sources.{File, MayBe, Takes, image_file, image_tasks, names_file, names_files, script_file}
use Rattle.command_files.specs.FileFaults.{IsNamedFaultOf}
use Rattle.command_files.specs.Ready.{AreNames, IsNamedFaultIn, IsNamesFault, IsNamedSet, IsReady, IsRunSet, RunsNamed, TakesImage, TakesNamed}
use Rattle.command_files.specs.Verdict.{Verdict, names_by, task_names}
use Rattle.command_files.proofs.Lists.{takes_first, takes_none}
use Rattle.command_files.proofs.Faulting.{faults_earlier}

-- a command that runs an image with named tasks takes it, a script and the names
pub takes_named : {devices : List DeviceData} {files_of : List ℕ → List File} {Does : List (List ℕ) → Verdict → Type 0} {image script : List ℕ} {names : Option (List ℕ)} {verdict : List (List ℕ) → Scenario → Verdict} → RunsNamed devices files_of Does image script names verdict
    → TakesNamed files_of image script names
takes_named runs = record { files = runs.files }

pub takes_two : {files_of : List ℕ → List File} {image script : List ℕ} {names : Option (List ℕ)} → TakesNamed files_of image script names → TakesImage files_of image script
takes_two {names = names} takes = record { more = λ first. names_files (image_tasks first) names; files = takes.files }

-- a board that was set up has as many tasks as its image
pub as_many : {X : Type 0} {H : X → Type 0} {shown : Shows X H} {devices : List DeviceData} {image script : List ℕ} {seen : List ℕ → Option (List ℕ)} {b : Board X H} {tasks : ℕ} (h : IsRunSet shown devices image script seen b)
    → ((x : Scenario) (s : State) → Stands shown x b s → tasks ≡ length s.tasks) → tasks ≡ image_tasks h.of_image.bytes
as_many {devices = devices} h many =
    let x = scenario_of h.image_data h.set.script devices in
    many x (start_of x) h.set.stands ∙ h.set.stands.sane.steady.as_many ∙ length-map h.image_data.tasks setup_of_task ∙ ap (λ (p : ImageData). length p.tasks) h.of_image.is

-- where the names are read, the files of the command are accepted
two_taken : {X : Type 0} {H : X → Type 0} {shown : Shows X H} {devices : List DeviceData} {image script : List ℕ} {seen : List ℕ → Option (List ℕ)} {b : Board X H} (h : IsRunSet shown devices image script seen b) (more : List File) (cs : List (List ℕ)) → Takes (MayBe seen) more cs
    → Takes (MayBe seen) (image_file image ∷ script_file script ∷ more) (h.of_image.bytes ∷ h.set.script ∷ cs)
two_taken {image = image} {script = script} {seen = seen} h more cs rest =
    takes_first (MayBe seen) (image_file image) (script_file script ∷ more) h.of_image.bytes (h.set.script ∷ cs) h.of_image.held h.of_image.accepted
    (takes_first (MayBe seen) (script_file script) more h.set.script cs h.set.held h.set.accepted rest)

ready_by : {X : Type 0} {H : X → Type 0} {shown : Shows X H} {devices : List DeviceData} {image script : List ℕ} {seen : List ℕ → Option (List ℕ)} {b : Board X H} {files_of : List ℕ → List File} {Does : List (List ℕ) → Verdict → Type 0} (named : Option (List ℕ)) (verdict : List (List ℕ) → Scenario → Verdict) (names : List (List ℕ)) (h : IsRunSet shown devices image script seen b) (cs : List (List ℕ))
    → RunsNamed devices files_of Does image script named verdict → Takes (MayBe seen) (names_files (image_tasks h.of_image.bytes) named) cs → length (names_files (image_tasks h.of_image.bytes) named) ≡ length cs
    → names_by named (h.of_image.bytes ∷ h.set.script ∷ cs) ≡ names → IsReady shown files_of Does seen (verdict names) b
ready_by {shown = shown} {devices = devices} {image = image} {script = script} {seen = seen} {b = b} {files_of = files_of} {Does = Does} named verdict names h cs runs rest all is =
    let contents = h.of_image.bytes ∷ h.set.script ∷ cs in
    let files = names_files (image_tasks h.of_image.bytes) named in
    record {
      contents = contents;
      accepted = record {
        takes = subst (λ (fs : List File). Takes (MayBe seen) fs contents) (sym (runs.files h.of_image.bytes)) (two_taken h files cs rest);
        all = ap length (runs.files h.of_image.bytes) ∙ ap (λ n. suc (suc n)) all;
      };
      scenario = scenario_of h.image_data h.set.script devices;
      done = subst (λ (ns : List (List ℕ)). Does contents (verdict ns (scenario_of h.image_data h.set.script devices))) is
          (subst (λ (p : ImageData). Does contents (verdict (names_by named contents) (scenario_of p h.set.script devices))) (sym h.of_image.is) (runs.does contents));
      stands = h.set.stands;
      turns = h.set.turns;
    }

pub named_ready : {X : Type 0} {H : X → Type 0} {shown : Shows X H} {devices : List DeviceData} {image script : List ℕ} {named : Option (List ℕ)} {seen : List ℕ → Option (List ℕ)} {files_of : List ℕ → List File} {Does : List (List ℕ) → Verdict → Type 0} {verdict : List (List ℕ) → Scenario → Verdict} {b : Board X H} {names : List (List ℕ)}
    → RunsNamed devices files_of Does image script named verdict → IsNamedSet shown devices image script named seen b names → IsReady shown files_of Does seen (verdict names) b
named_ready {named = None} {seen = seen} {verdict = verdict} {names = names} runs h = ready_by None verdict names h.set [] runs (takes_none (MayBe seen) []) refl (sym h.are)
named_ready {named = Some name} {seen = seen} {verdict = verdict} {names = names} runs h =
    let are = h.are in
    ready_by (Some name) verdict names h.set (are.bytes ∷ []) runs
    (takes_first (MayBe seen) (names_file (image_tasks h.set.of_image.bytes) name) [] are.bytes [] are.held are.accepted (takes_none (MayBe seen) [])) refl (sym are.is)

-- names that are read after the board was set up
pub named_set : {X : Type 0} {H : X → Type 0} {shown : Shows X H} {devices : List DeviceData} {image script : List ℕ} {named : Option (List ℕ)} {seen seen' : List ℕ → Option (List ℕ)} {b : Board X H} {tasks : ℕ} {names : List (List ℕ)}
    → (h : IsRunSet shown devices image script seen b) → tasks ≡ image_tasks h.of_image.bytes → seen' ≡ seen → AreNames seen' tasks named names → IsNamedSet shown devices image script named seen b names
named_set {named = named} {seen' = seen'} {names = names} h many same are = record {
  set = h;
  are = subst (λ (t : List ℕ → Option (List ℕ)). AreNames t (image_tasks h.of_image.bytes) named names) same (subst (λ (n : ℕ). AreNames seen' n named names) many are);
}

pub named_faults : {X : Type 0} {H : X → Type 0} {shown : Shows X H} {devices : List DeviceData} {image script : List ℕ} {named : Option (List ℕ)} {files_of : List ℕ → List File} (a b c : FilesSeen) (bd : Board X H) (tasks : ℕ) (f : NamedFault) → TakesNamed files_of image script named
    → (h : IsRunSet shown devices image script a.contents bd) → tasks ≡ image_tasks h.of_image.bytes → b.contents ≡ a.contents → a.read_faults ≤ b.read_faults → IsNamesFault b c tasks named f → IsNamedFaultIn files_of a c f
named_faults {image = image} {named = None} a b c bd tasks f takes h many same later is =
    record {
      contents = [];
      at = record {
        takes = takes_none (MayBe a.contents) _;
        file = image_file image;
        next = ap (λ (fs : List File). slice_get fs 0) (takes.files []);
        fault = subst (λ (g : NamedFault). IsNamedFaultOf a c (image_file image) g) (sym is) tt;
      };
    }
named_faults {named = Some name} a b c bd tasks f takes h many same later is =
    let file = names_file (image_tasks h.of_image.bytes) name in
    let fault = subst (λ (n : ℕ). IsNamedFaultOf b c (names_file n name) f) many is in
    record {
      contents = h.of_image.bytes ∷ h.set.script ∷ [];
      at = record {
        takes = subst (λ (fs : List File). Takes (MayBe a.contents) fs (h.of_image.bytes ∷ h.set.script ∷ [])) (sym (takes.files h.of_image.bytes)) (two_taken h (file ∷ []) [] (takes_none (MayBe a.contents) (file ∷ [])));
        file = file;
        next = ap (λ (fs : List File). slice_get fs 2) (takes.files h.of_image.bytes);
        fault = faults_earlier a b c file f same later fault;
      };
    }
