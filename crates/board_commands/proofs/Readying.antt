-- From the files of a command to the board from which its run begins.
use Rattle.std.proofs.Common.{◌≡◌, ℕ, ◌≤◌, List, [], ◌∷◌, Option, None, refl, ap, subst, ◌∙◌}
use Rattle.kernel_abi.specs.Devices.{AreFresh, DeviceData}
use Rattle.image_format.specs.ImageData.{ImageData}
use Rattle.board_core.specs.Data.{Shows}
use Rattle.board_core.specs.declared.board.Board.{Board}
use Rattle.board_core.specs.Opened as opened
use Rattle.run_script.specs.Scripts.{ScriptData}
use Rattle.board_core.specs.Stands.{StandsForSome, turns_of}
use Rattle.command_line.specs.declared.job.Detail.{Detail}
use Rattle.command_files.specs.declared.file_faults.NamedFault.{NamedFault}
use Rattle.command_files.specs.Contents.{image_data_of, scenario_of, script_of}
use Rattle.board_commands.specs.Contents.{state_refusal}
use Rattle.outside_io.specs.Seen.{FilesSeen}
use Rattle.command_files.specs.Sources.{File, image_file, script_file, MayBe, scenario_in}
use Rattle.board_commands.specs.Sources.{state_file, state_by, state_files, image_and_script, app_and_script}
use Rattle.command_files.specs.FileFaults.{IsNamedFaultOf}
use Rattle.board_commands.specs.Ready.{StartsWell, StartsSeen, IsLoaded, IsStateSet, IsResumable}
use Rattle.command_files.specs.Ready.{TakesImage, TakesApp, IsImageFile, IsScriptFile, RunsImage, RunsApp, IsNamedFaultIn}
use Rattle.command_files.specs.Verdict.{built}
use Rattle.board_commands.specs.Verdict.{ran, saved, Runs, Saves, Goes}
use Rattle.command_files.proofs.Lists.{takes_none, takes_first}
use Rattle.command_files.proofs.Faulting.{faults_earlier}
use Rattle.command_files.proofs.Readying.{faults_first, faults_at, one_file, two_files}

pub resume_ready : {X : Type 0} {H : X → Type 0} {shown : Shows X H} {devices : List DeviceData} (seen : List ℕ → Option (List ℕ)) (image script state : List ℕ) (m : ℕ) (image_data : ImageData) (events : ScriptData) (b : Board X H) → IsImageFile seen image image_data
    → IsScriptFile seen script events → IsStateSet shown devices seen image_data events state m b → IsResumable shown devices image script state seen m b
resume_ready {X} {H} {shown} {devices} seen image script state m image_data events b i s t =
    let file = state_file devices (image_data_of i.bytes) m state in
    let accepted : state_refusal devices (image_data_of i.bytes) m t.bytes ≡ None = subst (λ (p : ImageData). state_refusal devices p m t.bytes ≡ None) i.is t.accepted in
    let of_image : IsLoaded shown (opened.scenario_of (image_data_of i.bytes) events devices) t.bytes b = subst (λ (p : ImageData). IsLoaded shown (opened.scenario_of p events devices) t.bytes b) i.is t.loaded in
    let loaded : IsLoaded shown (opened.scenario_of (image_data_of i.bytes) (script_of s.bytes) devices) t.bytes b = subst (λ (d : ScriptData). IsLoaded shown (opened.scenario_of (image_data_of i.bytes) d devices) t.bytes b) s.is of_image in
    record {
      contents = i.bytes ∷ s.bytes ∷ t.bytes ∷ [];
      accepted = record {
        takes = takes_first (MayBe seen) (image_file image) (script_file script ∷ file ∷ []) i.bytes (s.bytes ∷ t.bytes ∷ []) i.held i.accepted
            (takes_first (MayBe seen) (script_file script) (file ∷ []) s.bytes (t.bytes ∷ []) s.held s.accepted
            (takes_first (MayBe seen) file [] t.bytes [] t.held accepted (takes_none (MayBe seen) [])));
        all = refl;
      };
      start = loaded.start;
      stands = loaded.stands;
      each = loaded.each;
      turns = t.turns;
    }

-- the run of an image and a script that were read starts well: so does that of what is seen of them
pub starts_seen : {devices : List DeviceData} (seen : List ℕ → Option (List ℕ)) (image script : List ℕ) (image_data : ImageData) (events : ScriptData) → IsImageFile seen image image_data → IsScriptFile seen script events → StartsWell (opened.scenario_of image_data events devices) → StartsSeen devices seen image script
starts_seen {devices} seen image script image_data events i s well = λ ib sb has_image has_script.
    let of_picture : image_data ≡ image_data_of ib = i.is ∙ ap image_data_of (i.held ib has_image) in
    let of_events : events ≡ script_of sb = s.is ∙ ap script_of (s.held sb has_script) in
    subst (λ (d : ScriptData). StartsWell (opened.scenario_of (image_data_of ib) d devices)) of_events (subst (λ (p : ImageData). StartsWell (opened.scenario_of p events devices)) of_picture well)

pub resume_image_faults : {devices : List DeviceData} (fresh : AreFresh devices) (a c : FilesSeen) (image script state : List ℕ) (m : ℕ) (h : NamedFault) → IsNamedFaultOf a c (image_file image) h → IsNamedFaultIn (state_files devices image script state m) a c h
resume_image_faults {devices} fresh a c image script state m h fault = faults_first (image_file image) a c h refl fault

pub resume_script_faults : {devices : List DeviceData} (fresh : AreFresh devices) (a b c : FilesSeen) (image script state : List ℕ) (m : ℕ) (image_data : ImageData) (h : NamedFault) → IsImageFile a.contents image image_data → b.contents ≡ a.contents
    → a.read_faults ≤ b.read_faults → IsNamedFaultOf b c (script_file script) h → IsNamedFaultIn (state_files devices image script state m) a c h
resume_script_faults {devices} fresh a b c image script state m image_data h i seen later fault = faults_at (i.bytes ∷ []) (script_file script) a b c h (one_file a.contents image image_data (script_file script ∷ state_file devices (image_data_of i.bytes) m state ∷ []) i) refl seen later fault

pub resume_state_faults : {devices : List DeviceData} (fresh : AreFresh devices) (a b c : FilesSeen) (image script state : List ℕ) (m : ℕ) (image_data : ImageData) (events : ScriptData) (h : NamedFault) → IsImageFile a.contents image image_data → IsScriptFile a.contents script events
    → b.contents ≡ a.contents → a.read_faults ≤ b.read_faults → IsNamedFaultOf b c (state_file devices image_data m state) h → IsNamedFaultIn (state_files devices image script state m) a c h
resume_state_faults {devices} fresh a b c image script state m image_data events h i s seen later fault =
    let file : ℕ → ImageData → File = λ n p. state_file devices p n state in
    record {
      contents = i.bytes ∷ s.bytes ∷ [];
      at = record {
        takes = two_files a.contents image script image_data events (file m (image_data_of i.bytes) ∷ []) i s;
        file = file m (image_data_of i.bytes);
        next = refl;
        fault = faults_earlier a b c (file m (image_data_of i.bytes)) h seen later (subst (λ (p : ImageData). IsNamedFaultOf b c (file m p) h) i.is fault);
      };
    }

pub state_there : {X : Type 0} {H : X → Type 0} {shown : Shows X H} {devices : List DeviceData} {seen seen' : List ℕ → Option (List ℕ)} {image_data : ImageData} {script : ScriptData} {name : List ℕ} {bound : ℕ} {b : Board X H} → seen ≡ seen'
    → IsStateSet shown devices seen image_data script name bound b → IsStateSet shown devices seen' image_data script name bound b
state_there {X} {H} {shown} {devices} {seen} {seen'} {image_data} {script} {name} {bound} {b} same h = subst (λ (t : List ℕ → Option (List ℕ)). IsStateSet shown devices t image_data script name bound b) same h

pub resumable_stood : {X : Type 0} {H : X → Type 0} {shown : Shows X H} {devices : List DeviceData} (image script state : List ℕ) (seen : List ℕ → Option (List ℕ)) (m : ℕ) (bd : Board X H) → IsResumable shown devices image script state seen m bd → StandsForSome shown bd × (turns_of bd ≤ m)
resumable_stood {devices = devices} image script state seen m bd h = ((scenario_in devices h.contents, state_by devices h.contents, h.stands), h.turns)

-- ## what the commands take, and what they make of it

pub takes_both : (image script : List ℕ) → TakesImage (image_and_script image script) image script
takes_both image script = record { more = λ _. []; files = λ first. refl }

pub takes_built : (app script : List ℕ) → TakesApp (app_and_script app script) app script
takes_built app script = record { files = λ first. refl }

pub runs : (devices : List DeviceData) (image script : List ℕ) (n : ℕ) (detail : Detail) → RunsImage devices (image_and_script image script) (Runs n detail devices) image script (ran n detail)
runs devices image script n detail = record { files = λ first. refl; does = λ contents. refl }

pub saves : (devices : List DeviceData) (image script out : List ℕ) (n : ℕ) → RunsImage devices (image_and_script image script) (Saves out n devices) image script (saved out n)
saves devices image script out n = record { files = λ first. refl; does = λ contents. refl }

pub goes : (devices : List DeviceData) (app script : List ℕ) (n : ℕ) (detail : Detail) → RunsApp devices (app_and_script app script) (Goes n detail devices) app script (λ _ _. ran n detail)
goes devices app script n detail = record { files = λ first. refl; does = λ contents image built. (image, built, refl) }
