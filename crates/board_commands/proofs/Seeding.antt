-- From the sample of a seed to the answer.
use Rattle.std.proofs.Common.{◌≡◌, ◌∙◌, ℕ, List, [], length, refl, sym, ap, subst, map}
use Rattle.std.proofs.lemmas.List.FromFn.{length-map-range_with_len}
use Rattle.kernel_abi.specs.Devices.{DeviceData}
use Rattle.app_toml.specs.Apps.{AppData}
use Rattle.image_format.specs.ImageData.{ImageData}
use Rattle.image_build.specs.Built.{Built}
use Rattle.image_build.specs.Building.{Refuses}
use Rattle.image_build.specs.declared.fault.BuildFault.{BuildFault}
use Rattle.image_build.specs.declared.fault.BuildFault.TheVariants as fault
use Rattle.run_script.specs.Scripts.{ScriptData}
use Rattle.sample_gen.specs.Sample.{source_of, client_priority, sample_app, sample_sources, sample_script}
use Rattle.board_core.specs.Data.{Shows}
use Rattle.board_core.specs.declared.board.Board.{Board}
use Rattle.board_core.specs.Opened as opened
use Rattle.board_core.specs.Stands.{Stands, StandsForSome, turns_of}
use Rattle.board_model.specs.Script.{Scenario, start_of}
use Rattle.board_commands.specs.Contents.{sample_scenario}
use Rattle.outside_io.specs.Seen.{FilesSeen, SinkSeen}
use Rattle.command_files.specs.Sources.{MayBe, no_files}
use Rattle.board_commands.specs.Ready.{IsSampleReady}
use Rattle.command_files.specs.Pushed.{Pushed}
use Rattle.board_commands.specs.Verdict.{sampled, Samples}
use Rattle.command_files.proofs.Lists.{takes_none}
use Rattle.build_laws.proofs.Build.{count}
use Rattle.command_files.specs.Answer.{Reason, does, AnswersBy}
use Rattle.command_files.proofs.Answering.{pushed_by}

-- ## what is made of a seed

source_count : (seed : ℕ) → length (sample_sources seed) ≡ 32
source_count seed = length-map-range_with_len (source_of seed) 0 32

-- a source for each task
pub a_source_each : (seed : ℕ) (app : AppData) (sources : List (List ℕ)) → app ≡ sample_app seed → sources ≡ sample_sources seed → length sources ≡ length app.tasks
a_source_each seed app sources is are =
    ap (λ (ss : List (List ℕ)). length ss) are ∙ source_count seed ∙ sym (count (client_priority seed)) ∙ sym (ap (λ (a : AppData). length a.tasks) is)

pub refused_as_sample : (seed : ℕ) (app : AppData) (sources : List (List ℕ)) (f : BuildFault) → app ≡ sample_app seed → sources ≡ sample_sources seed
    → ((s : ℕ) (g : BuildFault) → Refuses (sample_app s) (sample_sources s) g → g ≡ fault.Memory) → Refuses app sources f → f ≡ fault.Memory
refused_as_sample seed app sources f is are law h =
    law seed f (subst (λ (ss : List (List ℕ)). Refuses (sample_app seed) ss f) are (subst (λ (a : AppData). Refuses a sources f) is h))

pub sample_ready : {X : Type 0} {H : X → Type 0} {shown : Shows X H} (seed : ℕ) (app : AppData) (sources : List (List ℕ)) (script : ScriptData) (devices : List DeviceData) (image : ImageData) (b : Board X H) → devices ≡ [] → app ≡ sample_app seed → sources ≡ sample_sources seed
    → script ≡ sample_script seed → Built app sources image → Stands shown (opened.scenario_of image script devices) b (start_of (opened.scenario_of image script devices)) → turns_of b ≡ 0 → IsSampleReady shown seed b
sample_ready {X} {H} {shown} seed app sources script devices image b none is are seen built stands turns = record {
  image = image;
  built = subst (λ (ss : List (List ℕ)). Built (sample_app seed) ss image) are (subst (λ (a : AppData). Built a sources image) is built);
  stands = subst (λ (ds : List DeviceData). Stands shown (opened.scenario_of image (sample_script seed) ds) b (start_of (opened.scenario_of image (sample_script seed) ds))) none
      (subst (λ (s : ScriptData). Stands shown (opened.scenario_of image s devices) b (start_of (opened.scenario_of image s devices))) seen stands);
  turns = turns;
}

pub sample_stood : {X : Type 0} {H : X → Type 0} {shown : Shows X H} (seed : ℕ) (b : Board X H) → IsSampleReady shown seed b → StandsForSome shown b × (turns_of b ≡ 0)
sample_stood seed b h = ((sample_scenario seed h.image, start_of (sample_scenario seed h.image), h.stands), h.turns)

-- ## the answer

sample_reason : {X : Type 0} {H : X → Type 0} {shown : Shows X H} (a b : FilesSeen) (seed n : ℕ) (bd : Board X H) (r : IsSampleReady shown seed bd) → Reason no_files (Samples seed n) a b (sampled n (sample_scenario seed r.image))
sample_reason a b seed n bd r = does [] (record { takes = takes_none (MayBe a.contents) []; all = refl }) (r.image, r.built, refl)

pub answers_sample : {X : Type 0} {H : X → Type 0} {shown : Shows X H} (seed n : ℕ) (a b : FilesSeen) (w w' : SinkSeen) (bd : Board X H) (r : ℕ) → b.contents ≡ a.contents → IsSampleReady shown seed bd
    → ((x : Scenario) → Stands shown x bd (start_of x) → Pushed w w' (sampled n x) r) → AnswersBy no_files (Samples seed n) a b w w' r
answers_sample seed n a b w w' bd r same ready tells =
    let x = sample_scenario seed ready.image in
    pushed_by a b w w' (sampled n x) r same refl (sample_reason a b seed n bd ready) (tells x ready.stands)

-- ## no device

pub no_devices : {A : Type 0} (shown : A → DeviceData) (xs : List A) → xs ≡ [] → map shown xs ≡ []
no_devices shown xs none = ap (map shown) none
