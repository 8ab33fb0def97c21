-- How often a run executed each instruction: from the board of a run to the answer.
use Rattle.std.proofs.Common.{◌≡◌, ◌∙◌, ℕ, Bool, true, false, List, [], ◌∷◌, ◌++◌, Option, refl, sym, ap, subst, inl}
use Rattle.kernel_abi.specs.Devices.{AreFresh, DeviceData}
use Rattle.image_format.specs.ImageData.{ImageData}
use Rattle.board_model.specs.Script.{Scenario, start_of}
use Rattle.board_core.specs.Data.{Shows}
use Rattle.board_core.specs.declared.board.Board.{Board}
use Rattle.board_core.specs.Stands.{Stands}
use Rattle.command_line.specs.CommandLine.{cover}
use Rattle.outside_io.specs.Seen.{FilesSeen, SinkSeen}
use Rattle.command_files.specs.Contents.{application_of, image_data_of, scenario_of}
use Rattle.command_files.specs.Sources.{image_file, script_file, MayBe, TakesAll, described as described_in, sources_in, script_in}
use Rattle.app_toml.specs.Apps.{AppData}
use Rattle.thumb_asm.specs.Meaning.{Names}
use Rattle.command_files.specs.declared.source_lines.SourceLines.{SourceLines}
use Rattle.command_files.specs.Building.{IsBuiltApp, kept_labels, labels_from}
use Rattle.command_files.specs.Ready.{IsRunSet, IsAppSet, TakesImage, TakesApp}
use Rattle.trace_cli.specs.Pushed.{SaysCovered, told, nothing}
use Rattle.command_files.specs.Verdict.{Verdict}
use Rattle.trace_cli.specs.Verdict.{covered, IsCovered}
use Rattle.trace_cli.specs.Answer.{does, AnswersJob}
use Rattle.command_files.proofs.Lists.{takes_none, takes_first}
use Rattle.command_files.proofs.Readying.{AreTaken, app_taken}
use Rattle.command_files.proofs.Answering.{silent_short}
use Rattle.trace_cli.proofs.Readying.{answers_pushed}
use Rattle.trace_cli.specs.Sources.{files_of}

-- ## the files

pub covers : {devices : List DeviceData} (fresh : AreFresh devices) (image script : List ℕ) (n : ℕ) → TakesImage (files_of devices (cover image script n false)) image script
covers {devices} fresh image script n = record { more = λ _. []; files = λ first. refl }

pub labels_cover : {devices : List DeviceData} (fresh : AreFresh devices) (app script : List ℕ) (n : ℕ) → TakesApp (files_of devices (cover app script n true)) app script
labels_cover {devices} fresh app script n = record { files = λ first. refl }

-- ## the answer to the job

module _ {X : Type 0} {H : X → Type 0} {shown : Shows X H} {devices : List DeviceData} (image script : List ℕ) (a b : FilesSeen) (w w' : SinkSeen) (n : ℕ) (bd : Board X H) (r : ℕ) (same : b.contents ≡ a.contents) (h : IsRunSet shown devices image script a.contents bd) where
  abbrev scenario : Scenario
  scenario = scenario_of (image_data_of h.of_image.bytes) h.set.script devices

  stands : Stands shown scenario bd (start_of scenario)
  stands = let P : ImageData → Type 0 = λ p. Stands shown (scenario_of p h.set.script devices) bd (start_of (scenario_of p h.set.script devices)) in subst P h.of_image.is h.set.stands

  takes : TakesAll (MayBe a.contents) (files_of devices (cover image script n false)) (h.of_image.bytes ∷ h.set.script ∷ [])
  takes = record {
    takes = takes_first (MayBe a.contents) (image_file image) (script_file script ∷ []) h.of_image.bytes (h.set.script ∷ []) h.of_image.held h.of_image.accepted
        (takes_first (MayBe a.contents) (script_file script) [] h.set.script [] h.set.held h.set.accepted (takes_none (MayBe a.contents) []));
    all = refl;
  }

  by_said : SaysCovered n scenario [] w w' r → AnswersJob devices (cover image script n false) a b w w' r
  by_said (told known is p) =
      answers_pushed (cover image script n false) a b w w' (covered n scenario [] known) r same refl (does (h.of_image.bytes ∷ h.set.script ∷ []) takes (known, is, refl)) tt p
  by_said (nothing s) = inl (silent_short a b w w' r same s)

  pub answers_covered : ((x : Scenario) → Stands shown x bd (start_of x) → SaysCovered n x [] w w' r) → AnswersJob devices (cover image script n false) a b w w' r
  answers_covered says = by_said (says scenario stands)

-- ## with labels

-- where labels are wanted, those that are kept are those of the sources
labels_are : {seen : List ℕ → Option (List ℕ)} {app : List ℕ} {described : AppData} {image : ImageData} {l : SourceLines} (i : IsBuiltApp seen app true described image l) → labels_from (application_of i.bytes) 0 i.sources ≡ kept_labels l
labels_are i = ap (λ (d : AppData). labels_from d 0 i.sources) i.described ∙ sym (i.lines.labels i.wants)

module _ {X : Type 0} {H : X → Type 0} {shown : Shows X H} {devices : List DeviceData} (app script : List ℕ) (a b : FilesSeen) (w w' : SinkSeen) (n : ℕ) (bd : Board X H) (described : AppData) (l : SourceLines) (r : ℕ) (same : b.contents ≡ a.contents) (h : IsAppSet shown devices app script a.contents true bd described l) where
  abbrev contents : List (List ℕ)
  contents = h.built.bytes ∷ (h.built.sources ++ h.set.script ∷ [])

  taken : AreTaken (files_of devices (cover app script n true)) a.contents h.built.sources h.set.script h.image contents
  taken = app_taken h.image bd (record { files = λ first. refl }) h.built h.set

  labelled : labels_from (described_in contents) 0 (sources_in contents) ≡ kept_labels l
  labelled = ap (λ (ss : List (List ℕ)). labels_from (described_in contents) 0 ss) taken.sources_are ∙ labels_are h.built

  is_covered : (v : Verdict) → IsCovered n (scenario_of h.image h.set.script devices) (kept_labels l) v → IsCovered n (scenario_of h.image (script_in contents) devices) (labels_from (described_in contents) 0 (sources_in contents)) v
  is_covered v is =
      subst (λ (t : List ℕ). IsCovered n (scenario_of h.image t devices) (labels_from (described_in contents) 0 (sources_in contents)) v) (sym taken.script_is)
      (subst (λ (ls : Names). IsCovered n (scenario_of h.image h.set.script devices) ls v) (sym labelled) is)

  by_labelled : SaysCovered n (scenario_of h.image h.set.script devices) (kept_labels l) w w' r → AnswersJob devices (cover app script n true) a b w w' r
  by_labelled (told known is p) =
      let v = covered n (scenario_of h.image h.set.script devices) (kept_labels l) known in
      answers_pushed (cover app script n true) a b w w' v r same refl (does contents taken.accepted (h.image, taken.built, is_covered v (known, is, refl))) tt p
  by_labelled (nothing s) = inl (silent_short a b w w' r same s)

  pub answers_labelled : (labels : Names) → labels ≡ kept_labels l → ((x : Scenario) → Stands shown x bd (start_of x) → SaysCovered n x labels w w' r) → AnswersJob devices (cover app script n true) a b w w' r
  answers_labelled labels are says =
      let x = scenario_of h.image h.set.script devices in
      by_labelled (subst (λ (ls : Names). SaysCovered n x ls w w' r) are (says x h.set.stands))

-- the one or the other, by the flag
pub by_flag : {devices : List DeviceData} (image script : List ℕ) (n : ℕ) (labels flag : Bool) (a b : FilesSeen) (w w' : SinkSeen) (r : ℕ) → labels ≡ flag → AnswersJob devices (cover image script n flag) a b w w' r → AnswersJob devices (cover image script n labels) a b w w' r
by_flag {devices = devices} image script n labels flag a b w w' r is h = subst (λ (f : Bool). AnswersJob devices (cover image script n f) a b w w' r) (sym is) h
