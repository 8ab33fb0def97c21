use Rattle.std.proofs.Common.{◌≡◌, ◌∙◌, ℕ, List, map, ap, sym}
use Rattle.std.proofs.lemmas.Simd.{map-map}
use Rattle.std.specs.Prelude.{vec_items}
use Rattle.kernel_abi.specs.declared.Kind.{Kind}
use Rattle.kernel_abi.specs.Devices.{DeviceData}
use Rattle.region_check.specs.declared.Region.{Region}
use Rattle.task_table.specs.model.State.{TaskSetup, LineSetup}
use Rattle.image_format.specs.Images.{image_data}
use Rattle.image_format.specs.ImageData.{ImageData, ImageTask, ImageLine}
use Rattle.board_core.specs.Opened.{setup_of_image, setup_of_task, setup_of_line}
use Rattle.snapshot.specs.Causes.{Expected}
use Rattle.snapshot.specs.Waits.{state_fault}
use Rattle.snapshot.specs.Saved.{expected_of}
use Rattle.snapshot.proofs.loading.refusal.Goals as goal

-- what the image and the devices tell is what bytes must fit
expected_is : (p : ImageData) (ds : List DeviceData) (regions : List (List Region)) (ram : ℕ) (owned : List ℕ) (kinds : List Kind) → regions ≡ map (λ (t : ImageTask). t.regions) p.tasks → ram ≡ p.ram → owned ≡ map (λ (l : ImageLine). l.line) p.lines → kinds ≡ map (λ (d : DeviceData). d.kind) ds →
    record { regions = regions; ram = ram; owned = owned; kinds = kinds } ≡ expected_of (setup_of_image p) ds
expected_is p ds regions ram owned kinds a b c d =
    let rs = a ∙ sym (map-map (λ (t : TaskSetup). t.regions) setup_of_task p.tasks) in
    let ls = c ∙ sym (map-map (λ (l : LineSetup). l.line) (setup_of_line p) p.lines) in
    λ j. record { regions = rs j; ram = b j; owned = ls j; kinds = d j }

pub returns : goal.returns
returns g c =
    c.check.ensures.exact
    ∙ ap (λ (f : Expected). state_fault f c.args.bytes.now) (expected_is (image_data c.args.image.now) _ _ _ _ _ (ap (map vec_items) c.deref.ensures.value ∙ c.in_ok-regions.ensures) c.ram.ensures (c.deref-2.ensures.value ∙ c.in_ok-owned.ensures) (c.deref-3.ensures.value ∙ c.in_ok-kinds.ensures))
