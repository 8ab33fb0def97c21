use Rattle.std.proofs.Common.{◌≡◌, ◌∙◌, ◌<◌, ℕ, List, All, length, get_or, take, true, arith, ap, ap₂, subst, sym}
use Rattle.std.specs.List.{sum_by}
use Rattle.std.proofs.lemmas.Result.{IfOk-weaker}
use Rattle.text_lines.specs.Names.{is_name}
use Rattle.image_format.specs.declared.image.Image.{Image}
use Rattle.image_format.specs.declared.records.TaskRecord.{TaskRecord}
use Rattle.image_format.specs.Images.{image_data, records_in}
use Rattle.image_format.specs.Names.{after_names, names_of}
use Rattle.image_format.specs.ImageData.{names_in}
use Rattle.image_format.proofs.Chunks.{blank}
use Rattle.image_format.proofs.Holds.{all_named}
use Rattle.image_format.proofs.Limits.{few_tasks}
use Rattle.image_format.proofs.Lookups.{names_looked, names_sliced}
use Rattle.image_format.proofs.Shape.{tasks_length}
use Rattle.image_format.proofs.image.Image.notifications.Goals as goal

-- the names, as the code finds them
found : (image : Image) (i before n : ℕ) (tasks : List TaskRecord) (names own : List ℕ) → i < length image.tasks.items → tasks ≡ image.tasks.items → names ≡ image.names.items
    → before ≡ sum_by (λ t. t.names) (take i tasks) → own ≡ after_names before names → n ≡ (get_or tasks i blank).names → names_in (image_data image) i ≡ names_of n own
found image i before n tasks names own lt is_tasks is_names is_before is_own is_n =
    let ts = image.tasks.items in
    let ns = image.names.items in
    let count : (get_or ts i blank).names ≡ n = ap (λ (us : List TaskRecord). (get_or us i blank).names) (sym is_tasks) ∙ sym is_n in
    let start : sum_by (λ (t : TaskRecord). t.names) (take i ts) ≡ before = ap (λ (us : List TaskRecord). sum_by (λ (t : TaskRecord). t.names) (take i us)) (sym is_tasks) ∙ sym is_before in
    let behind : after_names (sum_by (λ (t : TaskRecord). t.names) (take i ts)) ns ≡ own = ap₂ after_names start (sym is_names) ∙ sym is_own in
    names_looked ts image.regions.items ns i ∙ names_sliced ts ns i lt ∙ ap₂ names_of count behind

pub named-requires-clause-few : goal.named-requires-clause-few
named-requires-clause-few c =
    let a = c.args.self.now.accepted in
    omega (arith, a.tasks, few_tasks c.args.self.now.header a.fields, ap length c.as_slice-tasks.ensures.value)

pub texts_of-requires : goal.texts_of-requires
texts_of-requires c =
    let image = c.args.self.now in
    let lt : c.args.i < length image.tasks.items = omega (arith, tasks_length image.tasks.items image.regions.items image.names.items) in
    subst (All (λ name. is_name name ≡ true))
    (found image c.args.i c.named.result c.from.result c.as_slice-tasks.result.now c.as_slice.result.now c.skip_names-own.result.now lt c.as_slice-tasks.ensures.value c.as_slice.ensures.value c.named.ensures c.skip_names-own.ensures c.from.ensures)
    (all_named (records_in image) image.accepted c.args.i)

pub returns : goal.returns
returns c =
    let image = c.args.self.now in
    let lt : c.args.i < length image.tasks.items = omega (arith, tasks_length image.tasks.items image.regions.items image.names.items) in
    let own = found image c.args.i c.named.result c.from.result c.as_slice-tasks.result.now c.as_slice.result.now c.skip_names-own.result.now lt c.as_slice-tasks.ensures.value c.as_slice.ensures.value c.named.ensures c.skip_names-own.ensures c.from.ensures in
    IfOk-weaker c.texts_of.result _ _ (λ v e. e ∙ sym own) c.texts_of.ensures
