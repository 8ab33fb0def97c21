-- No step refuses the image that is built of an accepted description which is laid out.
use Rattle.std.proofs.Common.{◌≡◌, ℕ, ◌+◌, ◌*◌, ◌≤◌, ◌<◌, List, [], ◌∷◌, None, length, map, length-append, pow_pos, refl, sym, subst, arith}
use Rattle.std.proofs.lemmas.List.{length-map}
use Rattle.app_toml.specs.Accepted.{IsAccepted}
use Rattle.app_toml.specs.Apps.{AppData}
use Rattle.app_toml.specs.Relations.{Relations}
use Rattle.image_format.specs.Names.{names_fault}
use Rattle.image_format.specs.ImageData.{ImageData, Sound, ImageTask, all_names, all_regions, header_of, line_record, records_of, region_record, task_record}
use Rattle.image_format.specs.Records.{records_fault}
use Rattle.image_format.specs.Regions.{entries_fault, line_devices_fault, regions_fault}
use Rattle.image_format.specs.Steps.{count_fault, field_fault, lines_fault, lines_from, lines_place, tasks_fault}
use Rattle.image_format.proofs.Named.{names_pass}
use Rattle.image_format.specs.declared.records.ImageForm.TheVariants.{Second}
use Rattle.image_format.specs.declared.records.Header.{Header}
use Rattle.image_format.specs.declared.records.LineRecord.{LineRecord}
use Rattle.image_format.specs.declared.records.RegionRecord.{RegionRecord}
use Rattle.image_format.specs.declared.records.TaskRecord.{TaskRecord}
use Rattle.image_build.specs.Building.{Holds, IsLaid}
use Rattle.image_build.specs.Built.{Built, lines_at, lines_built, image_data_built, task_built, tasks_from}
use Rattle.image_build.specs.Layout.{flash_needed, task_at, task_regions}
use Rattle.image_build.specs.declared.layout.Layout.{Layout}
use Rattle.image_build.proofs.Known.{few_regions, few_tasks, some_task}
use Rattle.image_build.proofs.Planning.{flash_count, flash_end, flash_most}
use Rattle.image_build.proofs.Rounding.{some_size}
use Rattle.image_build.proofs.Spots.{fine, no_cut, ram_most}
use Rattle.image_build.proofs.Walking.{Each, HasOwn, IsGood, Runs, both, counted_all, counted_none, entries_none, fields_none, line_devices_none, regions_none, tasks_none}
use Rattle.image_build.proofs.EachDevice.{devices_drive}
use Rattle.image_build.proofs.EachLine.{at_most, few_lines, lines_none}
use Rattle.image_build.proofs.EachName.{all_short, are_names}
use Rattle.image_build.proofs.EachRegion.{LiesSomewhere, has_own, runs}
use Rattle.image_build.proofs.EachTask.{at_zero, built_at, built_count, each_built, good_task, region_count}

-- ---- how many regions

counts : (ts : List ImageTask) → Each (λ t. (1 ≤ length t.regions) × (length t.regions ≤ 8)) ts
    → (length ts ≤ length (all_regions ts)) × (length (all_regions ts) ≤ 8 * length ts)
counts [] each = (omega arith, omega arith)
counts (t ∷ ts) each =
    let rest = counts ts each.1 in
    let sum = length-append t.regions (all_regions ts) in
    (omega (arith, each.0.0, rest.0, sum), omega (arith, each.0.1, rest.1, sum))

-- ---- how many of each

own_count : (app : AppData) → IsAccepted app → (i : ℕ) → i < length app.tasks
    → (1 ≤ length (task_regions app i (task_at app i))) × (length (task_regions app i (task_at app i)) ≤ 8)
own_count app a i lt =
    let t = task_at app i in
    (omega (arith, region_count app i t), omega (arith, region_count app i t, few_regions app a i lt))

region_counts : (app : AppData) → IsAccepted app → (length (tasks_from app 0 app.tasks) ≤ length (all_regions (tasks_from app 0 app.tasks)))
    × (length (all_regions (tasks_from app 0 app.tasks)) ≤ 8 * length (tasks_from app 0 app.tasks))
region_counts app a = counts (tasks_from app 0 app.tasks) (each_built app (λ t. (1 ≤ length t.regions) × (length t.regions ≤ 8)) 0 app.tasks
    (λ i lt. at_zero (λ k. (1 ≤ length (task_regions app k (task_at app i))) × (length (task_regions app k (task_at app i)) ≤ 8)) i (own_count app a i lt)))

-- the counts fit the header
pub record AreFew (app : AppData) : Type 0 where
  pub tasks : length (map task_record (tasks_from app 0 app.tasks)) ≤ 512
  pub regions : length (map region_record (all_regions (tasks_from app 0 app.tasks))) ≤ 4096
  pub lines : length (map line_record (lines_built app)) ≤ 64
  pub names : length (all_names (tasks_from app 0 app.tasks)) ≤ 409600

pub are_few : (app : AppData) → IsAccepted app → Relations app → AreFew app
are_few app a r =
    let ts = tasks_from app 0 app.tasks in
    let n = built_count app 0 app.tasks in
    record {
      tasks = omega (arith, length-map ts task_record, n, few_tasks app a);
      regions = omega (arith, length-map (all_regions ts) region_record, (region_counts app a).1, n, few_tasks app a);
      lines = omega (arith, length-map (lines_built app) line_record, few_lines (lines_at app) (length app.tasks) (at_most app a r) 64 0);
      names = omega (arith, all_short app a, few_tasks app a);
    }

-- ---- the whole

header_none : (app : AppData) (layout : Layout) → IsLaid app layout → IsAccepted app → Relations app → (flash : List ℕ) → length flash ≡ flash_needed app
    → field_fault (header_of Second (image_data_built app flash)) ≡ None
unfolding field_fault
header_none app layout l a r flash whole =
    let n = built_count app 0 app.tasks in
    let c = region_counts app a in
    let first_task = some_task app a in
    let code : 1 ≤ flash_needed app = omega (arith, flash_end app layout 0 l first_task, l.flash.low 0 (omega (arith, first_task, flash_count app)), some_size (task_at app 0).flash) in
    fields_none (header_of Second (image_data_built app flash)) (omega (arith, n, first_task)) (omega (arith, n, few_tasks app a))
    (few_lines (lines_at app) (length app.tasks) (at_most app a r) 64 0) c.0 c.1 refl
    (omega (arith, whole, code)) (omega (arith, whole, flash_most app layout l a)) (ram_most app layout l a) (pow_pos _) (are_few app a r).names

records_none : (app : AppData) (layout : Layout) → IsLaid app layout → IsAccepted app → Relations app → (flash : List ℕ) → length flash ≡ flash_needed app
    → records_fault (records_of Second (image_data_built app flash)) ≡ None
records_none app layout l a r flash whole =
    let p = image_data_built app flash in
    let h = header_of Second p in
    let ts = tasks_from app 0 app.tasks in
    let all = map region_record (all_regions ts) in
    let tasks : tasks_fault h (map task_record ts) ≡ None = tasks_none 0 28 (map task_record ts)
    (λ i lt. let below : i < length app.tasks = omega (arith, lt, length-map ts task_record, built_count app 0 app.tasks) in
    subst (IsGood (0 + i)) (sym (built_at app 0 app.tasks i below)) (at_zero (λ k. IsGood k (task_record (task_built app k (task_at app i)))) i (good_task app layout l a r i below))) in
    let count : count_fault h (map task_record ts) ≡ None = counted_none h (map task_record ts) (counted_all ts) in
    let regions : regions_fault h (map task_record ts) all ≡ None =
    regions_none h (LiesSomewhere app) (λ e x. fine app layout l r.devices h whole refl x.0 e x.1)
    (λ e f x y. no_cut app layout l a r.devices x.0 y.0 e f x.1 y.1) [] tt _ ts
    (each_built app (HasOwn (LiesSomewhere app)) 0 app.tasks (λ i lt. at_zero (λ k. HasOwn (LiesSomewhere app) (task_built app k (task_at app i))) i (has_own app layout l a r i lt))) in
    let entries : entries_fault h (map task_record ts) all ≡ None =
    entries_none 28 ts (each_built app Runs 0 app.tasks (λ i lt. at_zero (λ k. Runs (task_built app k (task_at app i))) i (runs app layout l i lt))) in
    let lines : lines_fault h (map line_record (lines_built app)) ≡ None =
    subst (λ (n : ℕ). lines_from Second 0 n (lines_place h) (map line_record (lines_built app)) ≡ None) (sym (built_count app 0 app.tasks))
    (lines_none (lines_at app) (length app.tasks) (at_most app a r) 64 0 0 (lines_place h) (omega arith) (omega arith)) in
    let devices : line_devices_fault h (map task_record ts) all (map line_record (lines_built app)) ≡ None =
    line_devices_none (map task_record ts) all (lines_place h) (lines_built app) (devices_drive app a r) in
    let names : names_fault h (map task_record ts) (all_names ts) ≡ None = names_pass p (are_names app a r) in
    both _ _ tasks (both _ _ count (both _ _ regions (both _ _ entries (both _ _ lines (both _ _ devices names)))))

pub sound_built : (app : AppData) (layout : Layout) → IsLaid app layout → IsAccepted app → Relations app → (flash : List ℕ) → length flash ≡ flash_needed app
    → Sound (image_data_built app flash)
sound_built app layout l a r flash whole = record {
  tasks = length-map (tasks_from app 0 app.tasks) task_record;
  regions = length-map (all_regions (tasks_from app 0 app.tasks)) region_record;
  lines = length-map (lines_built app) line_record;
  names = refl;
  flash = refl;
  fields = header_none app layout l a r flash whole;
  records = records_none app layout l a r flash whole;
}

-- ---- the records that are made

pub records_made : (app : AppData) (flash : List ℕ) (h : Header) (ts : List TaskRecord) (rs : List RegionRecord) (ls : List LineRecord) (ns : List ℕ)
    → h ≡ header_of Second (image_data_built app flash) → ts ≡ map task_record (tasks_from app 0 app.tasks) → rs ≡ map region_record (all_regions (tasks_from app 0 app.tasks))
    → ls ≡ map line_record (lines_built app) → ns ≡ all_names (tasks_from app 0 app.tasks)
    → records_of Second (image_data_built app flash) ≡ record { header = h; tasks = ts; regions = rs; lines = ls; names = ns; flash = flash }
records_made app flash h ts rs ls ns a b c d e = rw (a, b, c, d, e) refl

pub built_as : (app : AppData) (sources : List (List ℕ)) (flash : List ℕ) (p : ImageData) → p ≡ image_data_built app flash → length app.tasks ≡ length sources → Holds app sources flash
    → Built app sources p
built_as app sources flash p is count h =
    subst (Built app sources) (sym is)
    (record { parts = refl; length_of_flash = h.length_of_flash; programs = λ i lt. h.programs i (omega (arith, lt, count)) })
