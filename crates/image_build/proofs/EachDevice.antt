-- The devices that drive the lines that are built: the region of each is one of the line's task, and a device's.
use Rattle.std.proofs.Common.{◌≡◌, ◌≢◌, ◌∙◌, ℕ, zero, suc, Bool, true, false, ◌+◌, ◌<◌, ◌==◌, List, [], ◌∷◌, ◌++◌, Option, None, Some, filter, length, get_or, map, refl, sym, ap, subst, arith, inl, inr}
use Rattle.std.specs.List.{flat_map, range_with_len, slice_get}
use Rattle.std.specs.Prelude.{IfSome}
use Rattle.std.specs.Str.{bytes_eq}
use Rattle.std.proofs.lemmas.Bool.{and_parts, cases_Bool}
use Rattle.std.proofs.lemmas.List.{map-id}
use Rattle.std.proofs.lemmas.Slice.Eq.{bytes_eq-Decides}
use Rattle.app_toml.specs.Accepted.{IsAccepted}
use Rattle.app_toml.specs.Apps.{AppData, DeviceData, InterruptData, RegionData, TaskData}
use Rattle.app_toml.specs.Crossed.{areas_of, has_device, has_region, has_task, is_among, is_device_of}
use Rattle.app_toml.specs.Places.{Text}
use Rattle.app_toml.specs.Relations.{HasNames, Relations}
use Rattle.image_format.specs.ImageData.{ImageLine, ImageTask, all_regions, region_record, task_record}
use Rattle.image_format.specs.Regions.{is_devices, may_drive, own_regions}
use Rattle.image_format.specs.declared.records.RegionRecord.{RegionRecord}
use Rattle.image_format.proofs.Shape.{behind, front}
use Rattle.image_build.specs.Building.{IsOwned}
use Rattle.image_build.specs.Built.{device_number, line_built, lines_at, lines_built, tasks_from}
use Rattle.image_build.specs.Layout.{index_from, index_of, named, no_device, no_region, no_task, task_at, task_regions}
use Rattle.image_build.proofs.EachTask.{built_count, no_built, task_built_at}
use Rattle.image_build.proofs.Naming.{each_from, found, owned_all}
use Rattle.image_build.proofs.Walking.{Each, each_append, each_weaker}

-- ---- each line that is built

each_at : (app : AppData) (P : ImageLine → Type 0) (line : ℕ) (xs : List InterruptData) → Each (λ i. P (line_built app i)) xs
    → Each P (map (line_built app) (filter (λ i. i.line == line) xs))
each_at app P line [] each = tt
each_at app P line (x ∷ xs) each = elim (cases_Bool (x.line == line)) [
  | inl hit ↦ rw hit (each.0, each_at app P line xs each.1)
  | inr miss ↦ rw miss (each_at app P line xs each.1)
]

each_line : (P : ImageLine → Type 0) (at : ℕ → List ImageLine) → ((line : ℕ) → Each P (at line)) → (n line : ℕ) → Each P (flat_map at (range_with_len line n))
each_line P at each zero line = tt
each_line P at each (suc n) line = each_append P (at line) (flat_map at (range_with_len (line + 1) n)) (each line) (each_line P at each n (line + 1))

-- ---- the task of a name

-- its place, and what it uses and reads
record IsFirst (k : ℕ) (name : Text) (ts : List TaskData) : Type 0 where
  at : ℕ
  below : at < length ts
  place : index_from k name (map (λ t. t.name) ts) ≡ k + at
  areas : areas_of name ts ≡ (get_or ts at no_task).uses ++ (get_or ts at no_task).reads

first_named : (k : ℕ) (name : Text) (ts : List TaskData) → has_task name ts ≡ true → IsFirst k name ts
first_named k name [] there = cc
first_named k name (t ∷ ts) there = elim (cases_Bool (bytes_eq t.name name)) [
  | inl hit ↦
      let here : k ≡ k + 0 = omega arith in
      record { at = 0; below = omega arith; place = rw hit here; areas = rw hit refl }
  | inr miss ↦
      let later : has_task name ts ≡ true = rw miss at there in
      let f = first_named (k + 1) name ts later in
      let next : (k + 1) + f.at ≡ k + suc f.at = omega arith in
      record { at = suc f.at; below = omega (arith, f.below); place = rw miss (f.place ∙ next); areas = rw miss f.areas }
]

-- ---- its regions, among those of all tasks

own_built : (ts : List ImageTask) (i : ℕ) (d : ImageTask) → i < length ts
    → own_regions (map task_record ts) (map region_record (all_regions ts)) i ≡ map region_record (get_or ts i d).regions
own_built [] i d lt = absurd (omega (arith, lt))
own_built (t ∷ ts) zero d lt = front t.regions (all_regions ts)
own_built (t ∷ ts) (suc i) d lt =
    subst (λ (rs : List RegionRecord). own_regions (map task_record ts) rs i ≡ map region_record (get_or ts i d).regions) (sym (behind t.regions (all_regions ts)))
    (own_built ts i d (omega (arith, lt)))

-- ---- the region of a device

no_region_named : (name : Text) (rs : List RegionData) → Each (λ r. r.name ≢ name) rs → has_region name rs ≡ false
no_region_named name [] other = refl
no_region_named name (r ∷ rs) other = elim (cases_Bool (bytes_eq r.name name)) [
  | inl hit ↦ absurd (other.0 ((bytes_eq-Decides r.name name).0 hit))
  | inr miss ↦ rw miss (no_region_named name rs other.1)
]

-- a device's name is no region's
device_apart : (app : AppData) → HasNames app → (name : Text) → has_device name app.devices ≡ true → has_region name app.regions ≡ false
device_apart app h name is =
    let f = found (λ (d : DeviceData). d.name) 0 name app.devices is in
    no_region_named name app.regions (each_from (λ r. r.name ≢ name) no_region app.regions
    (λ j below e. h.apart f.0 no_device f.1 j no_region below (e ∙ sym (f.3 no_device))))

device_named : (app : AppData) (write : Bool) (name : Text) → has_region name app.regions ≡ false → is_devices (Some (region_record (named app write name))) ≡ true
device_named app true name none = rw none refl
device_named app false name none = rw none refl

named_at : (app : AppData) (write : Bool) (names : List Text) (j : ℕ) (name : Text) → j < length names → get_or names j [] ≡ name → has_region name app.regions ≡ false
    → is_devices (slice_get (map region_record (map (named app write) names)) j) ≡ true
named_at app write [] j name lt is none = absurd (omega (arith, lt))
named_at app write (n ∷ names) zero name lt is none =
    subst (λ (m : Text). is_devices (Some (region_record (named app write m))) ≡ true) (sym is) (device_named app write name none)
named_at app write (n ∷ names) (suc j) name lt is none = named_at app write names j name (omega (arith, lt)) is none

-- what is used comes before what is read
area_at : (app : AppData) (uses reads : List Text) (j : ℕ) (name : Text) → j < length (uses ++ reads) → get_or (uses ++ reads) j [] ≡ name → has_region name app.regions ≡ false
    → is_devices (slice_get (map region_record (map (named app true) uses ++ map (named app false) reads)) j) ≡ true
area_at app [] reads j name lt is none = named_at app false reads j name lt is none
area_at app (u ∷ uses) reads zero name lt is none = named_at app true (u ∷ []) 0 name (omega arith) is none
area_at app (u ∷ uses) reads (suc j) name lt is none = area_at app uses reads j name (omega (arith, lt)) is none

-- ---- the device of each line

-- the regions of the i-th task
abbrev pub own_at : AppData → ℕ → List RegionRecord
own_at app i = own_regions (map task_record (tasks_from app 0 app.tasks)) (map region_record (all_regions (tasks_from app 0 app.tasks))) i

abbrev pub MayDrive : AppData → ImageLine → Type 0
MayDrive app l = may_drive (own_at app l.task) l.device ≡ true

regions_at : (app : AppData) (i : ℕ) → i < length app.tasks → own_at app i ≡ map region_record (task_regions app i (task_at app i))
regions_at app i lt =
    let ts = tasks_from app 0 app.tasks in
    let below : i < length ts = omega (arith, lt, built_count app 0 app.tasks) in
    let same : 0 + i ≡ i = omega arith in
    own_built ts i no_built below ∙ ap (λ (t : ImageTask). map region_record t.regions) (task_built_at app 0 app.tasks i no_built lt)
    ∙ ap (λ (n : ℕ). map region_record (task_regions app n (task_at app i))) same

-- the place of one of these names
place_among : (name : Text) (names : List Text) → is_among name names ≡ true → (j : ℕ) × (j < length names) × (index_of name names ≡ j) × (get_or names j [] ≡ name)
place_among name names is =
    let f = found (λ (n : Text). n) 0 name names is in
    let at : index_of name names ≡ f.0 = ap (index_of name) (sym (map-id names)) ∙ f.2 ∙ omega arith in
    (f.0, f.1, at, f.3 [])

device_drives : (app : AppData) → HasNames app → (task : Text) (device : Option Text) → has_task task app.tasks ≡ true
    → IfSome device (λ name. is_device_of app.tasks app.devices task name ≡ true)
    → may_drive (own_at app (index_of task (map (λ t. t.name) app.tasks))) (device_number (areas_of task app.tasks) device) ≡ true
device_drives app h task None there known = refl
device_drives app h task (Some name) there known =
    let parts = and_parts (is_among name (areas_of task app.tasks)) (has_device name app.devices) known in
    let f = first_named 0 task app.tasks there in
    let t = task_at app f.at in
    let a = place_among name (t.uses ++ t.reads) (subst (λ (names : List Text). is_among name names ≡ true) f.areas parts.0) in
    let owner : index_of task (map (λ t. t.name) app.tasks) ≡ f.at = omega (arith, f.place) in
    let place : index_of name (areas_of task app.tasks) ≡ a.0 = ap (index_of name) f.areas ∙ a.2 in
    let number : 3 + index_of name (areas_of task app.tasks) ≡ suc (suc (suc a.0)) = omega (arith, place) in
    ap (λ (own : List RegionRecord). may_drive own (3 + index_of name (areas_of task app.tasks))) (ap (own_at app) owner ∙ regions_at app f.at f.below)
    ∙ ap (may_drive (map region_record (task_regions app f.at t))) number
    ∙ area_at app t.uses t.reads a.0 name a.1 a.3 (device_apart app h name parts.1)

pub devices_drive : (app : AppData) → IsAccepted app → Relations app → Each (MayDrive app) (lines_built app)
devices_drive app a r =
    each_line (MayDrive app) (lines_at app) (λ line. each_at app (MayDrive app) line app.interrupts
    (each_weaker (IsOwned app) (λ i. MayDrive app (line_built app i)) (λ i own. device_drives app r.names i.task i.device own.owner own.device) app.interrupts (owned_all app a))) 64 0
