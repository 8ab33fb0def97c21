-- The region or the device that a name names, and lists of regions that grow.
use Rattle.std.proofs.Common.{◌≡◌, ◌∙◌, ℕ, suc, Bool, true, false, ◌+◌, ◌≤◌, ◌<◌, List, [], ◌∷◌, ◌++◌, append_assoc, drop, drop-cons, length, get_or, map, Global, String, string_bytes, refl, sym, ap, subst, arith, inl, inr, if◌then◌else◌}
use Rattle.std.specs.Str.{bytes_eq}
use Rattle.std.proofs.lemmas.Bool.{cases_Bool}
use Rattle.std.proofs.lemmas.List.{get_or-map, map-append}
use Rattle.std.specs.List.{All}
use Rattle.app_toml.specs.Accepted.{IsAccepted}
use Rattle.app_toml.specs.Apps.{AppData, DeviceData, RegionData, TaskData}
use Rattle.app_toml.specs.Crossed.{has_device, has_region}
use Rattle.app_toml.specs.Places.{Text}
use Rattle.app_toml.specs.Sites.{device_of, region_of}
use Rattle.app_toml.specs.declared.parts.DeviceSpec.{DeviceSpec}
use Rattle.app_toml.specs.declared.parts.RegionSpec.{RegionSpec}
use Rattle.image_format.specs.ImageData.{all_regions, region_record, rights_number}
use Rattle.image_format.specs.declared.records.RegionRecord.{RegionRecord}
use Rattle.mem_plan.specs.Sizes.{rounded}
use Rattle.region_check.specs.declared.Region.{Region}
use Rattle.image_build.specs.Building.{IsKnown}
use Rattle.image_build.specs.Built.{tasks_from}
use Rattle.image_build.specs.Layout.{device, device_named, index_from, index_of, index_of_region, memory, named, no_device, no_region, no_task, region_base, region_named, task_at, task_regions}
use Rattle.image_build.proofs.Finding.{same_count}
use Rattle.image_build.proofs.Naming.{either_known}

-- ---- a name among those of regions and of devices

has_at : (k : ℕ) (name : Text) (rs : List RegionData) → index_from k name (map (λ r. r.name) rs) < k + length rs → has_region name rs ≡ true
has_at k name [] lt = absurd (omega (arith, lt))
has_at k name (r ∷ rs) lt = elim (cases_Bool (bytes_eq r.name name)) [
  | inl hit ↦ rw hit refl
  | inr miss ↦ let rest : index_from (k + 1) name (map (λ (x : RegionData). x.name) rs) < k + suc (length rs) = rw miss at lt in
      rw miss (has_at (k + 1) name rs (omega (arith, rest)))
]

lacks_at : (k : ℕ) (name : Text) (rs : List RegionData) → k + length rs ≤ index_from k name (map (λ r. r.name) rs) → has_region name rs ≡ false
lacks_at k name [] le = refl
lacks_at k name (r ∷ rs) le = elim (cases_Bool (bytes_eq r.name name)) [
  | inl hit ↦ let here : k + suc (length rs) ≤ k = rw hit at le in absurd (omega (arith, here))
  | inr miss ↦ let rest : k + suc (length rs) ≤ index_from (k + 1) name (map (λ (x : RegionData). x.name) rs) = rw miss at le in
      rw miss (lacks_at (k + 1) name rs (omega (arith, rest)))
]

device_at : (k : ℕ) (name : Text) (ds : List DeviceData) → has_device name ds ≡ true → index_from k name (map (λ d. d.name) ds) < k + length ds
device_at k name [] e = cc
device_at k name (d ∷ ds) e = elim (cases_Bool (bytes_eq d.name name)) [
  | inl hit ↦ rw hit (omega arith)
  | inr miss ↦ let rest : has_device name ds ≡ true = rw miss at e in rw miss (omega (arith, device_at (k + 1) name ds rest))
]

-- ---- of the code's lists

region_in : (app : AppData) (xs : List RegionSpec) → map region_of xs ≡ app.regions → (k : ℕ) (d : RegionSpec) → k < length xs
    → region_of (get_or xs k d) ≡ get_or app.regions k no_region
region_in app xs m k d lt = sym (ap (λ (ys : List RegionData). get_or ys k no_region) (sym m) ∙ get_or-map region_of xs k d no_region lt)

device_in : (app : AppData) (xs : List DeviceSpec) → map device_of xs ≡ app.devices → (k : ℕ) (d : DeviceSpec) → k < length xs
    → device_of (get_or xs k d) ≡ get_or app.devices k no_device
device_in app xs m k d lt = sym (ap (λ (ys : List DeviceData). get_or ys k no_device) (sym m) ∙ get_or-map device_of xs k d no_device lt)

pub region_small : (app : AppData) (xs : List RegionSpec) → IsAccepted app → map region_of xs ≡ app.regions → (k : ℕ) (d : RegionSpec) → k < length xs
    → (get_or xs k d).size ≤ 1048576
region_small app xs a m k d lt =
    let below : k < length app.regions = omega (arith, lt, same_count region_of xs app.regions m) in
    omega (arith, ap (λ (r : RegionData). r.size) (region_in app xs m k d lt), (a.regions k no_region below).size.1)

place_of_region : (app : AppData) (name : Text) (xs : List RegionSpec) (k : ℕ) → map region_of xs ≡ app.regions
    → k ≡ index_of name (map (λ r. r.name) (map region_of xs)) → k ≡ index_of_region app name
place_of_region app name xs k m at = at ∙ ap (λ (rs : List RegionData). index_of name (map (λ (r : RegionData). r.name) rs)) m

place_of_device : (app : AppData) (name : Text) (xs : List DeviceSpec) (k : ℕ) → map device_of xs ≡ app.devices
    → k ≡ index_of name (map (λ d. d.name) (map device_of xs)) → k ≡ index_of name (map (λ d. d.name) app.devices)
place_of_device app name xs k m at = at ∙ ap (λ (ds : List DeviceData). index_of name (map (λ (d : DeviceData). d.name) ds)) m

is_region : (app : AppData) (name : Text) (xs : List RegionSpec) (k : ℕ) → map region_of xs ≡ app.regions
    → k ≡ index_of name (map (λ r. r.name) (map region_of xs)) → k < length xs → has_region name app.regions ≡ true
is_region app name xs k m at lt =
    has_at 0 name app.regions (omega (arith, lt, place_of_region app name xs k m at, same_count region_of xs app.regions m))

is_no_region : (app : AppData) (name : Text) (xs : List RegionSpec) (k : ℕ) → map region_of xs ≡ app.regions
    → k ≡ index_of name (map (λ r. r.name) (map region_of xs)) → length xs ≤ k → has_region name app.regions ≡ false
is_no_region app name xs k m at le =
    lacks_at 0 name app.regions (omega (arith, le, place_of_region app name xs k m at, same_count region_of xs app.regions m))

-- a known name that is no region's is a device's
pub device_below : (app : AppData) (name : Text) (xs : List RegionSpec) (k : ℕ) (ds : List DeviceSpec) (j : ℕ) → map region_of xs ≡ app.regions
    → k ≡ index_of name (map (λ r. r.name) (map region_of xs)) → length xs ≤ k → map device_of ds ≡ app.devices
    → j ≡ index_of name (map (λ d. d.name) (map device_of ds)) → IsKnown app name → j < length ds
device_below app name xs k ds j m at le n there known =
    let has : has_device name app.devices ≡ true = either_known _ _ known (is_no_region app name xs k m at le) in
    omega (arith, device_at 0 name app.devices has, place_of_device app name ds j n there, same_count device_of ds app.devices n)

-- ---- its record

same_region : (b c s t r q : ℕ) → b ≡ c → s ≡ t → r ≡ q
    → ◌≡◌ {A = RegionRecord} (record { base = b; size = s; rights = r }) (record { base = c; size = t; rights = q })
same_region b c s t r q i j k = rw (i, j, k) refl

memory_rights : (write : Bool) (n : ℕ) → n ≡ (if write then 3 else 1) → n ≡ rights_number (record { read = true; write = write; execute = false; device = false })
memory_rights true n e = e
memory_rights false n e = e

device_rights : (write : Bool) (n : ℕ) → n ≡ (if write then 3 else 1) → n + 8 ≡ rights_number (record { read = true; write = write; execute = false; device = true })
device_rights true n e = ap (λ (m : ℕ). m + 8) e
device_rights false n e = ap (λ (m : ℕ). m + 8) e

pub region_is : (app : AppData) (write : Bool) (name : Text) (xs : List RegionSpec) (k : ℕ) (d : RegionSpec) (base size rights : ℕ) → map region_of xs ≡ app.regions
    → k ≡ index_of name (map (λ r. r.name) (map region_of xs)) → k < length xs
    → base ≡ region_base app k → size ≡ rounded (get_or xs k d).size → rights ≡ (if write then 3 else 1)
    → ◌≡◌ {A = RegionRecord} (record { base = base; size = size; rights = rights }) (region_record (named app write name))
region_is app write name xs k d base size rights m at lt b s r =
    subst (λ (v : Region). ◌≡◌ {A = RegionRecord} (record { base = base; size = size; rights = rights }) (region_record v)) (sym picked)
    (same_region base _ size _ rights _ (b ∙ ap (region_base app) place) (s ∙ ap rounded length_of) (memory_rights write rights r))
  where
    place : k ≡ index_of_region app name
    place = place_of_region app name xs k m at

    picked : named app write name ≡ memory (region_base app (index_of_region app name)) (rounded (region_named app name).size) write false
    picked = rw (is_region app name xs k m at lt) refl

    length_of : (get_or xs k d).size ≡ (region_named app name).size
    length_of = ap (λ (x : RegionData). x.size) (region_in app xs m k d lt ∙ ap (λ (n : ℕ). get_or app.regions n no_region) place)

pub device_is : (app : AppData) (write : Bool) (name : Text) (xs : List RegionSpec) (k : ℕ) (ds : List DeviceSpec) (j : ℕ) (d : DeviceSpec) (base size rights : ℕ)
    → map region_of xs ≡ app.regions → k ≡ index_of name (map (λ r. r.name) (map region_of xs)) → length xs ≤ k → map device_of ds ≡ app.devices
    → j ≡ index_of name (map (λ d. d.name) (map device_of ds)) → IsKnown app name
    → base ≡ (get_or ds j d).base → size ≡ (get_or ds j d).size → rights ≡ (if write then 3 else 1)
    → ◌≡◌ {A = RegionRecord} (record { base = base; size = size; rights = rights + 8 }) (region_record (named app write name))
device_is app write name xs k ds j d base size rights m at le n there known b s r =
    subst (λ (v : Region). ◌≡◌ {A = RegionRecord} (record { base = base; size = size; rights = rights + 8 }) (region_record v)) (sym picked)
    (same_region base _ size _ (rights + 8) _ (b ∙ ap (λ (x : DeviceData). x.base) found) (s ∙ ap (λ (x : DeviceData). x.size) found) (device_rights write rights r))
  where
    picked : named app write name ≡ device (device_named app name) write
    picked = rw (is_no_region app name xs k m at le) refl

    found : device_of (get_or ds j d) ≡ device_named app name
    found = device_in app ds n j d (device_below app name xs k ds j m at le n there known)
        ∙ ap (λ (i : ℕ). get_or app.devices i no_device) (place_of_device app name ds j n there)

-- ---- lists of records that grow

pub named_more : (app : AppData) (write : Bool) (out more all : List RegionRecord) (names : List (String Global)) (k : ℕ) (item : String Global) (r : RegionRecord)
    → k < length names → item ≡ get_or names k item → r ≡ region_record (named app write (string_bytes item)) → more ≡ out ++ r ∷ []
    → out ++ map region_record (map (named app write) (map string_bytes (drop k names))) ≡ all
    → more ++ map region_record (map (named app write) (map string_bytes (drop (k + 1) names))) ≡ all
named_more app write out more all names k item r lt at_k at is before =
    let here : RegionRecord = region_record (named app write (string_bytes item)) in
    let rest : List RegionRecord = map region_record (map (named app write) (map string_bytes (drop (k + 1) names))) in
    let next : suc k ≡ k + 1 = omega arith in
    let split : drop k names ≡ item ∷ drop (k + 1) names =
    drop-cons names k item lt ∙ ap (λ (x : String Global). x ∷ drop (suc k) names) (sym at_k) ∙ ap (λ (n : ℕ). item ∷ drop n names) next in
    let first : out ++ (here ∷ rest) ≡ all =
    subst (λ (xs : List (String Global)). out ++ map region_record (map (named app write) (map string_bytes xs)) ≡ all) split before in
    ap (λ (rs : List RegionRecord). rs ++ rest) (is ∙ ap (λ (x : RegionRecord). out ++ x ∷ []) at) ∙ append_assoc out (here ∷ []) rest ∙ first

pub known_names : (app : AppData) (names : List Text) (xs : List (String Global)) → map string_bytes xs ≡ names
    → ((j : ℕ) → j < length names → IsKnown app (get_or names j [])) → All (λ n. IsKnown app (string_bytes n)) xs
known_names app names xs m each k d lt =
    let look : get_or names k [] ≡ string_bytes (get_or xs k d) =
    ap (λ (ys : List Text). get_or ys k []) (sym m) ∙ get_or-map string_bytes xs k d [] lt in
    subst (IsKnown app) look (each k (omega (arith, lt, same_count string_bytes xs names m)))

pub regions_more : (app : AppData) (out more all : List RegionRecord) (i : ℕ) → i < length app.tasks
    → more ≡ out ++ map region_record (task_regions app i (task_at app i))
    → out ++ map region_record (all_regions (tasks_from app i (drop i app.tasks))) ≡ all
    → more ++ map region_record (all_regions (tasks_from app (i + 1) (drop (i + 1) app.tasks))) ≡ all
regions_more app out more all i lt is before =
    let here : List Region = task_regions app i (task_at app i) in
    let rest : List Region = all_regions (tasks_from app (i + 1) (drop (i + 1) app.tasks)) in
    let next : suc i ≡ i + 1 = omega arith in
    let split : drop i app.tasks ≡ task_at app i ∷ drop (i + 1) app.tasks =
    drop-cons app.tasks i no_task lt ∙ ap (λ (n : ℕ). task_at app i ∷ drop n app.tasks) next in
    let first : out ++ map region_record (here ++ rest) ≡ all =
    subst (λ (ts : List TaskData). out ++ map region_record (all_regions (tasks_from app i ts)) ≡ all) split before in
    ap (λ (rs : List RegionRecord). rs ++ map region_record rest) is ∙ append_assoc out (map region_record here) (map region_record rest)
    ∙ ap (λ (rs : List RegionRecord). out ++ rs) (sym (map-append region_record here rest)) ∙ first
