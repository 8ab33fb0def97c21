-- Where the regions of a task lie, by their names, and that they are different places.
use Rattle.std.proofs.Common.{◌≡◌, ◌≢◌, ◌∙◌, ℕ, suc, Bool, true, false, ◌+◌, ◌-◌, ◌≤◌, ◌<◌, ◌||◌, List, [], ◌∷◌, ◌++◌, None, length, get_or, map, length-append, refl, sym, ap, subst, arith, inl, inr}
use Rattle.std.specs.List.{list_any}
use Rattle.std.specs.Prelude.{⊤, AllPairs, if◌then◌else◌}
use Rattle.std.specs.Str.{bytes_eq}
use Rattle.std.proofs.lemmas.Bool.{cases_Bool}
use Rattle.std.proofs.lemmas.List.{get_or-append-add, get_or-map, get_or_append_left, length-map, map-append}
use Rattle.std.proofs.lemmas.Slice.Eq.{bytes_eq-Decides}
use Rattle.app_toml.specs.Accepted.{IsAccepted}
use Rattle.app_toml.specs.Apps.{AppData, DeviceData, InterruptData, RegionData, TaskData}
use Rattle.app_toml.specs.Crossed.{has_device, has_region}
use Rattle.app_toml.specs.Places.{Text}
use Rattle.app_toml.specs.Relations.{AreApart, HasOwnNames}
use Rattle.image_format.specs.ImageData.{region_record}
use Rattle.image_format.specs.declared.records.RegionRecord.{RegionRecord}
use Rattle.mem_plan.specs.Sizes.{rounded}
use Rattle.image_build.specs.Building.{IsKnown, IsOwned}
use Rattle.image_build.specs.Layout.{device, flash_base, flash_sizes, index_from, index_of, index_of_region, memory, named, no_device, no_region, no_task, ram_base, ram_sizes, ram_wanted, region_base, task_at, task_regions}
use Rattle.image_build.proofs.Known.{owned, read_known, used_known}
use Rattle.image_build.proofs.Planning.{flash_count}
use Rattle.image_build.proofs.Spots.{Lies, Spot, at_device, in_flash, in_ram}
use Rattle.image_build.proofs.Walking.{Each, Pairs, each_append}

-- ---- what is found by its name

pub found : {T : Type 0} (name_of : T → Text) (k : ℕ) (name : Text) (xs : List T) → list_any (λ x. bytes_eq (name_of x) name) xs ≡ true
    → (j : ℕ) × (j < length xs) × (index_from k name (map name_of xs) ≡ k + j) × ((d : T) → name_of (get_or xs j d) ≡ name)
found name_of k name [] e = cc
found name_of k name (x ∷ xs) e = elim (cases_Bool (bytes_eq (name_of x) name)) [
  | inl hit ↦
      let here : k ≡ k + 0 = omega arith in
      (0, omega arith, rw hit here, λ d. (bytes_eq-Decides (name_of x) name).0 hit)
  | inr miss ↦
      let later : list_any (λ y. bytes_eq (name_of y) name) xs ≡ true = rw miss at e in
      let f = found name_of (k + 1) name xs later in
      let next : (k + 1) + f.0 ≡ k + suc f.0 = omega arith in
      (suc f.0, omega (arith, f.1), rw miss (f.2 ∙ next), f.3)
]

-- ---- its place

abbrev pub spot_of : AppData → Text → Spot
spot_of app name = if has_region name app.regions then in_ram (length app.tasks + index_of_region app name) else at_device (index_of name (map (λ d. d.name) app.devices))

abbrev name_at : AppData → Spot → Text
name_at app (in_flash i) = []
name_at app (in_ram k) = (get_or app.regions (k - length app.tasks) no_region).name
name_at app (at_device d) = (get_or app.devices d no_device).name

pub either_known : (a b : Bool) → (a || b) ≡ true → a ≡ false → b ≡ true
either_known true b e f = cc
either_known false b e f = e

name_back : (app : AppData) (name : Text) → IsKnown app name → name_at app (spot_of app name) ≡ name
name_back app name known = elim (cases_Bool (has_region name app.regions)) [
  | inl is ↦
      let f = found (λ (r : RegionData). r.name) 0 name app.regions is in
      let at : (length app.tasks + index_of_region app name) - length app.tasks ≡ f.0 = omega (arith, f.2) in
      rw is (ap (λ (k : ℕ). (get_or app.regions k no_region).name) at ∙ f.3 no_region)
  | inr other ↦
      let is : has_device name app.devices ≡ true = either_known (has_region name app.regions) (has_device name app.devices) known other in
      let f = found (λ (d : DeviceData). d.name) 0 name app.devices is in
      let at : index_of name (map (λ d. d.name) app.devices) ≡ f.0 = omega (arith, f.2) in
      rw other (ap (λ (k : ℕ). (get_or app.devices k no_device).name) at ∙ f.3 no_device)
]

other_spots : (app : AppData) (m n : Text) → IsKnown app m → IsKnown app n → (m ≡ n → ⊥) → spot_of app m ≡ spot_of app n → ⊥
other_spots app m n km kn other e = other (sym (name_back app m km) ∙ ap (name_at app) e ∙ name_back app n kn)

-- what a name names lies in no flash, and in no task's RAM
abbrev IsBeyond : ℕ → Spot → Type 0
IsBeyond n (in_flash i) = ⊥
IsBeyond n (in_ram k) = n ≤ k
IsBeyond n (at_device d) = ⊤

beyond : (app : AppData) (name : Text) → IsBeyond (length app.tasks) (spot_of app name)
beyond app name = elim (cases_Bool (has_region name app.regions)) [
  | inl is ↦ rw is (omega arith)
  | inr other ↦ rw other tt
]

no_flash : (app : AppData) (i : ℕ) (name : Text) → in_flash i ≡ spot_of app name → ⊥
no_flash app i name e = subst (IsBeyond (length app.tasks)) (sym e) (beyond app name)

no_ram : (app : AppData) (i : ℕ) (name : Text) → i < length app.tasks → in_ram i ≡ spot_of app name → ⊥
no_ram app i name lt e = let le : length app.tasks ≤ i = subst (IsBeyond (length app.tasks)) (sym e) (beyond app name) in omega (arith, lt, le)

-- ---- its region

pub ram_size : (app : AppData) (i : ℕ) → i < length app.tasks → get_or (ram_sizes app) i 0 ≡ rounded (task_at app i).ram
ram_size app i lt =
    let tasks = map (λ (t : TaskData). t.ram) app.tasks in
    let sizes = map (λ (r : RegionData). r.size) app.regions in
    let count : length tasks ≡ length app.tasks = length-map app.tasks (λ (t : TaskData). t.ram) in
    let inside : i < length tasks = omega (arith, lt, count) in
    let below : i < length (ram_wanted app) = omega (arith, lt, length-append tasks sizes, count) in
    get_or-map rounded (ram_wanted app) i 0 0 below
    ∙ ap rounded (get_or_append_left tasks sizes 0 i inside ∙ get_or-map (λ (t : TaskData). t.ram) app.tasks i no_task 0 lt)

pub region_size : (app : AppData) (k : ℕ) → k < length app.regions → get_or (ram_sizes app) (length app.tasks + k) 0 ≡ rounded (get_or app.regions k no_region).size
region_size app k lt =
    let tasks = map (λ (t : TaskData). t.ram) app.tasks in
    let sizes = map (λ (r : RegionData). r.size) app.regions in
    let count : length tasks ≡ length app.tasks = length-map app.tasks (λ (t : TaskData). t.ram) in
    let size : length sizes ≡ length app.regions = length-map app.regions (λ (r : RegionData). r.size) in
    let below : length app.tasks + k < length (ram_wanted app) = omega (arith, lt, length-append tasks sizes, count, size) in
    get_or-map rounded (ram_wanted app) (length app.tasks + k) 0 0 below
    ∙ ap rounded (ap (λ (n : ℕ). get_or (tasks ++ sizes) (n + k) 0) (sym count) ∙ get_or-append-add tasks sizes k 0 ∙ get_or-map (λ (r : RegionData). r.size) app.regions k no_region 0 lt)

pub ram_count : (app : AppData) → length (ram_sizes app) ≡ length app.tasks + length app.regions
ram_count app =
    let tasks = map (λ (t : TaskData). t.ram) app.tasks in
    let sizes = map (λ (r : RegionData). r.size) app.regions in
    omega (
      arith,
      length-map (ram_wanted app) rounded,
      length-append tasks sizes,
      length-map app.tasks (λ (t : TaskData). t.ram),
      length-map app.regions (λ (r : RegionData). r.size),
    )

lies_named : (app : AppData) (write : Bool) (name : Text) → IsKnown app name → Lies app (spot_of app name) (region_record (named app write name))
lies_named app write name known = elim (cases_Bool (has_region name app.regions)) [
  | inl is ↦
      let f = found (λ (r : RegionData). r.name) 0 name app.regions is in
      let below : index_of_region app name < length app.regions = omega (arith, f.1, f.2) in
      rw is (in_ram_named (index_of_region app name) below write)
  | inr other ↦
      let is : has_device name app.devices ≡ true = either_known (has_region name app.regions) (has_device name app.devices) known other in
      let f = found (λ (d : DeviceData). d.name) 0 name app.devices is in
      let below : index_of name (map (λ d. d.name) app.devices) < length app.devices = omega (arith, f.1, f.2) in
      rw other (at_device_named (index_of name (map (λ d. d.name) app.devices)) below write)
]
  where
    in_ram_named : (k : ℕ) → k < length app.regions → (write : Bool)
        → Lies app (in_ram (length app.tasks + k)) (region_record (memory (region_base app k) (rounded (get_or app.regions k no_region).size) write false))
    in_ram_named k lt true = record { spot = omega (arith, lt, ram_count app); base = refl; size = sym (region_size app k lt); rights = inr refl }
    in_ram_named k lt false = record { spot = omega (arith, lt, ram_count app); base = refl; size = sym (region_size app k lt); rights = inl refl }

    at_device_named : (d : ℕ) → d < length app.devices → (write : Bool) → Lies app (at_device d) (region_record (device (get_or app.devices d no_device) write))
    at_device_named d lt true = record { spot = lt; base = refl; size = refl; rights = inr refl }
    at_device_named d lt false = record { spot = lt; base = refl; size = refl; rights = inl refl }

-- ---- a list of regions, each at a place

abbrev pub AllLie : AppData → List Spot → List RegionRecord → Type 0
AllLie app [] [] = ⊤
AllLie app [] (r ∷ rs) = ⊥
AllLie app (s ∷ ss) [] = ⊥
AllLie app (s ∷ ss) (r ∷ rs) = Lies app s r × AllLie app ss rs

lie_append : (app : AppData) (ps qs : List Spot) (rs es : List RegionRecord) → AllLie app ps rs → AllLie app qs es → AllLie app (ps ++ qs) (rs ++ es)
lie_append app [] qs [] es h g = g
lie_append app [] qs (r ∷ rs) es h g = absurd h
lie_append app (p ∷ ps) qs [] es h g = absurd h
lie_append app (p ∷ ps) qs (r ∷ rs) es h g = (h.0, lie_append app ps qs rs es h.1 g)

lie_named : (app : AppData) (write : Bool) (names : List Text) → Each (IsKnown app) names → AllLie app (map (spot_of app) names) (map region_record (map (named app write) names))
lie_named app write [] known = tt
lie_named app write (n ∷ names) known = (lies_named app write n known.0, lie_named app write names known.1)

abbrev pub own_spots : AppData → ℕ → TaskData → List Spot
own_spots app i t = in_flash i ∷ in_ram i ∷ (map (spot_of app) t.uses ++ map (spot_of app) t.reads)

pub lie_own : (app : AppData) (i : ℕ) (t : TaskData) → i < length app.tasks → get_or (flash_sizes app) i 0 ≡ rounded t.flash → get_or (ram_sizes app) i 0 ≡ rounded t.ram
    → Each (IsKnown app) t.uses → Each (IsKnown app) t.reads → AllLie app (own_spots app i t) (map region_record (task_regions app i t))
lie_own app i t lt flash ram uses reads =
    let all : map region_record (map (named app true) t.uses ++ map (named app false) t.reads) ≡ map region_record (map (named app true) t.uses) ++ map region_record (map (named app false) t.reads) =
    map-append region_record (map (named app true) t.uses) (map (named app false) t.reads) in
    let rest = subst (AllLie app (map (spot_of app) t.uses ++ map (spot_of app) t.reads)) (sym all)
    (lie_append app (map (spot_of app) t.uses) (map (spot_of app) t.reads) (map region_record (map (named app true) t.uses)) (map region_record (map (named app false) t.reads))
    (lie_named app true t.uses uses) (lie_named app false t.reads reads)) in
    let code : Lies app (in_flash i) (region_record (memory (flash_base app i) (rounded t.flash) false true)) =
    record { spot = omega (arith, lt, flash_count app); base = refl; size = sym flash; rights = refl } in
    let stack : Lies app (in_ram i) (region_record (memory (ram_base app i) (rounded t.ram) true false)) =
    record { spot = omega (arith, lt, ram_count app); base = refl; size = sym ram; rights = inr refl } in
    (code, (stack, rest))

-- ---- different places

abbrev pub Differ : Spot → Spot → Type 0
Differ p q = p ≡ q → ⊥

pub each_from : {T : Type 0} (P : T → Type 0) (d : T) (xs : List T) → ((i : ℕ) → i < length xs → P (get_or xs i d)) → Each P xs
each_from P d [] h = tt
each_from P d (x ∷ xs) h = (h 0 (omega arith), each_from P d xs (λ i lt. h (suc i) (omega (arith, lt))))

pub pairs_from : {T : Type 0} (R : T → T → Type 0) (d : T) (xs : List T) → AllPairs R xs → Pairs R xs
pairs_from R d [] h = tt
pairs_from R d (x ∷ xs) h = (
  each_from (R x) d xs (λ j lt. h 0 (suc j) d (omega arith) (omega (arith, lt))),
  pairs_from R d xs (λ i j e lt within. h (suc i) (suc j) e (omega (arith, lt)) (omega (arith, within))),
)

pairs_append : {T : Type 0} (R : T → T → Type 0) (xs ys : List T) → Pairs R xs → Pairs R ys → Each (λ x. Each (R x) ys) xs → Pairs R (xs ++ ys)
pairs_append R [] ys h g across = g
pairs_append R (x ∷ xs) ys h g across = (each_append (R x) xs ys h.0 across.0, pairs_append R xs ys h.1 g across.1)

each_differ : (app : AppData) (m : Text) (names : List Text) → IsKnown app m → Each (IsKnown app) names → Each (λ n. m ≢ n) names
    → Each (Differ (spot_of app m)) (map (spot_of app) names)
each_differ app m [] known all other = tt
each_differ app m (n ∷ names) known all other = (other_spots app m n known all.0 other.0, each_differ app m names known all.1 other.1)

pairs_differ : (app : AppData) (names : List Text) → Each (IsKnown app) names → Pairs (λ m n. m ≢ n) names → Pairs Differ (map (spot_of app) names)
pairs_differ app [] known h = tt
pairs_differ app (n ∷ names) known h = (each_differ app n names known.0 known.1 h.0, pairs_differ app names known.1 h.1)

across_differ : (app : AppData) (ms ns : List Text) → Each (IsKnown app) ms → Each (IsKnown app) ns → Each (λ m. Each (λ n. m ≢ n) ns) ms
    → Each (λ s. Each (Differ s) (map (spot_of app) ns)) (map (spot_of app) ms)
across_differ app [] ns km kn other = tt
across_differ app (m ∷ ms) ns km kn other = (each_differ app m ns km.0 kn other.0, across_differ app ms ns km.1 kn other.1)

across_from : (ms ns : List Text) → AreApart ms ns → Each (λ m. Each (λ n. m ≢ n) ns) ms
across_from ms ns apart = each_from (λ m. Each (λ n. m ≢ n) ns) [] ms (λ i lt. each_from (λ n. get_or ms i [] ≢ n) [] ns (λ j below. apart j [] below i [] lt))

each_named : (app : AppData) (P : Spot → Type 0) → ((n : Text) → P (spot_of app n)) → (names : List Text) → Each P (map (spot_of app) names)
each_named app P fact [] = tt
each_named app P fact (n ∷ names) = (fact n, each_named app P fact names)

pub own_differ : (app : AppData) (i : ℕ) (t : TaskData) → i < length app.tasks → HasOwnNames t → Each (IsKnown app) t.uses → Each (IsKnown app) t.reads
    → Pairs Differ (own_spots app i t)
own_differ app i t lt own uses reads =
    let used = map (spot_of app) t.uses in
    let read = map (spot_of app) t.reads in
    let code = each_append (Differ (in_flash i)) used read (each_named app (Differ (in_flash i)) (no_flash app i) t.uses) (each_named app (Differ (in_flash i)) (no_flash app i) t.reads) in
    let own_ram = each_append (Differ (in_ram i)) used read (each_named app (Differ (in_ram i)) (λ n. no_ram app i n lt) t.uses) (each_named app (Differ (in_ram i)) (λ n. no_ram app i n lt) t.reads) in
    let rest = pairs_append Differ used read (pairs_differ app t.uses uses (pairs_from (λ m n. m ≢ n) [] t.uses own.uses))
    (pairs_differ app t.reads reads (pairs_from (λ m n. m ≢ n) [] t.reads own.reads)) (across_differ app t.uses t.reads uses reads (across_from t.uses t.reads own.apart)) in
    ((λ e. cc, code), (own_ram, rest))

-- ---- the regions of the i-th task

pub uses_all : (app : AppData) → IsAccepted app → (i : ℕ) → i < length app.tasks → Each (IsKnown app) (task_at app i).uses
uses_all app a i lt = each_from (IsKnown app) [] (task_at app i).uses (used_known app a i lt)

pub reads_all : (app : AppData) → IsAccepted app → (i : ℕ) → i < length app.tasks → Each (IsKnown app) (task_at app i).reads
reads_all app a i lt = each_from (IsKnown app) [] (task_at app i).reads (read_known app a i lt)

-- ---- the interrupts

abbrev pub no_interrupt : InterruptData
no_interrupt = record { line = 0; task = []; notification = []; device = None }

pub owned_all : (app : AppData) → IsAccepted app → Each (IsOwned app) app.interrupts
owned_all app a = each_from (IsOwned app) no_interrupt app.interrupts (λ k lt. owned app a k no_interrupt lt)
