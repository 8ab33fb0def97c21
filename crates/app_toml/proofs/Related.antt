-- How the tables stand to one another where no cause of 7 to 20 holds.
use Rattle.std.proofs.Common.{◌≡◌, ◌≢◌, ◌<◌, ◌≤◌, ◌+◌, ◌%◌, ◌==◌, ◌||◌, ◌&&◌, ◌⊎◌, not, ℕ, suc, List, [], ◌∷◌, ◌++◌, length, get_or, Bool, true, false, nat_lt, nat_le, Option, None, Some, refl, arith, inl, inr, cond, eq-eqb}
use Rattle.std.specs.Prelude.{All, Any, Contains, IfSome, codes}
use Rattle.std.specs.List.{list_any}
use Rattle.std.specs.Str.{bytes_eq}
use Rattle.std.proofs.lemmas.Bool.{cases_Bool, eqb-true, leb-true, ltb-false, or_parts, and_parts, not-false}
use Rattle.std.proofs.lemmas.Bool.Decides.{nat_tests}
use Rattle.std.proofs.lemmas.List.Elements.{Contains-append_cases}
use Rattle.std.proofs.lemmas.List.Folds.{Any-from_list_any}
use Rattle.app_toml.specs.Apps.{AppData, DeviceData, InterruptData, RegionData, TaskData}
use Rattle.region_check.specs.Sizes.{is_size}
use Rattle.app_toml.specs.Crossed.{areas_of, bad_device, bad_stack, count_fault, cross_fault, device_site, device_twice, entries_twice, entry_twice, has_device, has_region, has_task, interrupt_site, is_among, is_bad_stack, is_device_of, is_placed, is_wrong, line_fault, line_twice, meets, name_twice, notification_count, notifications_of, overlap, region_count, region_site, region_twice, start_fault, supervisor_stopped, task_count, task_site, task_twice, unknown_bit, unknown_device, unknown_entry, unknown_fault_bit, unknown_line_device, unknown_name, unknown_owner, unknown_region, wrong_priority}
use Rattle.app_toml.specs.Places.{Site, Text, at_entry, at_key, first_clash, first_fault, head_site, index_site, refuse_if}
use Rattle.app_toml.specs.Relations.{AreApart, AreDistinct, HasCounts, HasDevices, HasNames, HasOwnNames, HasReferences, HasStarts, IsBeside, IsLineDevice, IsPlaced, NamesArea, Owns, Relations, no_task, task_in}
use Rattle.app_toml.proofs.Passed.{both_none, not_refused}
use Rattle.app_toml.proofs.Walks.{all_clear, all_fail, any_weaker, contained, differs, each_clear, each_fine, fault_in, same_text}

-- ---- names

not_among : (name : Text) (names : List Text) → is_among name names ≡ false → All (λ n. n ≢ name) names
not_among name names e = all_fail (λ n. bytes_eq n name) (λ n. n ≢ name) (λ n. differs n name) names e

entry_clear : (earlier : List Text) (site : Site) (before : List Text) (j : ℕ) (name : Text) → entry_twice earlier site before j name ≡ None
    → (is_among name earlier ≡ false) × (is_among name before ≡ false)
entry_clear earlier site before j name e =
    or_parts (is_among name earlier) (is_among name before) (not_refused (is_among name earlier || is_among name before) 7 (at_entry j site) e)

distinct : (earlier : List Text) (site : Site) (names : List Text) → entries_twice earlier site names ≡ None → AreDistinct names
distinct earlier site names e = all_clear (entry_twice earlier site) (λ m n. m ≢ n)
    (λ before k name none. not_among name before (entry_clear earlier site before k name none).1) names e

apart : (earlier : List Text) (site : Site) (names : List Text) → entries_twice earlier site names ≡ None → AreApart earlier names
apart earlier site names e = each_clear (entry_twice earlier site) (λ n. All (λ m. m ≢ n) earlier)
    (λ before k name none. not_among name earlier (entry_clear earlier site before k name none).0) [] 0 names e

task_clear : (before : List TaskData) (k : ℕ) (t : TaskData) → task_twice before k t ≡ None → All (λ b. b.name ≢ t.name) before
task_clear before k t e =
    let test = not_refused (has_task t.name before) 7 (task_site k (codes "name")) (both_none (refuse_if (has_task t.name before) 7 (task_site k (codes "name"))) _ e).0 in
    all_fail (λ b. bytes_eq b.name t.name) (λ b. b.name ≢ t.name) (λ b. differs b.name t.name) before test

own_clear : (before : List TaskData) (k : ℕ) (t : TaskData) → task_twice before k t ≡ None → HasOwnNames t
own_clear before k t e =
    let after = both_none (refuse_if (has_task t.name before) 7 (task_site k (codes "name"))) _ e in
    let bits = both_none (entries_twice [] (task_site k (codes "notifications")) t.notifications) _ after.1 in
    let rest = both_none (entries_twice [] (task_site k (codes "uses")) t.uses) _ bits.1 in
    record {
      notifications = distinct [] (task_site k (codes "notifications")) t.notifications bits.0;
      uses = distinct [] (task_site k (codes "uses")) t.uses rest.0;
      reads = distinct t.uses (task_site k (codes "reads")) t.reads rest.1;
      apart = apart t.uses (task_site k (codes "reads")) t.reads rest.1;
    }

region_clear : (before : List RegionData) (k : ℕ) (r : RegionData) → region_twice before k r ≡ None → All (λ b. b.name ≢ r.name) before
region_clear before k r e =
    all_fail (λ b. bytes_eq b.name r.name) (λ b. b.name ≢ r.name) (λ b. differs b.name r.name) before
    (not_refused (has_region r.name before) 7 (region_site k (codes "name")) e)

device_names : (regions : List RegionData) (before : List DeviceData) (k : ℕ) (d : DeviceData) → device_twice regions before k d ≡ None
    → (has_region d.name regions ≡ false) × (has_device d.name before ≡ false)
device_names regions before k d e =
    or_parts (has_region d.name regions) (has_device d.name before)
    (not_refused (has_region d.name regions || has_device d.name before) 7 (device_site k (codes "name")) e)

device_clear : (regions : List RegionData) (before : List DeviceData) (k : ℕ) (d : DeviceData) → device_twice regions before k d ≡ None
    → All (λ b. b.name ≢ d.name) before
device_clear regions before k d e =
    all_fail (λ b. bytes_eq b.name d.name) (λ b. b.name ≢ d.name) (λ b. differs b.name d.name) before (device_names regions before k d e).1

device_apart : (regions : List RegionData) (before : List DeviceData) (k : ℕ) (d : DeviceData) → device_twice regions before k d ≡ None
    → All (λ r. r.name ≢ d.name) regions
device_apart regions before k d e =
    all_fail (λ r. bytes_eq r.name d.name) (λ r. r.name ≢ d.name) (λ r. differs r.name d.name) regions (device_names regions before k d e).0

has_names : (app : AppData) → name_twice app ≡ None → HasNames app
has_names app e =
    let tasks = both_none (first_clash task_twice [] 0 app.tasks) _ e in
    let rest = both_none (first_clash region_twice [] 0 app.regions) _ tasks.1 in
    record {
      tasks = all_clear task_twice (λ s t. s.name ≢ t.name) task_clear app.tasks tasks.0;
      own = each_clear task_twice HasOwnNames own_clear [] 0 app.tasks tasks.0;
      regions = all_clear region_twice (λ r s. r.name ≢ s.name) region_clear app.regions rest.0;
      devices = all_clear (device_twice app.regions) (λ d e. d.name ≢ e.name) (device_clear app.regions) app.devices rest.1;
      apart = each_clear (device_twice app.regions) (λ d. All (λ r. r.name ≢ d.name) app.regions) (device_apart app.regions) [] 0 app.devices rest.1;
    }

-- ---- references

known : (test : Bool) (cause : ℕ) (site : Site) → refuse_if (not test) cause site ≡ None → test ≡ true
known test cause site e = not-false test (not_refused (not test) cause site e)

fault_known : (fault : Text) (tasks : List TaskData) → unknown_fault_bit fault tasks ≡ None → 1 ≤ length tasks
    → Contains (get_or tasks 0 no_task).notifications fault
fault_known fault [] e some = absurd (omega (arith, some))
fault_known fault (t ∷ ts) e some =
    contained fault t.notifications
    (known (is_among fault t.notifications) 9 (at_key (codes "fault") (head_site (codes "supervisor"))) e)

-- the task that is found first, and one of those after it
owner_step : (i : InterruptData) (t : TaskData) (ts : List TaskData) (same : Bool) → bytes_eq t.name i.task ≡ same
    → (is_among i.notification (notifications_of i.task ts) ≡ true → Any (Owns i) ts)
    → is_among i.notification (cond same t.notifications (notifications_of i.task ts)) ≡ true → Any (Owns i) (t ∷ ts)
owner_step i t ts true is later e =
    (0, t, omega arith, refl, (same_text t.name i.task is, contained i.notification t.notifications e))
owner_step i t ts false is later e = let a = later e in (suc a.0, a.1, omega (arith, a.2), a.3, a.4)

owner : (i : InterruptData) (ts : List TaskData) → is_among i.notification (notifications_of i.task ts) ≡ true → Any (Owns i) ts
owner i [] e = cc
owner i (t ∷ ts) e = owner_step i t ts (bytes_eq t.name i.task) refl (owner i ts) e

device_there : (name : Text) (devices : List DeviceData) → has_device name devices ≡ true → Any (λ d. d.name ≡ name) devices
device_there name devices e =
    any_weaker (λ d. bytes_eq d.name name ≡ true) (λ d. d.name ≡ name) (λ d. same_text d.name name) devices
    (Any-from_list_any (λ (d : DeviceData). bytes_eq d.name name) devices e)

area_cases : (app : AppData) (name : Text) (r d : Bool) → has_region name app.regions ≡ r → has_device name app.devices ≡ d
    → (r || d) ≡ true → NamesArea app name
area_cases app name true d er ed e =
    inl (any_weaker (λ r. bytes_eq r.name name ≡ true) (λ r. r.name ≡ name) (λ r. same_text r.name name) app.regions
    (Any-from_list_any (λ (r : RegionData). bytes_eq r.name name) app.regions er))
area_cases app name false true er ed e =
    inr (device_there name app.devices ed)
area_cases app name false false er ed e = cc

areas : (app : AppData) (site : Site) (names : List Text) → first_fault (unknown_entry app.regions app.devices site) 0 names ≡ None
    → All (NamesArea app) names
areas app site names e = each_fine (unknown_entry app.regions app.devices site) (NamesArea app)
    (λ j name none. area_cases app name (has_region name app.regions) (has_device name app.devices) refl refl
    (known (has_region name app.regions || has_device name app.devices) 10 (at_entry j site) none)) names e

uses_known : (app : AppData) (k : ℕ) (t : TaskData) → unknown_region app.regions app.devices k t ≡ None
    → All (NamesArea app) t.uses × All (NamesArea app) t.reads
uses_known app k t e =
    let parts = both_none (first_fault (unknown_entry app.regions app.devices (task_site k (codes "uses"))) 0 t.uses) _ e in
    (areas app (task_site k (codes "uses")) t.uses parts.0, areas app (task_site k (codes "reads")) t.reads parts.1)

-- a task of that name, which uses or reads what has the other
abbrev Drives : Text → Text → TaskData → Type 0
Drives task name t = (t.name ≡ task) × (Contains t.uses name ⊎ Contains t.reads name)

user_step : (task name : Text) (t : TaskData) (ts : List TaskData) (same : Bool) → bytes_eq t.name task ≡ same
    → (is_among name (areas_of task ts) ≡ true → Any (Drives task name) ts)
    → is_among name (cond same (t.uses ++ t.reads) (areas_of task ts)) ≡ true → Any (Drives task name) (t ∷ ts)
user_step task name t ts true is later e =
    (0, t, omega arith, refl, (same_text t.name task is, Contains-append_cases t.uses t.reads name (contained name (t.uses ++ t.reads) e)))
user_step task name t ts false is later e = let a = later e in (suc a.0, a.1, omega (arith, a.2), a.3, a.4)

user : (task name : Text) (ts : List TaskData) → is_among name (areas_of task ts) ≡ true → Any (Drives task name) ts
user task name [] e = cc
user task name (t ∷ ts) e = user_step task name t ts (bytes_eq t.name task) refl (user task name ts) e

line_device : (app : AppData) (k : ℕ) (i : InterruptData) (device : Option Text) → unknown_device app.tasks app.devices k i.task device ≡ None
    → IfSome device (IsLineDevice app i)
line_device app k i None e = tt
line_device app k i (Some name) e =
    let tests = and_parts (is_among name (areas_of i.task app.tasks)) (has_device name app.devices)
    (known (is_device_of app.tasks app.devices i.task name) 10 (interrupt_site k (codes "device")) e) in
    record {
      used = user i.task name app.tasks tests.0;
      there = device_there name app.devices tests.1;
    }

has_references : (app : AppData) → unknown_name app ≡ None → 1 ≤ length app.tasks → HasReferences app
has_references app e some =
    let owners = both_none (first_fault (unknown_owner app.tasks) 0 app.interrupts) _ e in
    let fault = both_none (unknown_fault_bit app.fault app.tasks) _ owners.1 in
    let bits = both_none (first_fault (unknown_bit app.tasks) 0 app.interrupts) _ fault.1 in
    let regions = both_none (first_fault (unknown_region app.regions app.devices) 0 app.tasks) _ bits.1 in
    record {
      fault = fault_known app.fault app.tasks fault.0 some;
      interrupts = each_fine (unknown_bit app.tasks) (λ i. Any (Owns i) app.tasks)
          (λ k i none. owner i app.tasks (known (is_among i.notification (notifications_of i.task app.tasks)) 9 (interrupt_site k (codes "notification")) none)) app.interrupts bits.0;
      devices = each_fine (unknown_line_device app.tasks app.devices) (λ i. IfSome i.device (IsLineDevice app i))
          (λ k i none. line_device app k i i.device none) app.interrupts regions.1;
      uses = each_fine (unknown_region app.regions app.devices) (λ t. All (NamesArea app) t.uses) (λ k t none. (uses_known app k t none).0) app.tasks regions.0;
      reads = each_fine (unknown_region app.regions app.devices) (λ t. All (NamesArea app) t.reads) (λ k t none. (uses_known app k t none).1) app.tasks regions.0;
    }

-- ---- numbers

pub not_zero : (n : ℕ) → (n == 0) ≡ false → 1 ≤ n
not_zero n e = grind (arith, nat_tests)

has_counts : (app : AppData) → count_fault app.tasks ≡ None → HasCounts app
has_counts app e =
    let count = both_none (task_count app.tasks) _ e in
    let two = both_none (refuse_if (nat_lt 512 (length app.tasks)) 11 (index_site (codes "task") 512)) _ count.0 in
    let each = both_none (first_fault notification_count 0 app.tasks) _ count.1 in
    record {
      some_task = not_zero (length app.tasks) (not_refused (length app.tasks == 0) 12 (head_site (codes "task")) two.1);
      most_tasks = ltb-false 512 (length app.tasks) (not_refused (nat_lt 512 (length app.tasks)) 11 (index_site (codes "task") 512) two.0);
      notifications = each_fine notification_count (λ t. length t.notifications ≤ 32)
          (λ k t none. ltb-false 32 (length t.notifications) (not_refused (nat_lt 32 (length t.notifications)) 13 (task_site k (codes "notifications")) none)) app.tasks each.0;
      regions = each_fine region_count (λ t. length t.uses + length t.reads ≤ 6)
          (λ k t none. ltb-false 6 (length t.uses + length t.reads) (not_refused (nat_lt 6 (length t.uses + length t.reads)) 14 (task_site k (codes "uses")) none)) app.tasks each.1;
    }

priority_cases : (first : Bool) (priority : ℕ) → cond first (not (priority == 0)) (priority == 0) ≡ false
    → (first ≡ true → priority ≡ 0) × (first ≡ false → 1 ≤ priority)
priority_cases true priority e = (λ same. eqb-true priority 0 (not-false (priority == 0) e), λ other. cc)
priority_cases false priority e = (λ same. cc, λ other. not_zero priority e)

pub above_zero : (k : ℕ) → 0 < k → (k == 0) ≡ false
above_zero k more = grind (arith, nat_tests)

right_priority : (k priority : ℕ) → is_wrong k priority ≡ false → (k ≡ 0 → priority ≡ 0) × (0 < k → 0 < priority)
right_priority k priority e =
    let cases = priority_cases (k == 0) priority e in
    (λ same. cases.0 (eq-eqb k 0 same), λ more. cases.1 (above_zero k more))

started : (tasks : List TaskData) → supervisor_stopped tasks ≡ None → 1 ≤ length tasks → (get_or tasks 0 no_task).start ≡ true
started [] e some = absurd (omega (arith, some))
started (t ∷ ts) e some = known t.start 16 (task_site 0 (codes "start")) e

good_stack : (k : ℕ) (t : TaskData) → bad_stack k t ≡ None → (t.stack ≤ t.ram) × (t.stack % 8 ≡ 0)
good_stack k t e =
    let tests = or_parts (nat_lt t.ram t.stack) (not (t.stack % 8 == 0)) (not_refused (is_bad_stack t.ram t.stack) 17 (task_site k (codes "stack")) e) in
    (ltb-false t.ram t.stack tests.0, eqb-true (t.stack % 8) 0 (not-false (t.stack % 8 == 0) tests.1))

has_starts : (app : AppData) → start_fault app.tasks ≡ None → 1 ≤ length app.tasks → HasStarts app
has_starts app e some =
    let parts = both_none (first_fault wrong_priority 0 app.tasks) _ e in
    let rest = both_none (supervisor_stopped app.tasks) _ parts.1 in
    let right = λ (i : ℕ) (lt : i < length app.tasks). right_priority i (task_in app i).priority
    (not_refused (is_wrong i (task_in app i).priority) 15 (task_site i (codes "priority")) (fault_in wrong_priority app.tasks parts.0 i no_task lt)) in
    record {
      supervisor = (right 0 some).0 refl;
      supervisor_started = started app.tasks rest.0 some;
      priorities = λ i more lt. (right i lt).1 more;
      within = each_fine bad_stack (λ t. t.stack ≤ t.ram) (λ k t none. (good_stack k t none).0) app.tasks rest.1;
      stacks = each_fine bad_stack (λ t. t.stack % 8 ≡ 0) (λ k t none. (good_stack k t none).1) app.tasks rest.1;
    }

-- ---- lines and devices

other : (m n : ℕ) → (m == n) ≡ false → m ≢ n
other m n e = grind (arith, nat_tests)

line_clear : (before : List InterruptData) (k : ℕ) (i : InterruptData) → line_twice before k i ≡ None → All (λ b. b.line ≢ i.line) before
line_clear before k i e =
    all_fail (λ b. b.line == i.line) (λ b. b.line ≢ i.line) (λ b. other b.line i.line) before
    (not_refused (list_any (λ b. b.line == i.line) before) 18 (interrupt_site k (codes "line")) e)

pub placed : (k : ℕ) (d : DeviceData) → bad_device k d ≡ None → IsPlaced d
placed k d e =
    let all = known (is_placed d) 19 (index_site (codes "device") k) e in
    let last = and_parts (is_size d.size && d.base % d.size == 0 && nat_le 0x40000000 d.base) (nat_le (d.base + d.size) 0x60000000) all in
    let first = and_parts (is_size d.size && d.base % d.size == 0) (nat_le 0x40000000 d.base) last.0 in
    let size = and_parts (is_size d.size) (d.base % d.size == 0) first.0 in
    record {
      size = size.0;
      base = eqb-true (d.base % d.size) 0 size.1;
      first = leb-true 0x40000000 d.base first.1;
      last = leb-true (d.base + d.size) 0x60000000 last.1;
    }

beside : (d e : DeviceData) → meets d e ≡ false → IsBeside e d
beside d e fails =
    elim (cases_Bool (nat_lt d.base (e.base + e.size))) [
      | inl first ↦ inr (ltb-false e.base (d.base + d.size) (rw first at fails))
      | inr apart ↦ inl (ltb-false d.base (e.base + e.size) apart)
    ]

overlap_clear : (before : List DeviceData) (k : ℕ) (d : DeviceData) → overlap before k d ≡ None → All (λ b. IsBeside b d) before
overlap_clear before k d e =
    all_fail (meets d) (λ b. IsBeside b d) (beside d) before
    (not_refused (list_any (meets d) before) 20 (index_site (codes "device") k) e)

has_devices : (app : AppData) → line_fault app ≡ None → HasDevices app
has_devices app e =
    let lines = both_none (first_clash line_twice [] 0 app.interrupts) _ e in
    let rest = both_none (first_fault bad_device 0 app.devices) _ lines.1 in
    record {
      placed = each_fine bad_device IsPlaced placed app.devices rest.0;
      apart = all_clear overlap IsBeside overlap_clear app.devices rest.1;
      lines = all_clear line_twice (λ i j. i.line ≢ j.line) line_clear app.interrupts lines.0;
    }

pub relations : (app : AppData) → cross_fault app ≡ None → Relations app
relations app e =
    let names = both_none (name_twice app) _ e in
    let references = both_none (unknown_name app) _ names.1 in
    let counts = both_none (count_fault app.tasks) _ references.1 in
    let starts = both_none (start_fault app.tasks) _ counts.1 in
    let count = has_counts app counts.0 in
    record {
      names = has_names app names.0;
      references = has_references app references.0 count.some_task;
      counts = count;
      starts = has_starts app starts.0 count.some_task;
      devices = has_devices app starts.1;
    }
