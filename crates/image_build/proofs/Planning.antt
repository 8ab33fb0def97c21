-- What a plan says of the bases that it gives.
use Rattle.std.proofs.Common.{◌≡◌, ◌∙◌, ℕ, ◌+◌, ◌*◌, ◌%◌, ◌≤◌, ◌<◌, ◌⊎◌, List, length, get_or, map, sym, ap, subst, arith, inl, inr}
use Rattle.std.proofs.Math.Nat.{mul-add-mod_self_left}
use Rattle.std.proofs.lemmas.List.{get_or-map, length-map}
use Rattle.std.proofs.lemmas.List.Elements.{All-append}
use Rattle.std.specs.List.{All}
use Rattle.app_toml.specs.Accepted.{IsAccepted}
use Rattle.app_toml.specs.Apps.{AppData, RegionData, TaskData}
use Rattle.mem_plan.specs.Placing.{IsAligned, IsPlan, KeepsApart, placed}
use Rattle.mem_plan.specs.Sizes.{rounded, total}
use Rattle.image_build.specs.Building.{IsLaid, IsPlanned}
use Rattle.image_build.specs.Layout.{flash_base, flash_needed, flash_sizes, flash_wanted, no_region, no_task, ram_wanted, task_at}
use Rattle.image_build.specs.declared.layout.Layout.{Layout}

whole_of : (x size k : ℕ) → x ≡ size * k → x % size ≡ 0
whole_of x size k e =
    let plain : size * k ≡ size * k + 0 = omega arith in
    ap (λ (n : ℕ). n % size) (e ∙ plain) ∙ mul-add-mod_self_left size k 0 ∙ zero_mod size
  where
    zero_mod : (n : ℕ) → 0 % n ≡ 0
    zero_mod n = omega arith

pub planned_of : (base : ℕ) (wanted bases : List ℕ) → length bases ≡ length wanted → IsPlan base (map rounded wanted) bases
    → IsAligned (map rounded wanted) bases → KeepsApart base (total (map rounded wanted)) (map rounded wanted) bases → IsPlanned base (map rounded wanted) bases
planned_of base wanted bases count at aligned apart =
    let sizes = map rounded wanted in
    record {
      count = count ∙ sym (length-map wanted rounded);
      at = at;
      low = λ i lt. omega (arith, at i lt, (apart.inside i lt).0);
      high = λ i lt. omega (arith, at i lt, (apart.inside i lt).1);
      whole = λ i lt. let m = aligned i lt in whole_of (placed base sizes i) (get_or sizes i 0) m.0 (sym (at i lt) ∙ m.1);
      apart = λ i j li lj other low high. meet i j (at i li) (at j lj) (apart.apart i j li lj other) low high;
    }
  where
    meet : (i j : ℕ) → get_or bases i 0 ≡ placed base (map rounded wanted) i → get_or bases j 0 ≡ placed base (map rounded wanted) j
        → (get_or bases i 0 + get_or (map rounded wanted) i 0 ≤ get_or bases j 0) ⊎ (get_or bases j 0 + get_or (map rounded wanted) j 0 ≤ get_or bases i 0)
        → placed base (map rounded wanted) i < placed base (map rounded wanted) j + get_or (map rounded wanted) j 0
        → placed base (map rounded wanted) j < placed base (map rounded wanted) i + get_or (map rounded wanted) i 0 → ⊥
    meet i j p q (inl h) low high = absurd (omega (arith, p, q, h, low, high))
    meet i j p q (inr h) low high = absurd (omega (arith, p, q, h, low, high))

-- ---- sizes

pub flash_size : (app : AppData) (i : ℕ) → i < length app.tasks → get_or (flash_sizes app) i 0 ≡ rounded (task_at app i).flash
flash_size app i lt =
    let below : i < length (flash_wanted app) = omega (arith, lt, length-map app.tasks (λ (t : TaskData). t.flash)) in
    get_or-map rounded (flash_wanted app) i 0 0 below ∙ ap rounded (get_or-map (λ (t : TaskData). t.flash) app.tasks i no_task 0 lt)

pub flash_count : (app : AppData) → length (flash_sizes app) ≡ length app.tasks
flash_count app = length-map (flash_wanted app) rounded ∙ length-map app.tasks (λ (t : TaskData). t.flash)

pub flash_end : (app : AppData) (layout : Layout) (i : ℕ) → IsLaid app layout → i < length app.tasks
    → flash_base app i + rounded (task_at app i).flash ≤ 0x08000000 + flash_needed app
flash_end app layout i l lt = omega (arith, l.flash.high i (omega (arith, lt, flash_count app)), flash_size app i lt)

pub flash_most : (app : AppData) (layout : Layout) → IsLaid app layout → IsAccepted app → flash_needed app ≤ 1048576
flash_most app layout l a = omega (arith, l.room.flash, a.flash.1)

-- ---- what is wanted

abbrev IsWanted : ℕ → Type 0
IsWanted s = (1 ≤ s) × (s ≤ 1048576)

small_enough : (s : ℕ) → (1 ≤ s) × (s ≤ 262144) → IsWanted s
small_enough s h = (h.0, omega (arith, h.1))

pub all_flash : (app : AppData) → IsAccepted app → All (λ s. (1 ≤ s) × (s ≤ 1048576)) (flash_wanted app)
all_flash app a k d lt =
    let below : k < length app.tasks = omega (arith, lt, length-map app.tasks (λ (t : TaskData). t.flash)) in
    subst IsWanted (sym (get_or-map (λ (t : TaskData). t.flash) app.tasks k no_task d below)) (a.tasks k no_task below).flash

pub all_ram : (app : AppData) → IsAccepted app → All (λ s. (1 ≤ s) × (s ≤ 1048576)) (ram_wanted app)
all_ram app a = All-append IsWanted (map (λ (t : TaskData). t.ram) app.tasks) (map (λ (r : RegionData). r.size) app.regions) tasks regions
  where
    tasks : All IsWanted (map (λ (t : TaskData). t.ram) app.tasks)
    tasks k d lt =
        let below : k < length app.tasks = omega (arith, lt, length-map app.tasks (λ (t : TaskData). t.ram)) in
        subst IsWanted (sym (get_or-map (λ (t : TaskData). t.ram) app.tasks k no_task d below)) (small_enough _ (a.tasks k no_task below).ram)

    regions : All IsWanted (map (λ (r : RegionData). r.size) app.regions)
    regions k d lt =
        let below : k < length app.regions = omega (arith, lt, length-map app.regions (λ (r : RegionData). r.size)) in
        subst IsWanted (sym (get_or-map (λ (r : RegionData). r.size) app.regions k no_region d below)) (small_enough _ (a.regions k no_region below).size)
