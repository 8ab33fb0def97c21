-- The tasks that are built: each is one that no step refuses.
use Rattle.std.proofs.Common.{◌≡◌, ◌∙◌, ℕ, zero, suc, Bool, true, false, ◌+◌, ◌%◌, ◌≤◌, ◌<◌, List, [], ◌∷◌, length, get_or, map, length-append, refl, ap, subst, arith}
use Rattle.std.proofs.lemmas.List.{get_or-map, length-map}
use Rattle.app_toml.specs.Accepted.{IsAccepted}
use Rattle.app_toml.specs.Apps.{AppData, TaskData}
use Rattle.app_toml.specs.Relations.{Relations}
use Rattle.image_format.specs.ImageData.{ImageTask, bit, task_record}
use Rattle.image_build.specs.Building.{IsLaid}
use Rattle.image_build.specs.Built.{task_built, tasks_from}
use Rattle.image_build.specs.Layout.{flash_base, named, no_task, ram_base, task_at, task_regions}
use Rattle.image_build.specs.declared.layout.Layout.{Layout}
use Rattle.image_build.proofs.Known.{few_notes, few_regions}
use Rattle.image_build.proofs.Naming.{ram_count, ram_size}
use Rattle.image_build.proofs.Planning.{flash_count, flash_size}
use Rattle.image_build.proofs.Rounding.{fours}
use Rattle.image_build.proofs.Walking.{Each, IsGood, blank}

abbrev pub no_built : ImageTask
no_built = record { priority = 0; started = false; entry = 0; sp = 0; regions = []; names = [] }

pub at_zero : (P : ℕ → Type 0) (i : ℕ) → P i → P (0 + i)
at_zero P i h = let e : i ≡ 0 + i = omega arith in subst P e h

-- ---- the tasks that are built

pub each_built : (app : AppData) (P : ImageTask → Type 0) (k : ℕ) (ts : List TaskData) → ((i : ℕ) → i < length ts → P (task_built app (k + i) (get_or ts i no_task)))
    → Each P (tasks_from app k ts)
each_built app P k [] h = tt
each_built app P k (t ∷ ts) h =
    let here : k + 0 ≡ k = omega arith in (
      subst (λ (n : ℕ). P (task_built app n t)) here (h 0 (omega arith)),
      each_built app P (k + 1) ts (λ i lt. let next : k + suc i ≡ (k + 1) + i = omega arith in
          subst (λ (n : ℕ). P (task_built app n (get_or ts i no_task))) next (h (suc i) (omega (arith, lt)))),
    )

pub built_count : (app : AppData) (k : ℕ) (ts : List TaskData) → length (tasks_from app k ts) ≡ length ts
built_count app k [] = refl
built_count app k (t ∷ ts) = omega (arith, built_count app (k + 1) ts)

pub task_built_at : (app : AppData) (k : ℕ) (ts : List TaskData) (i : ℕ) (d : ImageTask) → i < length ts
    → get_or (tasks_from app k ts) i d ≡ task_built app (k + i) (get_or ts i no_task)
task_built_at app k [] i d lt = absurd (omega (arith, lt))
task_built_at app k (t ∷ ts) zero d lt = let here : k ≡ k + 0 = omega arith in ap (λ (n : ℕ). task_built app n t) here
task_built_at app k (t ∷ ts) (suc i) d lt =
    let next : (k + 1) + i ≡ k + suc i = omega arith in
    task_built_at app (k + 1) ts i d (omega (arith, lt)) ∙ ap (λ (n : ℕ). task_built app n (get_or ts i no_task)) next

pub built_at : (app : AppData) (k : ℕ) (ts : List TaskData) (i : ℕ) → i < length ts
    → get_or (map task_record (tasks_from app k ts)) i blank ≡ task_record (task_built app (k + i) (get_or ts i no_task))
built_at app k ts i lt =
    get_or-map task_record (tasks_from app k ts) i no_built blank (omega (arith, lt, built_count app k ts)) ∙ ap task_record (task_built_at app k ts i no_built lt)

pub region_count : (app : AppData) (i : ℕ) (t : TaskData) → length (task_regions app i t) ≡ 2 + length t.uses + length t.reads
region_count app i t = omega (
  arith,
  length-append (map (named app true) t.uses) (map (named app false) t.reads),
  length-map t.uses (named app true),
  length-map t.reads (named app false),
)

-- ---- each task

low_bit : (b : Bool) → bit b 1 ≤ 1
low_bit true = omega arith
low_bit false = omega arith

pub flash_fours : (app : AppData) (layout : Layout) → IsLaid app layout → (i : ℕ) → i < length app.tasks → flash_base app i % 4 ≡ 0
flash_fours app layout l i lt =
    fours (flash_base app i) (task_at app i).flash
    (subst (λ (n : ℕ). flash_base app i % n ≡ 0) (flash_size app i lt) (l.flash.whole i (omega (arith, lt, flash_count app))))

ram_fours : (app : AppData) (layout : Layout) → IsLaid app layout → (i : ℕ) → i < length app.tasks → ram_base app i % 4 ≡ 0
ram_fours app layout l i lt =
    fours (ram_base app i) (task_at app i).ram
    (subst (λ (n : ℕ). ram_base app i % n ≡ 0) (ram_size app i lt) (l.ram.whole i (omega (arith, lt, ram_count app))))

stack_fours : (base stack : ℕ) → base % 4 ≡ 0 → stack % 8 ≡ 0 → (base + stack) % 4 ≡ 0
stack_fours base stack b s = omega (arith, b, s)

pub good_task : (app : AppData) (layout : Layout) → IsLaid app layout → IsAccepted app → Relations app → (i : ℕ) → i < length app.tasks
    → IsGood i (task_record (task_built app i (task_at app i)))
good_task app layout l a r i lt =
    let t = task_at app i in
    record {
      first_priority = λ e. ap (λ (n : ℕ). (task_at app n).priority) e ∙ r.starts.supervisor;
      first_flags = λ e. ap (λ (b : Bool). bit b 1) (ap (λ (n : ℕ). (task_at app n).start) e ∙ r.starts.supervisor_started);
      priority = λ more. r.starts.priorities i more lt;
      flags = low_bit t.start;
      some = omega (arith, region_count app i t);
      most = omega (arith, region_count app i t, few_regions app a i lt);
      names = few_notes app a i lt;
      stack = stack_fours (ram_base app i) t.stack (ram_fours app layout l i lt) (r.starts.stacks i no_task lt);
    }
