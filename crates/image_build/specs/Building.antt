-- Why there is no image, and how far a builder has come.
use Rattle.std.specs.Prelude.{ℕ, ⊤, ◌+◌, ◌-◌, ◌^◌, ◌≤◌, ◌<◌, ◌≡◌, ◌%◌, List, true, ◌||◌, Option, Some, IfSome, length, min, slice_index}
use Rattle.app_toml.specs.Apps.{AppData, InterruptData}
use Rattle.app_toml.specs.Crossed.{has_device, has_region, has_task, is_among, is_device_of, notifications_of}
use Rattle.app_toml.specs.Places.{Text}
use Rattle.mem_plan.specs.Placing.{placed}
use Rattle.mem_plan.specs.Sizes.{rounded, total}
use Rattle.text_lines.specs.Text.{lines_of}
use Rattle.thumb_asm.specs.Causes.{cause_number, first_cause}
use Rattle.thumb_asm.specs.Assembly.{Assembles}
use Rattle.thumb_asm.specs.Meaning.{Env}
use Rattle.thumb_asm.specs.declared.Cause.{Cause}
use Rattle.image_build.specs.Built.{HasProgram, flash_byte, given, source_at}
use Rattle.image_build.specs.Layout.{flash_base, flash_needed, flash_sizes, ram_needed, ram_sizes, task_at}
use Rattle.image_build.specs.declared.layout.Layout.{Layout}
use Rattle.image_build.specs.declared.fault.BuildFault.{BuildFault}
use Rattle.image_build.specs.declared.fault.BuildFault.TheVariants as fault

-- ---- the plan

-- the board has room for the application
pub record HasRoom (app : AppData) : Type 0 where
  pub flash : flash_needed app ≤ app.flash
  pub ram : ram_needed app ≤ app.ram

-- the flash that is lacking; the RAM that is lacking
abbrev pub LacksFlash : AppData → BuildFault → Type 0
LacksFlash app (fault.Flash needed) = (app.flash < flash_needed app) × (needed ≡ min (flash_needed app) (2 ^ 64 - 1))
LacksFlash app fault.Memory = ⊤
LacksFlash app _ = ⊥

abbrev pub LacksRam : AppData → BuildFault → Type 0
LacksRam app (fault.Ram needed) = (app.ram < ram_needed app) × (needed ≡ min (ram_needed app) (2 ^ 64 - 1))
LacksRam app fault.Memory = ⊤
LacksRam app _ = ⊥

-- why the board has no room: the flash comes first
abbrev pub LacksRoom : AppData → BuildFault → Type 0
LacksRoom app (fault.Flash needed) = (app.flash < flash_needed app) × (needed ≡ min (flash_needed app) (2 ^ 64 - 1))
LacksRoom app (fault.Ram needed) = (flash_needed app ≤ app.flash) × (app.ram < ram_needed app)
    × (needed ≡ min (ram_needed app) (2 ^ 64 - 1))
LacksRoom app (fault.Source task cause line) = ⊥
LacksRoom app (fault.Code task length) = ⊥
LacksRoom app fault.Memory = ⊤

-- ---- one source

-- the cause of the assembler, and its line
abbrev pub source_cause : AppData → ℕ → List ℕ → Option (Cause × ℕ)
source_cause app i source = first_cause (lines_of source) (flash_base app i) (given app i)

-- the i-th task's source is assembled to this code and these labels
abbrev pub IsAssembled : AppData → ℕ → List ℕ → List ℕ → Env → Type 0
IsAssembled app i source code labels = Assembles (lines_of source) (flash_base app i) (given app i) code labels

-- it is assembled, and its bytes fit the task's flash
pub record IsAcceptedSource (app : AppData) (i : ℕ) (source : List ℕ) : Type 0 where
  pub code : List ℕ
  pub labels : Env
  pub assembled : IsAssembled app i source code labels
  pub fits : length code ≤ (task_at app i).flash

-- it is assembled to this many bytes, which are too many
pub record IsTooLong (app : AppData) (i : ℕ) (source : List ℕ) (bytes : ℕ) : Type 0 where
  pub code : List ℕ
  pub labels : Env
  pub assembled : IsAssembled app i source code labels
  pub is : bytes ≡ length code
  pub above : (task_at app i).flash < length code

-- why the i-th task's source is refused: a cause of the assembler first
abbrev pub RefusesSource : AppData → ℕ → List ℕ → BuildFault → Type 0
RefusesSource app i source (fault.Flash needed) = ⊥
RefusesSource app i source (fault.Ram needed) = ⊥
RefusesSource app i source (fault.Source task cause line) = (task ≡ i)
    × (c : Cause) × (source_cause app i source ≡ Some (c, line)) × (cause ≡ cause_number c)
RefusesSource app i source (fault.Code task bytes) = (task ≡ i) × IsTooLong app i source bytes
RefusesSource app i source fault.Memory = ⊤

-- ---- all of them

abbrev pub AcceptsBelow : AppData → List (List ℕ) → ℕ → Type 0
AcceptsBelow app sources n = (i : ℕ) → i < n → IsAcceptedSource app i (source_at sources i)

-- nothing is refused
pub record IsAccepted (app : AppData) (sources : List (List ℕ)) : Type 0 where
  pub room : HasRoom app
  pub accepted : AcceptsBelow app sources (length app.tasks)

-- the first refusal: of the plan, or of the first task whose source is refused
abbrev pub Refuses : AppData → List (List ℕ) → BuildFault → Type 0
Refuses app sources fault.Memory = ⊤
Refuses app sources (fault.Flash needed) = LacksRoom app (fault.Flash needed)
Refuses app sources (fault.Ram needed) = LacksRoom app (fault.Ram needed)
Refuses app sources f = HasRoom app × ((i : ℕ) × (i < length app.tasks) × AcceptsBelow app sources i
    × RefusesSource app i (source_at sources i) f)

-- ---- on the way

-- These are the bases of regions of these sizes, each where it is placed. They lie in the bytes from the
-- base on that they need, at multiples of their sizes, and no two of them meet.
pub record IsPlanned (base : ℕ) (sizes bases : List ℕ) : Type 0 where
  pub count : length bases ≡ length sizes
  pub at : (i : ℕ) → i < length sizes → slice_index bases i ≡ placed base sizes i
  pub low : (i : ℕ) → i < length sizes → base ≤ placed base sizes i
  pub high : (i : ℕ) → i < length sizes → placed base sizes i + slice_index sizes i ≤ base + total sizes
  pub whole : (i : ℕ) → i < length sizes → placed base sizes i % slice_index sizes i ≡ 0
  pub apart : (i j : ℕ) → i < length sizes → j < length sizes → (i ≡ j → ⊥)
      → placed base sizes i < placed base sizes j + slice_index sizes j
      → placed base sizes j < placed base sizes i + slice_index sizes i → ⊥

-- the application's memory is laid out so, and there is room for it
pub record IsLaid (app : AppData) (layout : Layout) : Type 0 where
  pub flash : IsPlanned 0x08000000 (flash_sizes app) layout.flash.items
  pub flash_length : layout.flash_length ≡ flash_needed app
  pub ram : IsPlanned 0x20000000 (ram_sizes app) layout.ram.items
  pub ram_length : layout.ram_length ≡ ram_needed app
  pub room : HasRoom app

-- the flash after the first sources have been accepted: their bytes, and zeros for the other tasks
pub record Holds (app : AppData) (sources : List (List ℕ)) (flash : List ℕ) : Type 0 where
  pub length_of_flash : length flash ≡ flash_needed app
  pub programs : (i : ℕ) → i < length sources → HasProgram app i (source_at sources i) flash
  pub accepted : AcceptsBelow app sources (length sources)
  pub zeros : (i k : ℕ) → length sources ≤ i → i < length app.tasks → k < rounded (task_at app i).flash
      → flash_byte app i flash k ≡ 0

-- a region or a device has this name
abbrev pub IsKnown : AppData → Text → Type 0
IsKnown app name = (has_region name app.regions || has_device name app.devices) ≡ true

-- a task has the interrupt's owner's name, a notification of it the interrupt's, and the device that drives the line
-- is one of its own
pub record IsOwned (app : AppData) (i : InterruptData) : Type 0 where
  pub owner : has_task i.task app.tasks ≡ true
  pub bit : is_among i.notification (notifications_of i.task app.tasks) ≡ true
  pub device : IfSome i.device (λ name. is_device_of app.tasks app.devices i.task name ≡ true)
