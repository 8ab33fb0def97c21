-- Names that are kept in the order of their bytes.
use Rattle.std.specs.Prelude.{◌≡◌, ◌||◌, Bool, Option, Some, None, String, false, true}
use Rattle.std.specs.BTreeMap.{BTreeMap, get_by_text}
use Rattle.std.specs.BTreeSet.{BTreeSet, contains_text}
use Rattle.app_toml.specs.Apps.{DeviceData, RegionData, TaskData}
use Rattle.app_toml.specs.Crossed.{areas_of, has_device, has_region, has_task, is_among, notifications_of}
use Rattle.app_toml.specs.Places.{Text}
use Rattle.app_toml.specs.declared.known.KeptTask.{KeptTask}
use mathlib.Core.List.{List}

-- a set has just the names that pass
abbrev pub HasJust : {A : Type 0} → BTreeSet (String A) → (Text → Bool) → Type 0
HasJust known test = (name : Text) → contains_text known name ≡ test name

-- a set has just the names of regions and devices
abbrev pub NamesAreas : {A : Type 0} → BTreeSet (String A) → List RegionData → List DeviceData → Type 0
NamesAreas known regions devices = HasJust known (λ name. has_region name regions || has_device name devices)

-- what is kept of a task is just these notifications, and these regions and devices
pub record KeepsNames (kept : KeptTask) (bits names : List Text) : Type 0 where
  pub notifications : HasJust kept.notifications (λ bit. is_among bit bits)
  pub areas : HasJust kept.areas (λ name. is_among name names)

-- what is kept under a name: that of the first task that has it, and nothing where none has
abbrev pub IsKept : Option KeptTask → Text → List TaskData → Type 0
IsKept None name tasks = has_task name tasks ≡ false
IsKept (Some kept) name tasks =
    (has_task name tasks ≡ true) × KeepsNames kept (notifications_of name tasks) (areas_of name tasks)

-- a map has just the tasks' names, each with what is kept of the first task that has it
abbrev pub Keeps : {A : Type 0} → BTreeMap (String A) KeptTask → List TaskData → Type 0
Keeps kept tasks = (name : Text) → IsKept (get_by_text kept name) name tasks
