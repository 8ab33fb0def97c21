-- How the tables of every description that is read stand to one another.
use Rattle.std.specs.Prelude.{ℕ, ◌≡◌, ◌≢◌, ◌≤◌, ◌<◌, ◌+◌, ◌%◌, ◌⊎◌, List, [], true, false, IfSome, length, All, Any, AllPairs, Contains}
use Rattle.std.specs.List.{slice_index_or}
use Rattle.region_check.specs.Sizes.{is_size}
use Rattle.app_toml.specs.Apps.{AppData, DeviceData, InterruptData, TaskData}
use Rattle.app_toml.specs.Places.{Text}

abbrev pub no_task : TaskData
no_task = record {
  name = [];
  source = [];
  priority = 0;
  start = false;
  flash = 0;
  ram = 0;
  stack = 0;
  notifications = [];
  uses = [];
  reads = [];
}

-- the i-th task
abbrev pub task_in : AppData → ℕ → TaskData
task_in app i = slice_index_or app.tasks i no_task

-- ---- names

-- no two of the names are the same
abbrev pub AreDistinct : List Text → Type 0
AreDistinct names = AllPairs (λ m n. m ≢ n) names

-- no name is in both lists
abbrev pub AreApart : List Text → List Text → Type 0
AreApart ms ns = All (λ n. All (λ m. m ≢ n) ms) ns

pub record HasOwnNames (t : TaskData) : Type 0 where
  pub notifications : AreDistinct t.notifications
  pub uses : AreDistinct t.uses
  pub reads : AreDistinct t.reads
  pub apart : AreApart t.uses t.reads

pub record HasNames (app : AppData) : Type 0 where
  pub tasks : AllPairs (λ s t. s.name ≢ t.name) app.tasks
  pub own : All HasOwnNames app.tasks
  pub regions : AllPairs (λ r s. r.name ≢ s.name) app.regions
  pub devices : AllPairs (λ d e. d.name ≢ e.name) app.devices
  pub apart : All (λ d. All (λ r. r.name ≢ d.name) app.regions) app.devices

-- a region or a device has the name
abbrev pub NamesArea : AppData → Text → Type 0
NamesArea app name = Any (λ r. r.name ≡ name) app.regions ⊎ Any (λ d. d.name ≡ name) app.devices

-- a task has the name, and the notification
abbrev pub Owns : InterruptData → TaskData → Type 0
Owns i t = (t.name ≡ i.task) × Contains t.notifications i.notification

-- a task has the name of the interrupt's, and uses or reads the device, which there is
pub record IsLineDevice (app : AppData) (i : InterruptData) (name : Text) : Type 0 where
  pub used : Any (λ t. (t.name ≡ i.task) × (Contains t.uses name ⊎ Contains t.reads name)) app.tasks
  pub there : Any (λ d. d.name ≡ name) app.devices

pub record HasReferences (app : AppData) : Type 0 where
  pub fault : Contains (task_in app 0).notifications app.fault
  pub interrupts : All (λ i. Any (Owns i) app.tasks) app.interrupts
  pub devices : All (λ i. IfSome i.device (IsLineDevice app i)) app.interrupts
  pub uses : All (λ t. All (NamesArea app) t.uses) app.tasks
  pub reads : All (λ t. All (NamesArea app) t.reads) app.tasks

-- ---- numbers

pub record HasCounts (app : AppData) : Type 0 where
  pub some_task : 1 ≤ length app.tasks
  pub most_tasks : length app.tasks ≤ 512
  pub notifications : All (λ t. length t.notifications ≤ 32) app.tasks
  pub regions : All (λ t. length t.uses + length t.reads ≤ 6) app.tasks

-- task 0 is the supervisor
pub record HasStarts (app : AppData) : Type 0 where
  pub supervisor : (task_in app 0).priority ≡ 0
  pub supervisor_started : (task_in app 0).start ≡ true
  pub priorities : (i : ℕ) → 0 < i → i < length app.tasks → 0 < (task_in app i).priority
  pub within : All (λ t. t.stack ≤ t.ram) app.tasks
  pub stacks : All (λ t. t.stack % 8 ≡ 0) app.tasks

pub record IsPlaced (d : DeviceData) : Type 0 where
  pub size : is_size d.size ≡ true
  pub base : d.base % d.size ≡ 0
  pub first : 0x40000000 ≤ d.base
  pub last : d.base + d.size ≤ 0x60000000

abbrev pub IsBeside : DeviceData → DeviceData → Type 0
IsBeside d e = (d.base + d.size ≤ e.base) ⊎ (e.base + e.size ≤ d.base)

pub record HasDevices (app : AppData) : Type 0 where
  pub placed : All IsPlaced app.devices
  pub apart : AllPairs IsBeside app.devices
  pub lines : AllPairs (λ i j. i.line ≢ j.line) app.interrupts

pub record Relations (app : AppData) : Type 0 where
  pub names : HasNames app
  pub references : HasReferences app
  pub counts : HasCounts app
  pub starts : HasStarts app
  pub devices : HasDevices app
