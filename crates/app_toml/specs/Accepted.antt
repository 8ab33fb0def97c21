-- What each description that is read satisfies.
use Rattle.std.specs.Prelude.{ℕ, ◌≡◌, ◌≤◌, ◌<◌, true, None, IfSome, length, All}
use Rattle.app_toml.specs.Apps.{AppData, DeviceData, InterruptData, RegionData, TaskData}
use Rattle.app_toml.specs.Crossed.{cross_fault}
use Rattle.app_toml.specs.Places.{Text}
use Rattle.text_lines.specs.Names.{is_name}

abbrev pub IsName : Text → Type 0
IsName text = is_name text ≡ true

abbrev pub IsWithin : ℕ → ℕ → ℕ → Type 0
IsWithin low high n = (low ≤ n) × (n ≤ high)

pub record IsTask (t : TaskData) : Type 0 where
  pub name : IsName t.name
  pub source : 0 < length t.source
  pub priority : t.priority ≤ 255
  pub flash : IsWithin 1 1048576 t.flash
  pub ram : IsWithin 1 262144 t.ram
  pub stack : t.stack ≤ 262144
  pub notifications : All IsName t.notifications
  pub uses : All IsName t.uses
  pub reads : All IsName t.reads

pub record IsRegion (r : RegionData) : Type 0 where
  pub name : IsName r.name
  pub size : IsWithin 1 262144 r.size

pub record IsDevice (d : DeviceData) : Type 0 where
  pub name : IsName d.name
  pub base : d.base ≤ 4294967295
  pub size : IsWithin 256 536870912 d.size

pub record IsInterrupt (i : InterruptData) : Type 0 where
  pub line : i.line ≤ 63
  pub task : IsName i.task
  pub notification : IsName i.notification
  pub device : IfSome i.device IsName

-- each value has its form, and none of causes 7 to 20 holds
pub record IsAccepted (app : AppData) : Type 0 where
  pub flash : IsWithin 256 1048576 app.flash
  pub ram : IsWithin 256 262144 app.ram
  pub fault : IsName app.fault
  pub tasks : All IsTask app.tasks
  pub regions : All IsRegion app.regions
  pub devices : All IsDevice app.devices
  pub interrupts : All IsInterrupt app.interrupts
  pub crossed : cross_fault app ≡ None
