-- What an application description says.
use Rattle.std.specs.Prelude.{ℕ, Bool, List, Option}
use Rattle.app_toml.specs.Places.{Text}

-- notification k of a task's list is bit k; `uses` and `reads` name regions and devices
pub record TaskData : Type 0 where
  pub name : Text
  pub source : Text  -- the name of the file of its program
  pub priority : ℕ  -- 0 is the highest
  pub start : Bool  -- it runs from the start
  pub flash : ℕ  -- how many bytes of flash, of RAM, and of those for its stack
  pub ram : ℕ
  pub stack : ℕ
  pub notifications : List Text
  pub uses : List Text
  pub reads : List Text

-- RAM that several tasks use
pub record RegionData : Type 0 where
  pub name : Text
  pub size : ℕ

pub record DeviceData : Type 0 where
  pub name : Text
  pub base : ℕ
  pub size : ℕ

-- an interrupt line, the task and the notification of it that the line posts, and the device that drives the line
pub record InterruptData : Type 0 where
  pub line : ℕ
  pub task : Text
  pub notification : Text
  pub device : Option Text

pub record AppData : Type 0 where
  pub flash : ℕ  -- how many bytes the board has
  pub ram : ℕ
  pub fault : Text  -- the notification posted to task 0 at a fault
  pub tasks : List TaskData
  pub regions : List RegionData
  pub devices : List DeviceData
  pub interrupts : List InterruptData
