-- What the code's descriptions and faults stand for.
use Rattle.std.specs.Prelude.{ℕ, List, map, string_bytes, Option, Some, None}
use Rattle.app_toml.specs.Apps.{AppData}
use Rattle.app_toml.specs.Places.{Text}
use Rattle.app_toml.specs.Sites.{device_of, interrupt_of, region_of, task_of}
use Rattle.app_toml.specs.declared.app.App.{App}
use Rattle.app_toml.specs.declared.parts.AppFault.{AppFault}
use Rattle.app_toml.specs.declared.parts.AppFault.TheVariants as fault
use Rattle.app_toml.specs.declared.parts.DeviceSpec.{DeviceSpec}
use Rattle.app_toml.specs.declared.parts.LineSpec.{LineSpec}
use Rattle.app_toml.specs.declared.parts.Parts.{Parts}
use Rattle.app_toml.specs.declared.parts.RegionSpec.{RegionSpec}
use Rattle.app_toml.specs.declared.parts.TaskSpec.{TaskSpec}

-- the description that it is
abbrev pub app_of : App → AppData
app_of a = record {
  flash = a.flash;
  ram = a.ram;
  fault = string_bytes a.fault;
  tasks = map task_of a.tasks.items;
  regions = map region_of a.regions.items;
  devices = map device_of a.devices.items;
  interrupts = map interrupt_of a.interrupts.items;
}

-- what a description is to be, before causes 7 to 20 are looked for
abbrev pub parts_of : Parts → AppData
parts_of p = record {
  flash = p.flash;
  ram = p.ram;
  fault = string_bytes p.fault;
  tasks = map task_of p.tasks.items;
  regions = map region_of p.regions.items;
  devices = map device_of p.devices.items;
  interrupts = map interrupt_of p.interrupts.items;
}

-- the contents of these tables
abbrev pub tables_of : (flash ram : ℕ) → Text → List TaskSpec → List RegionSpec → List DeviceSpec → List LineSpec → AppData
tables_of flash ram fault tasks regions devices interrupts = record {
  flash = flash;
  ram = ram;
  fault = fault;
  tasks = map task_of tasks;
  regions = map region_of regions;
  devices = map device_of devices;
  interrupts = map interrupt_of interrupts;
}

-- the cause and the place that it states; none if memory ran out
abbrev pub stated : AppFault → Option (ℕ × Text)
stated (fault.Refused cause place) = Some (cause, string_bytes place)
stated fault.Memory = None
