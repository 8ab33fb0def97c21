-- What the code's tables, keys and places stand for.
use Rattle.std.specs.Prelude.{List, map, option_map, string_bytes}
use Rattle.app_toml.specs.Apps.{DeviceData, InterruptData, RegionData, TaskData}
use Rattle.app_toml.specs.Keys.{KeyRow}
use Rattle.app_toml.specs.Places.{Refusal, Site}
use Rattle.app_toml.specs.declared.keys.Key.{Key}
use Rattle.app_toml.specs.declared.parts.DeviceSpec.{DeviceSpec}
use Rattle.app_toml.specs.declared.parts.LineSpec.{LineSpec}
use Rattle.app_toml.specs.declared.parts.RegionSpec.{RegionSpec}
use Rattle.app_toml.specs.declared.parts.TaskSpec.{TaskSpec}
use Rattle.app_toml.specs.declared.places.PlacedCause.{PlacedCause}
use Rattle.app_toml.specs.declared.places.Location.{Location}

abbrev pub site_of : Location → Site
site_of p = record {
  head = p.head.now;
  index = p.index;
  key = option_map (λ s. s.now) p.key;
  entry = p.nth;
}

abbrev pub refusal_of : PlacedCause → Refusal
refusal_of f = record { cause = f.cause; site = site_of f.place }

abbrev pub key_of : Key → KeyRow
key_of k = record { name = k.name.now; is_needed = k.is_needed; form = k.form }

abbrev pub keys_of : List Key → List KeyRow
keys_of = map key_of

abbrev pub task_of : TaskSpec → TaskData
task_of t = record {
  name = string_bytes t.name;
  source = string_bytes t.source;
  priority = t.priority;
  start = t.start;
  flash = t.flash;
  ram = t.ram;
  stack = t.stack;
  notifications = map string_bytes t.notifications.items;
  uses = map string_bytes t.uses.items;
  reads = map string_bytes t.reads.items;
}

abbrev pub region_of : RegionSpec → RegionData
region_of r = record { name = string_bytes r.name; size = r.size }

abbrev pub device_of : DeviceSpec → DeviceData
device_of d = record { name = string_bytes d.name; base = d.base; size = d.size }

abbrev pub interrupt_of : LineSpec → InterruptData
interrupt_of i = record {
  line = i.line;
  task = string_bytes i.task;
  notification = string_bytes i.notification;
  device = option_map string_bytes i.device;
}
