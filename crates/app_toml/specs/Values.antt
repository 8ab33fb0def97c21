-- What a document says, where its values have their forms; an absent list is empty, and a task
-- without `start` runs from the start.
use Rattle.std.specs.Prelude.{ℕ, ℤ, Bool, true, List, [], ◌∷◌, Option, Some, codes, pos, if◌then◌else◌, nat_lt, unwrap_or, option_map, option_and_then}
use Rattle.toml.specs.Data.{Data, Items, no_items, item, Members, no_members, as_array, as_bool, as_integer, as_str, as_table, get_member}
use Rattle.app_toml.specs.Apps.{AppData, DeviceData, InterruptData, RegionData, TaskData}
use Rattle.app_toml.specs.Places.{Text}

-- ---- one value

-- a number of 32 bits
abbrev pub small : Option ℤ → ℕ
small (Some (pos n)) = if nat_lt n 4294967296 then n else 0
small _ = 0

abbrev pub number_in : Text → Members → ℕ
number_in name ms = small (option_and_then as_integer (get_member name ms))

-- a number of 8 bits
abbrev pub byte_in : Text → Members → ℕ
byte_in name ms = let n = number_in name ms in if nat_lt n 256 then n else 0

abbrev pub flag_in : Text → Members → Bool
flag_in name ms = unwrap_or (option_and_then as_bool (get_member name ms)) true

abbrev pub text_of : Data → Text
text_of d = unwrap_or (as_str d) []

abbrev pub text_in : Text → Members → Text
text_in name ms = unwrap_or (option_map text_of (get_member name ms)) []

-- of a key that may be absent
abbrev pub some_text_in : Text → Members → Option Text
some_text_in name ms = option_map text_of (get_member name ms)

abbrev pub items_in : Text → Members → Items
items_in name ms = unwrap_or (option_and_then as_array (get_member name ms)) no_items

abbrev pub texts_of : Items → List Text
texts_of no_items = []
texts_of (item d ds) = text_of d ∷ texts_of ds

abbrev pub texts_in : Text → Members → List Text
texts_in name ms = texts_of (items_in name ms)

abbrev pub members_in : Text → Members → Members
members_in name ms = unwrap_or (option_and_then as_table (get_member name ms)) no_members

-- ---- one table

abbrev pub task_in : Members → TaskData
task_in ms = record {
  name = text_in (codes "name") ms;
  source = text_in (codes "source") ms;
  priority = byte_in (codes "priority") ms;
  start = flag_in (codes "start") ms;
  flash = number_in (codes "flash") ms;
  ram = number_in (codes "ram") ms;
  stack = number_in (codes "stack") ms;
  notifications = texts_in (codes "notifications") ms;
  uses = texts_in (codes "uses") ms;
  reads = texts_in (codes "reads") ms;
}

abbrev pub region_in : Members → RegionData
region_in ms = record { name = text_in (codes "name") ms; size = number_in (codes "size") ms }

abbrev pub device_in : Members → DeviceData
device_in ms = record {
  name = text_in (codes "name") ms;
  base = number_in (codes "base") ms;
  size = number_in (codes "size") ms;
}

abbrev pub interrupt_in : Members → InterruptData
interrupt_in ms = record {
  line = byte_in (codes "line") ms;
  task = text_in (codes "task") ms;
  notification = text_in (codes "notification") ms;
  device = some_text_in (codes "device") ms;
}

-- ---- a list of tables

abbrev pub table_of : Data → Members
table_of d = unwrap_or (as_table d) no_members

abbrev pub each_in : {T : Type 0} → (Members → T) → Items → List T
each_in read no_items = []
each_in read (item d ds) = read (table_of d) ∷ each_in read ds

-- ---- the whole document

abbrev pub app_in : Members → AppData
app_in ms = record {
  flash = number_in (codes "flash") (members_in (codes "board") ms);
  ram = number_in (codes "ram") (members_in (codes "board") ms);
  fault = text_in (codes "fault") (members_in (codes "supervisor") ms);
  tasks = each_in task_in (items_in (codes "task") ms);
  regions = each_in region_in (items_in (codes "region") ms);
  devices = each_in device_in (items_in (codes "device") ms);
  interrupts = each_in interrupt_in (items_in (codes "interrupt") ms);
}
