-- Causes 7 to 20 of docs/FORMATS.md, Application: each at its first place in the order of the
-- document.
use Rattle.std.specs.Prelude.{ℕ, Bool, not, ◌+◌, ◌%◌, ◌==◌, ◌&&◌, ◌||◌, List, [], ◌∷◌, ◌++◌, Option, Some, None, codes, if◌then◌else◌, length, nat_le, nat_lt}
use Rattle.std.specs.List.{list_any}
use Rattle.std.specs.Str.{bytes_eq}
use Rattle.region_check.specs.Sizes.{is_size}
use Rattle.app_toml.specs.Apps.{AppData, DeviceData, InterruptData, RegionData, TaskData}
use Rattle.app_toml.specs.Places.{Refusal, Site, Text, at_entry, at_key, first_clash, first_fault, head_site, index_site, or_else, refuse_if}

abbrev pub task_site : ℕ → Text → Site
task_site k key = at_key key (index_site (codes "task") k)

abbrev pub region_site : ℕ → Text → Site
region_site k key = at_key key (index_site (codes "region") k)

abbrev pub device_site : ℕ → Text → Site
device_site k key = at_key key (index_site (codes "device") k)

abbrev pub interrupt_site : ℕ → Text → Site
interrupt_site k key = at_key key (index_site (codes "interrupt") k)

-- ---- names

abbrev pub is_among : Text → List Text → Bool
is_among name names = list_any (λ n. bytes_eq n name) names

abbrev pub has_task : Text → List TaskData → Bool
has_task name tasks = list_any (λ t. bytes_eq t.name name) tasks

abbrev pub has_region : Text → List RegionData → Bool
has_region name regions = list_any (λ r. bytes_eq r.name name) regions

abbrev pub has_device : Text → List DeviceData → Bool
has_device name devices = list_any (λ d. bytes_eq d.name name) devices

-- the notifications of the first task of that name
abbrev pub notifications_of : Text → List TaskData → List Text
notifications_of name [] = []
notifications_of name (t ∷ ts) =
    if bytes_eq t.name name then t.notifications else notifications_of name ts

-- the regions and devices that the first task of that name uses or reads
abbrev pub areas_of : Text → List TaskData → List Text
areas_of name [] = []
areas_of name (t ∷ ts) = if bytes_eq t.name name then t.uses ++ t.reads else areas_of name ts

-- a device that the task of that name uses or reads
abbrev pub is_device_of : List TaskData → List DeviceData → Text → Text → Bool
is_device_of tasks devices task name = is_among name (areas_of task tasks) && has_device name devices

-- ---- cause 7: a name used before

-- an entry is among those of an earlier list, or before it in its own
abbrev pub entry_twice : List Text → Site → List Text → ℕ → Text → Option Refusal
entry_twice earlier site before j name =
    refuse_if (is_among name earlier || is_among name before) 7 (at_entry j site)

abbrev pub entries_twice : List Text → Site → List Text → Option Refusal
entries_twice earlier site names = first_clash (entry_twice earlier site) [] 0 names

-- within a task's notifications; within what it uses and reads together
abbrev pub lists_twice : ℕ → TaskData → Option Refusal
lists_twice k t =
    or_else (entries_twice [] (task_site k (codes "notifications")) t.notifications)
    (or_else (entries_twice [] (task_site k (codes "uses")) t.uses)
    (entries_twice t.uses (task_site k (codes "reads")) t.reads))

-- a task's name, then its lists
abbrev pub task_twice : List TaskData → ℕ → TaskData → Option Refusal
task_twice before k t =
    or_else (refuse_if (has_task t.name before) 7 (task_site k (codes "name"))) (lists_twice k t)

abbrev pub region_twice : List RegionData → ℕ → RegionData → Option Refusal
region_twice before k r = refuse_if (has_region r.name before) 7 (region_site k (codes "name"))

-- regions and devices have their names together
abbrev pub device_twice : List RegionData → List DeviceData → ℕ → DeviceData → Option Refusal
device_twice regions before k d =
    refuse_if (has_region d.name regions || has_device d.name before) 7 (device_site k (codes "name"))

abbrev pub name_twice : AppData → Option Refusal
name_twice app =
    or_else (first_clash task_twice [] 0 app.tasks)
    (or_else (first_clash region_twice [] 0 app.regions)
    (first_clash (device_twice app.regions) [] 0 app.devices))

-- ---- causes 8 to 10: a name that names nothing

abbrev pub unknown_owner : List TaskData → ℕ → InterruptData → Option Refusal
unknown_owner tasks k i =
    refuse_if (not (has_task i.task tasks)) 8 (interrupt_site k (codes "task"))

-- none if there is no task: that is cause 12
abbrev pub unknown_fault_bit : Text → List TaskData → Option Refusal
unknown_fault_bit fault [] = None
unknown_fault_bit fault (t ∷ ts) =
    refuse_if (not (is_among fault t.notifications)) 9
    (at_key (codes "fault") (head_site (codes "supervisor")))

abbrev pub unknown_bit : List TaskData → ℕ → InterruptData → Option Refusal
unknown_bit tasks k i =
    refuse_if (not (is_among i.notification (notifications_of i.task tasks))) 9
    (interrupt_site k (codes "notification"))

-- an entry of `uses` or `reads`
abbrev pub unknown_entry : List RegionData → List DeviceData → Site → ℕ → Text → Option Refusal
unknown_entry regions devices site j name =
    refuse_if (not (has_region name regions || has_device name devices)) 10 (at_entry j site)

abbrev pub unknown_region : List RegionData → List DeviceData → ℕ → TaskData → Option Refusal
unknown_region regions devices k t =
    or_else (first_fault (unknown_entry regions devices (task_site k (codes "uses"))) 0 t.uses)
    (first_fault (unknown_entry regions devices (task_site k (codes "reads"))) 0 t.reads)

-- the device that drives a line, which is to be one of the line's task
abbrev pub unknown_device : List TaskData → List DeviceData → ℕ → Text → Option Text → Option Refusal
unknown_device tasks devices k task None = None
unknown_device tasks devices k task (Some name) =
    refuse_if (not (is_device_of tasks devices task name)) 10 (interrupt_site k (codes "device"))

abbrev pub unknown_line_device : List TaskData → List DeviceData → ℕ → InterruptData → Option Refusal
unknown_line_device tasks devices k i = unknown_device tasks devices k i.task i.device

abbrev pub unknown_name : AppData → Option Refusal
unknown_name app =
    or_else (first_fault (unknown_owner app.tasks) 0 app.interrupts)
    (or_else (unknown_fault_bit app.fault app.tasks)
    (or_else (first_fault (unknown_bit app.tasks) 0 app.interrupts)
    (or_else (first_fault (unknown_region app.regions app.devices) 0 app.tasks)
    (first_fault (unknown_line_device app.tasks app.devices) 0 app.interrupts))))

-- ---- causes 11 to 14: how many

abbrev pub task_count : List TaskData → Option Refusal
task_count tasks =
    or_else (refuse_if (nat_lt 512 (length tasks)) 11 (index_site (codes "task") 512))
    (refuse_if (length tasks == 0) 12 (head_site (codes "task")))

abbrev pub notification_count : ℕ → TaskData → Option Refusal
notification_count k t =
    refuse_if (nat_lt 32 (length t.notifications)) 13 (task_site k (codes "notifications"))

abbrev pub region_count : ℕ → TaskData → Option Refusal
region_count k t =
    refuse_if (nat_lt 6 (length t.uses + length t.reads)) 14 (task_site k (codes "uses"))

abbrev pub count_fault : List TaskData → Option Refusal
count_fault tasks =
    or_else (task_count tasks)
    (or_else (first_fault notification_count 0 tasks) (first_fault region_count 0 tasks))

-- ---- causes 15 to 17: priorities, start and stacks

-- task 0, the supervisor, has priority 0, and no other task has
abbrev pub is_wrong : ℕ → ℕ → Bool
is_wrong k priority = if k == 0 then not (priority == 0) else priority == 0

abbrev pub wrong_priority : ℕ → TaskData → Option Refusal
wrong_priority k t = refuse_if (is_wrong k t.priority) 15 (task_site k (codes "priority"))

abbrev pub supervisor_stopped : List TaskData → Option Refusal
supervisor_stopped [] = None
supervisor_stopped (t ∷ ts) = refuse_if (not t.start) 16 (task_site 0 (codes "start"))

-- above the task's RAM, or no multiple of 8 bytes
abbrev pub is_bad_stack : ℕ → ℕ → Bool
is_bad_stack ram stack = nat_lt ram stack || not (stack % 8 == 0)

abbrev pub bad_stack : ℕ → TaskData → Option Refusal
bad_stack k t = refuse_if (is_bad_stack t.ram t.stack) 17 (task_site k (codes "stack"))

abbrev pub start_fault : List TaskData → Option Refusal
start_fault tasks =
    or_else (first_fault wrong_priority 0 tasks)
    (or_else (supervisor_stopped tasks) (first_fault bad_stack 0 tasks))

-- ---- causes 18 to 20: lines and devices

abbrev pub line_twice : List InterruptData → ℕ → InterruptData → Option Refusal
line_twice before k i =
    refuse_if (list_any (λ e. e.line == i.line) before) 18 (interrupt_site k (codes "line"))

-- its size is one of a region, its base a multiple of it, and it lies in the devices' area
abbrev pub is_placed : DeviceData → Bool
is_placed d = is_size d.size && d.base % d.size == 0
    && nat_le 0x40000000 d.base && nat_le (d.base + d.size) 0x60000000

abbrev pub bad_device : ℕ → DeviceData → Option Refusal
bad_device k d = refuse_if (not (is_placed d)) 19 (index_site (codes "device") k)

-- the two have a byte in common
abbrev pub meets : DeviceData → DeviceData → Bool
meets d e = nat_lt d.base (e.base + e.size) && nat_lt e.base (d.base + d.size)

abbrev pub overlap : List DeviceData → ℕ → DeviceData → Option Refusal
overlap before k d = refuse_if (list_any (meets d) before) 20 (index_site (codes "device") k)

abbrev pub line_fault : AppData → Option Refusal
line_fault app =
    or_else (first_clash line_twice [] 0 app.interrupts)
    (or_else (first_fault bad_device 0 app.devices) (first_clash overlap [] 0 app.devices))

-- ---- causes 7 to 20 by number

abbrev pub cross_fault : AppData → Option Refusal
cross_fault app =
    or_else (name_twice app)
    (or_else (unknown_name app)
    (or_else (count_fault app.tasks)
    (or_else (start_fault app.tasks)
    (line_fault app))))
