-- The JSON object that lists an image, its keys in byte order.
use Rattle.std.specs.Prelude.{ℕ, zero, suc, List, codes, length, map}
use Rattle.serde_json.specs.Data.{Data, Items, number, unsigned, string, array, object, Members, member, no_members}
use Rattle.serde_json.specs.View.{items_of}
use Rattle.region_check.specs.declared.Region.{Region}
use Rattle.image_format.specs.Loners.{loners}
use Rattle.image_format.specs.ImageData.{ImageData, ImageTask, ImageLine, bit, rights_number}

-- a natural number
abbrev pub whole : ℕ → Data
whole n = number (unsigned n)

-- rights as a number: 1 read, 2 write, 4 execute, 8 device
abbrev pub region_data : Region → Data
region_data r = object (member (codes "base") (whole r.base)
    (member (codes "rights") (whole (rights_number r.rights))
    (member (codes "size") (whole r.size) no_members)))

abbrev pub regions_data : List Region → Items
regions_data rs = items_of (map region_data rs)

abbrev pub names_data : List (List ℕ) → Items
names_data names = items_of (map string names)

-- notifications are the names of bits 0, 1, ..; start is 1 for a task that runs at the start, else 0
abbrev pub task_data : ImageTask → Data
task_data t = object (member (codes "entry") (whole t.entry)
    (member (codes "notifications") (array (names_data t.names))
    (member (codes "priority") (whole t.priority)
    (member (codes "regions") (array (regions_data t.regions))
    (member (codes "sp") (whole t.sp)
    (member (codes "start") (whole (bit t.started 1)) no_members))))))

abbrev pub tasks_data : List ImageTask → Items
tasks_data ts = items_of (map task_data ts)

-- of a line that a device drives, the index of the device's region among those of its task
abbrev pub device_member : ℕ → Members → Members
device_member zero rest = rest
device_member (suc k) rest = member (codes "device") (whole k) rest

abbrev pub line_data : ImageLine → Data
line_data l = object (member (codes "bits") (whole l.bits)
    (device_member l.device
    (member (codes "line") (whole l.line)
    (member (codes "task") (whole l.task) no_members))))

abbrev pub lines_data : List ImageLine → Items
lines_data ls = items_of (map line_data ls)

-- the indices of the tasks that share nothing with another one, ascending
abbrev pub loners_data : ImageData → Items
loners_data p = items_of (map whole (loners p))

-- flash and ram are numbers of bytes; supervisor has the bits posted to task 0 at a fault
abbrev pub listed_object : ImageData → Data
listed_object p = object (member (codes "flash") (whole (length p.flash))
    (member (codes "interrupts") (array (lines_data p.lines))
    (member (codes "loners") (array (loners_data p))
    (member (codes "ram") (whole p.ram)
    (member (codes "supervisor") (whole p.fault_bits)
    (member (codes "tasks") (array (tasks_data p.tasks)) no_members))))))
