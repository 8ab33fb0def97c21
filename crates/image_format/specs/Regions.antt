-- The refusals of regions, of entries and of the devices that drive lines: a cause, and the place of a byte.
use Rattle.std.specs.Prelude.{ℕ, zero, suc, Bool, true, false, not, ◌+◌, ◌*◌, ◌%◌, ◌==◌, ◌&&◌, ◌||◌, List, [], ◌∷◌, ◌++◌, Option, Some, None, if◌then◌else◌, nat_lt, nat_le, take, drop, slice_get}
use Rattle.std.specs.List.{list_any}
use Rattle.region_check.specs.Sizes.{is_size}
use Rattle.image_format.specs.declared.records.Header.{Header}
use Rattle.image_format.specs.declared.records.TaskRecord.{TaskRecord}
use Rattle.image_format.specs.declared.records.RegionRecord.{RegionRecord}
use Rattle.image_format.specs.declared.records.LineRecord.{LineRecord}
use Rattle.image_format.specs.Steps.{Refusal, first, header_size, lines_place, or_else, regions_place}

-- ---- one region

abbrev pub has_shape : RegionRecord → Bool
has_shape r = is_size r.size && r.base % r.size == 0

-- the region may be read, and perhaps written or executed; that of a device may not be executed
abbrev pub has_rights : RegionRecord → Bool
has_rights r = list_any (λ k. r.rights == k) (1 ∷ 3 ∷ 5 ∷ 7 ∷ 9 ∷ 11 ∷ [])

abbrev pub lies_in : RegionRecord → ℕ → ℕ → Bool
lies_in r base end = nat_le base r.base && nat_le (r.base + r.size) end

-- inside the flash or the RAM; if it may be written inside the RAM; a device's in the devices' area
abbrev pub has_area : Header → RegionRecord → Bool
has_area h r =
    if r.rights == 1 || r.rights == 5
    then (lies_in r 0x08000000 (0x08000000 + h.flash) || lies_in r 0x20000000 (0x20000000 + h.ram))
    else if r.rights == 3 || r.rights == 7 then lies_in r 0x20000000 (0x20000000 + h.ram)
    else lies_in r 0x40000000 0x60000000

-- the two have a byte in common
abbrev pub meets : RegionRecord → RegionRecord → Bool
meets r e = nat_lt r.base (e.base + e.size) && nat_lt e.base (r.base + r.size)

-- they have a byte in common, and are not the same bytes
abbrev pub cuts : RegionRecord → RegionRecord → Bool
cuts r e = meets r e && (not (r.base == e.base) || not (r.size == e.size))

-- it has a byte in common with an earlier region of its task, or overlaps one of an earlier task without
-- being the same bytes
abbrev pub clashes : List RegionRecord → List RegionRecord → RegionRecord → Bool
clashes others own r = list_any (meets r) own || list_any (cuts r) others

abbrev pub region_fault : Header → Bool → RegionRecord → ℕ → Option Refusal
region_fault h overlaps r place = first (
    (not (has_rights r), (8, place + 8))
    ∷ (not (has_shape r), (9, place))
    ∷ (not (has_area h r), (10, place))
    ∷ (overlaps, (11, place)) ∷ [])

-- ---- the regions of one task, after those of the tasks before it and its own earlier ones

abbrev pub own_fault : Header → List RegionRecord → List RegionRecord → ℕ → List RegionRecord
    → Option Refusal
own_fault h others own place [] = None
own_fault h others own place (r ∷ rs) =
    or_else (region_fault h (clashes others own r) r place)
    (own_fault h others (own ++ r ∷ []) (place + 12) rs)

-- ---- the regions of the tasks in order, after those of the tasks before

abbrev pub regions_from : Header → List RegionRecord → ℕ → List TaskRecord → List RegionRecord
    → Option Refusal
regions_from h others place [] rs = None
regions_from h others place (t ∷ ts) rs =
    or_else (own_fault h others [] place (take t.regions rs))
    (regions_from h (others ++ take t.regions rs) (place + 12 * t.regions) ts (drop t.regions rs))

abbrev pub regions_fault : Header → List TaskRecord → List RegionRecord → Option Refusal
regions_fault h ts rs = regions_from h [] (regions_place h) ts rs

-- ---- entries

-- the entry, without its lowest bit, lies in the region, which may be executed
abbrev pub runs_at : ℕ → RegionRecord → Bool
runs_at entry r = (r.rights == 5 || r.rights == 7) && nat_lt r.base entry
    && nat_le entry (r.base + r.size)

abbrev pub entry_fault : List RegionRecord → TaskRecord → ℕ → Option Refusal
entry_fault own t place =
    if t.entry % 2 == 0 || not (list_any (runs_at t.entry) own) then Some (12, place + 4) else None

abbrev pub entries_from : ℕ → List TaskRecord → List RegionRecord → Option Refusal
entries_from place [] rs = None
entries_from place (t ∷ ts) rs =
    or_else (entry_fault (take t.regions rs) t place)
    (entries_from (place + 12) ts (drop t.regions rs))

abbrev pub entries_fault : Header → List TaskRecord → List RegionRecord → Option Refusal
entries_fault h ts rs = entries_from (header_size h.form) ts rs

-- ---- the devices that drive lines

-- the regions of the i-th task, among those of all tasks in order
abbrev pub own_regions : List TaskRecord → List RegionRecord → ℕ → List RegionRecord
own_regions [] rs i = []
own_regions (t ∷ ts) rs zero = take t.regions rs
own_regions (t ∷ ts) rs (suc i) = own_regions ts (drop t.regions rs) i

-- there is such a region, and it is a device's
abbrev pub is_devices : Option RegionRecord → Bool
is_devices None = false
is_devices (Some r) = nat_le 8 r.rights

-- no device drives the line, or the one of a region of its task does, counted from one
abbrev pub may_drive : List RegionRecord → ℕ → Bool
may_drive own zero = true
may_drive own (suc k) = is_devices (slice_get own k)

abbrev pub line_device_fault : List RegionRecord → LineRecord → ℕ → Option Refusal
line_device_fault own l place = if may_drive own l.device then None else Some (3, place + 1)

abbrev pub line_devices_from : List TaskRecord → List RegionRecord → ℕ → List LineRecord → Option Refusal
line_devices_from ts rs place [] = None
line_devices_from ts rs place (l ∷ ls) =
    or_else (line_device_fault (own_regions ts rs l.task) l place) (line_devices_from ts rs (place + 8) ls)

abbrev pub line_devices_fault : Header → List TaskRecord → List RegionRecord → List LineRecord → Option Refusal
line_devices_fault h ts rs ls = line_devices_from ts rs (lines_place h) ls
