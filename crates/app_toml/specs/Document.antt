-- The first fault of causes 2 to 6, in the order in which a document is read.
use Rattle.std.specs.Prelude.{ℕ, Bool, true, false, List, ◌+◌, ◌||◌, Option, Some, None, codes, if◌then◌else◌}
use Rattle.std.specs.Str.{bytes_eq}
use Rattle.toml.specs.Data.{Data, array, Items, no_items, item, Members, no_members, member, get_member}
use Rattle.app_toml.specs.Keys.{KeyRow, board_keys, device_keys, interrupt_keys, region_keys, supervisor_keys, table_fault, task_keys}
use Rattle.app_toml.specs.Places.{Refusal, Text, head_site, index_site, or_else, refuse, refuse_if}

abbrev pub is_top : Text → Bool
is_top name = bytes_eq name (codes "board") || bytes_eq name (codes "supervisor")
    || bytes_eq name (codes "task") || bytes_eq name (codes "region")
    || bytes_eq name (codes "device") || bytes_eq name (codes "interrupt")

-- the members of a document stand in byte order
abbrev pub top_fault : Members → Option Refusal
top_fault no_members = None
top_fault (member name d rest) = if is_top name then top_fault rest else refuse 2 (head_site name)

-- ---- a table that has to be there

abbrev pub single_found : Text → List KeyRow → Option Data → Option Refusal
single_found name keys None = refuse 3 (head_site name)
single_found name keys (Some d) = table_fault keys (head_site name) d

abbrev pub single_fault : Text → List KeyRow → Members → Option Refusal
single_fault name keys ms = single_found name keys (get_member name ms)

-- ---- a list of tables

-- in order, counted from k
abbrev pub tables_fault : Text → List KeyRow → ℕ → Items → Option Refusal
tables_fault name keys k no_items = None
tables_fault name keys k (item d ds) =
    or_else (table_fault keys (index_site name k) d) (tables_fault name keys (k + 1) ds)

abbrev pub listed_found : Text → Bool → List KeyRow → Option Data → Option Refusal
listed_found name is_needed keys (Some (array ds)) = tables_fault name keys 0 ds
listed_found name is_needed keys (Some _) = refuse 4 (head_site name)
listed_found name is_needed keys None = refuse_if is_needed 3 (head_site name)

abbrev pub listed_fault : Text → Bool → List KeyRow → Members → Option Refusal
listed_fault name is_needed keys ms = listed_found name is_needed keys (get_member name ms)

-- ---- the whole document

abbrev pub lists_fault : Members → Option Refusal
lists_fault ms =
    or_else (listed_fault (codes "task") true task_keys ms)
    (or_else (listed_fault (codes "region") false region_keys ms)
    (or_else (listed_fault (codes "device") false device_keys ms)
    (listed_fault (codes "interrupt") false interrupt_keys ms)))

abbrev pub form_fault : Members → Option Refusal
form_fault ms =
    or_else (top_fault ms)
    (or_else (single_fault (codes "board") board_keys ms)
    (or_else (single_fault (codes "supervisor") supervisor_keys ms)
    (lists_fault ms)))
