-- The keys of a table, and its first fault: unknown keys of cause 2, then each key, missing of
-- cause 3, or its value's.
use Rattle.std.specs.Prelude.{Bool, true, false, List, [], ◌∷◌, Option, Some, None, codes, pos, if◌then◌else◌}
use Rattle.std.specs.List.{list_any}
use Rattle.std.specs.Str.{bytes_eq}
use Rattle.toml.specs.Data.{Data, table, Members, no_members, member, get_member}
use Rattle.app_toml.specs.declared.forms.ValueForm.{ValueForm}
use Rattle.app_toml.specs.declared.forms.ValueForm.TheVariants.{Number, Name, Filled, Flag, Names}
use Rattle.app_toml.specs.Forms.{value_fault}
use Rattle.app_toml.specs.Places.{Refusal, Site, Text, at_key, or_else, refuse, refuse_if}

-- a key, whether it is needed, and the form of its value
pub record KeyRow : Type 0 where
  pub name : Text
  pub is_needed : Bool
  pub form : ValueForm

abbrev pub needed : Text → ValueForm → KeyRow
needed name form = record { name = name; is_needed = true; form = form }

abbrev pub optional : Text → ValueForm → KeyRow
optional name form = record { name = name; is_needed = false; form = form }

-- ---- the keys of each table, in order of reading

abbrev pub board_keys : List KeyRow
board_keys = needed (codes "flash") (Number (pos 256) (pos 1048576))
    ∷ needed (codes "ram") (Number (pos 256) (pos 262144)) ∷ []

abbrev pub supervisor_keys : List KeyRow
supervisor_keys = needed (codes "fault") Name ∷ []

abbrev pub task_keys : List KeyRow
task_keys = needed (codes "name") Name
    ∷ needed (codes "source") Filled
    ∷ needed (codes "priority") (Number (pos 0) (pos 255))
    ∷ optional (codes "start") Flag
    ∷ needed (codes "flash") (Number (pos 1) (pos 1048576))
    ∷ needed (codes "ram") (Number (pos 1) (pos 262144))
    ∷ needed (codes "stack") (Number (pos 0) (pos 262144))
    ∷ optional (codes "notifications") Names
    ∷ optional (codes "uses") Names
    ∷ optional (codes "reads") Names ∷ []

abbrev pub region_keys : List KeyRow
region_keys = needed (codes "name") Name
    ∷ needed (codes "size") (Number (pos 1) (pos 262144)) ∷ []

abbrev pub device_keys : List KeyRow
device_keys = needed (codes "name") Name
    ∷ needed (codes "base") (Number (pos 0) (pos 4294967295))
    ∷ needed (codes "size") (Number (pos 256) (pos 536870912)) ∷ []

abbrev pub interrupt_keys : List KeyRow
interrupt_keys = needed (codes "line") (Number (pos 0) (pos 63))
    ∷ needed (codes "task") Name
    ∷ needed (codes "notification") Name
    ∷ optional (codes "device") Name ∷ []

-- ---- one table

abbrev pub found_fault : KeyRow → Site → Option Data → Option Refusal
found_fault k site None = refuse_if k.is_needed 3 site
found_fault k site (Some d) = value_fault k.form site d

abbrev pub key_fault : KeyRow → Site → Members → Option Refusal
key_fault k site ms = found_fault k (at_key k.name site) (get_member k.name ms)

abbrev pub keys_fault : List KeyRow → Site → Members → Option Refusal
keys_fault [] site ms = None
keys_fault (k ∷ ks) site ms = or_else (key_fault k site ms) (keys_fault ks site ms)

abbrev pub is_known : Text → List KeyRow → Bool
is_known name keys = list_any (λ k. bytes_eq k.name name) keys

-- the members of a table stand in byte order
abbrev pub unknown_fault : List KeyRow → Site → Members → Option Refusal
unknown_fault keys site no_members = None
unknown_fault keys site (member name d rest) =
    if is_known name keys then unknown_fault keys site rest else refuse 2 (at_key name site)

abbrev pub table_fault : List KeyRow → Site → Data → Option Refusal
table_fault keys site (table ms) = or_else (unknown_fault keys site ms) (keys_fault keys site ms)
table_fault keys site _ = refuse 4 site
