-- The forms that values have, and the first fault of a value: of cause 4 its type, 5 its range,
-- 6 its form.
use Rattle.std.specs.Prelude.{ℕ, ℤ, ◌+◌, ◌&&◌, ◌==◌, length, Option, None, if◌then◌else◌, int_le}
use Rattle.text_lines.specs.Names.{is_name}
use Rattle.toml.specs.Data.{Data, string, integer, boolean, array, Items, no_items, item}
use Rattle.app_toml.specs.declared.forms.ValueForm.{ValueForm}
use Rattle.app_toml.specs.declared.forms.ValueForm.TheVariants.{Number, Name, Filled, Flag, Names}
use Rattle.app_toml.specs.Places.{Refusal, Site, at_entry, or_else, refuse}

abbrev pub name_fault : Site → Data → Option Refusal
name_fault site (string text) = if is_name text then None else refuse 6 site
name_fault site _ = refuse 4 site

abbrev pub filled_fault : Site → Data → Option Refusal
filled_fault site (string text) = if length text == 0 then refuse 6 site else None
filled_fault site _ = refuse 4 site

abbrev pub flag_fault : Site → Data → Option Refusal
flag_fault site (boolean b) = None
flag_fault site _ = refuse 4 site

abbrev pub number_fault : ℤ → ℤ → Site → Data → Option Refusal
number_fault low high site (integer z) =
    if int_le low z && int_le z high then None else refuse 5 site
number_fault low high site _ = refuse 4 site

-- entry by entry, from the k-th
abbrev pub names_fault : Site → ℕ → Items → Option Refusal
names_fault site k no_items = None
names_fault site k (item d ds) =
    or_else (name_fault (at_entry k site) d) (names_fault site (k + 1) ds)

abbrev pub list_fault : Site → Data → Option Refusal
list_fault site (array ds) = names_fault site 0 ds
list_fault site _ = refuse 4 site

abbrev pub value_fault : ValueForm → Site → Data → Option Refusal
value_fault (Number low high) site d = number_fault low high site d
value_fault Name site d = name_fault site d
value_fault Filled site d = filled_fault site d
value_fault Flag site d = flag_fault site d
value_fault Names site d = list_fault site d
