-- What files in memory hold under each name.
use Rattle.std.specs.Prelude.{ℕ, List, Option, Bool, false, nat_le}
use Rattle.std.specs.Option.{option_map, option_map_or}
use Rattle.std.specs.BTreeMap.{get_by_text, BTreeMap}
use Rattle.std.specs.declared.string.String.{String}
use Rattle.std.specs.declared.alloc.Global.{Global}
use Rattle.outside_io.specs.declared.held.Held.{Held}

-- the contents that are held under a name
abbrev pub contents_under : BTreeMap (String Global) Held → List ℕ → Option (List ℕ)
contents_under held name = option_map (λ h. h.bytes.items) (get_by_text held name)

-- for how many bytes the file under a name has room
abbrev pub room_under : BTreeMap (String Global) Held → List ℕ → Option ℕ
room_under held name = option_map (λ h. h.room) (get_by_text held name)

-- a file is held under the name, and has room for so many bytes
abbrev pub has_room : BTreeMap (String Global) Held → List ℕ → ℕ → Bool
has_room held name len = option_map_or (λ h. nat_le len h.room) (get_by_text held name) false
