-- The results of the passes for a line and for a text.
use Rattle.std.specs.Prelude.{ℕ, ◌+◌, ◌≡◌, ◌≤◌, true, IfSome, List, [], ◌∷◌, ◌++◌, length, map, Option, Some, None, String, string_bytes, bytes_eq, if◌then◌else◌}
use Rattle.thumb_asm.specs.declared.Cause.{Cause}
use Rattle.thumb_asm.specs.declared.AsmFault.{AsmFault}
use Rattle.thumb_asm.specs.declared.AsmFault.TheVariants as fault
use Rattle.thumb_asm.specs.declared.index.GivenSymbols.{GivenSymbols}
use Rattle.thumb_asm.specs.declared.index.Symbols.{Symbols}
use Rattle.thumb_asm.specs.declared.Stop.{Stop}
use Rattle.thumb_asm.specs.declared.Stop.TheVariants as stop
use Rattle.thumb_asm.specs.Parts.{parts}
use Rattle.thumb_asm.specs.Sizes.{statement_of}
use Rattle.thumb_asm.specs.Meaning.{Names, Env, env_of, Spells, Lays}
use Rattle.thumb_asm.specs.Chars.{entry_at, is_name}
use Rattle.thumb_asm.specs.Operands.{or_else}
use Rattle.std.specs.BTreeMap.{BTreeMap, get_by_text}
use Rattle.thumb_asm.specs.Causes.{line_size, first_group, second_group, first_in, second_in, labels_from}

-- names and values as lists of bytes and numbers
abbrev pub names_of : {A : Type 0} → List (String A × ℕ) → Names
names_of es = map (λ e. (string_bytes e.0, e.1)) es

-- the values of symbols; of two with the same name the first counts
abbrev pub symbol_values : {A : Type 0} → List (String A × ℕ) → Env
symbol_values es = entry_at (names_of es)

-- the first values, or else the second ones: for a name that has both, the first one counts
abbrev pub over : Env → Env → Env
over first second name = or_else (first name) (second name)

-- the values of an index of symbols
abbrev pub values_of : Symbols → Env
values_of s = get_by_text s.values

-- the values of the symbols that are given for a text: its own come first
abbrev pub given_in : GivenSymbols → Env
given_in g = over (values_of g.own.now) (values_of g.shared.now)

-- the values of labels, and of symbols that are not labels
abbrev pub env_in : {A : Type 0} → BTreeMap (String A) ℕ → GivenSymbols → Env
env_in labels symbols = env_of (get_by_text labels) (given_in symbols)

-- a map has these names with their values
abbrev pub Indexes : {A : Type 0} → BTreeMap (String A) ℕ → Names → Type 0
Indexes index names = (name : List ℕ) → get_by_text index name ≡ entry_at names name

-- a fault is this cause at this line, or memory ran out
abbrev pub Refuses : AsmFault → Option (Cause × ℕ) → Type 0
Refuses fault.Memory first = Unit {0}
Refuses (fault.Refused c k) first = first ≡ Some (c, k)

abbrev pub Stops : Stop → Option Cause → Type 0
Stops stop.Memory cause = Unit {0}
Stops (stop.Cause c) cause = cause ≡ Some c

-- how many bytes the lines take from an address on
unfoldable pub size_from : ℕ → List (List ℕ) → ℕ
size_from at [] = 0
size_from at (l ∷ ls) = line_size at l + size_from (at + line_size at l) ls

-- a label, if there is one, is a name that no earlier line has
abbrev pub IsFree : Env → Option (List ℕ) → Type 0
IsFree earlier label = IfSome label (λ name. (is_name name ≡ true) × (earlier name ≡ None))

-- A line has no cause of the first group. It takes `size` bytes, for which there is room after the used ones. Its
-- label is free.
abbrev pub HasPlace : Env → ℕ → Env → ℕ → List ℕ → ℕ → Type 0
HasPlace given base earlier used line size = (first_group given base earlier used line ≡ None)
    × (size ≡ line_size (base + used) line) × (used + size ≤ 1048576) × IsFree earlier (parts line).label

-- No line has a cause of the first group. The map has the labels of the lines. The lines take `size` bytes, and
-- these are not too many.
abbrev pub HavePlaces : {A : Type 0} → Env → ℕ → List (List ℕ) → BTreeMap (String A) ℕ → ℕ → Type 0
HavePlaces given base lines labels size = (first_in given base [] 0 1 lines ≡ None)
    × Indexes labels (labels_from base lines) × (size ≡ size_from base lines) × (size ≤ 1048576)

-- No line has a cause of the second group, and these are the bytes of the lines.
abbrev pub HaveBytes : Env → ℕ → List (List ℕ) → List ℕ → Type 0
HaveBytes env base lines bytes = (second_in env base 1 lines ≡ None) × Lays env base lines bytes (labels_from base lines)

-- the bytes of one line are appended
pub record Emitted (env : Env) (at : ℕ) (line old new : List ℕ) : Type 0 where
  pub own : List ℕ
  pub bytes : new ≡ old ++ own
  pub size : length own ≡ line_size at line
  pub spells : Spells env at (statement_of (parts line).statement) own
  pub accepted : second_group env at (statement_of (parts line).statement) ≡ None

-- the names with the label of a line added
abbrev pub with_label : ℕ → Option (List ℕ) → Env → Env
with_label at None env name = env name
with_label at (Some label) env name = if bytes_eq name label then Some at else env name

-- the names with a symbol added, unless its name has a value
abbrev pub with_symbol : List ℕ → ℕ → Env → Env
with_symbol symbol value env name = or_else (env name) (if bytes_eq name symbol then Some value else None)
