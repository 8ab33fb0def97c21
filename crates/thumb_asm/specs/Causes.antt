-- Why a text is refused: the first line with a cause of the first group, or else the first with one of the second.
use Rattle.std.specs.Prelude.{ℕ, ◌+◌, ◌*◌, ◌%◌, ◌^◌, Bool, true, false, nat_eq, nat_lt, nat_le, if◌then◌else◌, List, [], ◌∷◌, ◌++◌, length, Option, Some, None, is_some, Result, Ok, Err, ◌||◌, not, ℤ, pos, negsuc}
use Rattle.std.specs.List.{list_any, list_all}
use Rattle.thumb_insn.specs.declared.Insn.{Insn}
use Rattle.thumb_asm.specs.declared.Cause.{Cause}
use Rattle.thumb_asm.specs.declared.Cause.TheVariants as cause
use Rattle.thumb_asm.specs.Chars.{is_allowed, is_name, register, entry_at}
use Rattle.thumb_asm.specs.Parts.{parts}
use Rattle.thumb_asm.specs.Operands.{or_else}
use Rattle.thumb_asm.specs.Syntax.{Shape, Data, Text, Zeros, Padding}
use Rattle.thumb_asm.specs.Sizes.{shape_size, statement_of}
use Rattle.thumb_asm.specs.Meaning.{Names, Env, env_of, value, insn_at, own_label}

-- the number of a cause
abbrev pub cause_number : Cause → ℕ
cause_number cause.BadByte = 1
cause_number cause.BadLabel = 2
cause_number cause.LabelTwice = 3
cause_number cause.UnknownMnemonic = 4
cause_number cause.BadOperands = 5
cause_number cause.BadRegister = 6
cause_number cause.BadNumber = 7
cause_number cause.UnknownSymbol = 8
cause_number cause.OutOfRange = 9
cause_number cause.Misaligned = 10
cause_number cause.BadList = 11
cause_number cause.TooLong = 12
cause_number cause.NameClash = 13
cause_number cause.LineTooLong = 14

abbrev pub when : Bool → Cause → Option Cause
when b c = if b then Some c else None

-- how many bytes a line takes at an address
abbrev pub size_by : ℕ → Result (Option Shape) Cause → ℕ
size_by at (Err c) = 0
size_by at (Ok None) = 0
size_by at (Ok (Some s)) = shape_size at s

unfoldable pub line_size : ℕ → List ℕ → ℕ
line_size at line = size_by at (statement_of (parts line).statement)

abbrev pub has : Env → List ℕ → Bool
has env name = is_some (env name)

-- the causes 2, 13 and 3, for a label
abbrev pub label_cause : Env → Env → Option (List ℕ) → Option Cause
label_cause given earlier None = None
label_cause given earlier (Some name) =
    if not (is_name name) then Some cause.BadLabel
    else if is_some (register name) || has given name then Some cause.NameClash
    else if has earlier name then Some cause.LabelTwice
    else None

abbrev pub statement_cause : Result (Option Shape) Cause → Option Cause
statement_cause (Err c) = Some c
statement_cause (Ok s) = None

-- The first group of causes. `earlier` has the labels of earlier lines, and `used` is the number of bytes of those lines.
unfoldable pub first_group : Env → ℕ → Env → ℕ → List ℕ → Option Cause
first_group given base earlier used line =
    or_else (when (nat_lt 255 (length line)) cause.LineTooLong)
    (or_else (when (not (list_all is_allowed line)) cause.BadByte)
    (or_else (label_cause given earlier (parts line).label)
    (or_else (statement_cause (statement_of (parts line).statement))
    (when (nat_lt 1048576 (used + line_size (base + used) line)) cause.TooLong))))

abbrev pub is_unknown : Option ℤ → Bool
is_unknown None = true
is_unknown (Some z) = false

-- whether k bytes cannot hold a value, as a signed or as an unsigned number
abbrev pub is_beyond : ℕ → Option ℤ → Bool
is_beyond k None = false
is_beyond k (Some (pos n)) = nat_le (256 ^ k) n
is_beyond k (Some (negsuc n)) = nat_le (256 ^ k) (2 * n)

abbrev pub insn_cause : ℕ → Result Insn Cause → Option Cause
insn_cause at (Ok i) = when (not (nat_eq (at % 2) 0)) cause.Misaligned
insn_cause at (Err c) = if nat_eq (at % 2) 0 then Some c else Some cause.Misaligned

-- the second group of causes, for a line at its address
unfoldable pub shape_cause : Env → ℕ → Shape → Option Cause
shape_cause env at (Data k es) =
    or_else (when (not (nat_eq (at % k) 0)) cause.Misaligned)
    (or_else (when (list_any (λ e. is_unknown (value env e)) es) cause.UnknownSymbol)
    (when (list_any (λ e. is_beyond k (value env e)) es) cause.OutOfRange))
shape_cause env at (Text text) = None
shape_cause env at (Zeros e) = None
shape_cause env at (Padding e) = None
shape_cause env at s = insn_cause at (insn_at env at s)

abbrev pub second_group : Env → ℕ → Result (Option Shape) Cause → Option Cause
second_group env at (Err c) = None
second_group env at (Ok None) = None
second_group env at (Ok (Some s)) = shape_cause env at s

-- a cause with the number of its line, or else the result for the later lines
abbrev pub at_line : ℕ → Option Cause → Option (Cause × ℕ) → Option (Cause × ℕ)
at_line k None later = later
at_line k (Some c) later = Some (c, k)

-- the first line with a cause of the first group; lines count from k
unfoldable pub first_in : Env → ℕ → Names → ℕ → ℕ → List (List ℕ) → Option (Cause × ℕ)
first_in given base earlier used k [] = None
first_in given base earlier used k (l ∷ ls) =
    at_line k (first_group given base (entry_at earlier) used l)
    (first_in given base (earlier ++ own_label (base + used) (parts l).label) (used + line_size (base + used) l) (k + 1) ls)

unfoldable pub second_in : Env → ℕ → ℕ → List (List ℕ) → Option (Cause × ℕ)
second_in env at k [] = None
second_in env at k (l ∷ ls) =
    at_line k (second_group env at (statement_of (parts l).statement)) (second_in env (at + line_size at l) (k + 1) ls)

-- each label with the address of its line
unfoldable pub labels_from : ℕ → List (List ℕ) → Names
labels_from at [] = []
labels_from at (l ∷ ls) = own_label at (parts l).label ++ labels_from (at + line_size at l) ls

-- the cause and its line, counted from 1; None: the text is accepted
unfoldable pub first_cause : List (List ℕ) → ℕ → Env → Option (Cause × ℕ)
first_cause lines base given = or_else (first_in given base [] 0 1 lines) (second_in (env_of (entry_at (labels_from base lines)) given) base 1 lines)
