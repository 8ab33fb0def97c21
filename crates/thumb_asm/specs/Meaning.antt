-- What a line means: its label, its size, and its bytes for given values of names.
use Rattle.std.specs.Prelude.{ℕ, zero, suc, ◌+◌, ◌-◌, ◌*◌, ◌/◌, ◌%◌, ◌^◌, ◌≡◌, nat_lt, nat_le, if◌then◌else◌, List, [], ◌∷◌, ◌++◌, length, Option, Some, None, Result, Ok, Err, ◌&&◌, ℤ, pos, negsuc, ◌+ℤ◌, ◌-ℤ◌}
use Rattle.std.specs.List.{repeat}
use Rattle.thumb_insn.specs.declared.Insn.{Insn}
use Rattle.thumb_insn.specs.declared.Code.{Code}
use Rattle.thumb_insn.specs.declared.Code.TheVariants as code
use Rattle.thumb_insn.specs.Range.{insn_of, IsCode}
use Rattle.thumb_encode.specs.Codes.{fit_of}
use Rattle.thumb_encode.specs.declared.Fit.{Fit}
use Rattle.thumb_encode.specs.declared.Fit.TheVariants as fit
use Rattle.thumb_asm.specs.declared.Cause.{Cause}
use Rattle.thumb_asm.specs.declared.Cause.TheVariants as cause
use Rattle.thumb_asm.specs.Parts.{parts}
use Rattle.thumb_asm.specs.Operands.{Expr, expression, signed, or_else}
use Rattle.thumb_asm.specs.Syntax.{Shape, Fixed, Filled, Within, Aimed, Near, Listed, Block, Data, Text, Zeros, Padding}
use Rattle.thumb_asm.specs.Sizes.{statement_of, list_insn, block_insn, mask_of, natural_part, padding}

-- names with their values; of two with the same name the first counts
abbrev pub Names : Type 0
Names = List (List ℕ × ℕ)

-- the value of a name, if it has one
abbrev pub Env : Type 0
Env = List ℕ → Option ℕ

-- the value of a label, or else of a given symbol
abbrev pub env_of : Env → Env → Env
env_of labels given name = or_else (labels name) (given name)

abbrev pub plus_named : Option ℕ → ℤ → Option ℤ
plus_named None z = None
plus_named (Some n) z = Some (pos n +ℤ z)

abbrev pub named_value : Env → Option (List ℕ) → ℤ → Option ℤ
named_value env None z = Some z
named_value env (Some name) z = plus_named (env name) z

abbrev pub expr_value : Env → Option Expr → Option ℤ
expr_value env None = None
expr_value env (Some e) = named_value env e.name e.number

-- the value of an expression; None: it has a name that is neither label nor symbol
unfoldable pub value : Env → List ℕ → Option ℤ
value env e = expr_value env (expression e)

abbrev pub fit_cause : Insn → Option Fit → Result Insn Cause
fit_cause i None = Ok i
fit_cause i (Some fit.Register) = Err cause.BadRegister
fit_cause i (Some fit.Offset) = Err cause.OutOfRange
fit_cause i (Some fit.Align) = Err cause.Misaligned

-- an instruction that has a code, or the cause why it has none
abbrev pub fitting : Insn → Result Insn Cause
fitting i = fit_cause i (fit_of i)

-- the instruction with a value; a value that is not a number of 32 bits fits no instruction
abbrev pub filled : (ℕ → Insn) → ℤ → Result Insn Cause
filled i (pos n) = if nat_lt n (2 ^ 32) then fitting (i n) else Err cause.OutOfRange
filled i (negsuc n) = Err cause.OutOfRange

abbrev pub within : ℕ → ℕ → (ℕ → Insn) → ℤ → Result Insn Cause
within low top i (pos n) = if nat_le low n && nat_le n top then fitting (i n) else Err cause.OutOfRange
within low top i (negsuc n) = Err cause.OutOfRange

-- the instruction with a distance; a distance that is not a signed number of 32 bits fits no instruction
abbrev pub aimed : (ℤ → Insn) → ℤ → Result Insn Cause
aimed i (pos n) = if nat_lt n (2 ^ 31) then fitting (i (pos n)) else Err cause.OutOfRange
aimed i (negsuc n) = if nat_lt n (2 ^ 31) then fitting (i (negsuc n)) else Err cause.OutOfRange

abbrev pub with_value : Option ℤ → (ℤ → Result Insn Cause) → Result Insn Cause
with_value None i = Err cause.UnknownSymbol
with_value (Some z) i = i z

-- the instruction of a statement at an address, or why it is refused
unfoldable pub insn_at : Env → ℕ → Shape → Result Insn Cause
insn_at env at (Fixed i) = fitting i
insn_at env at (Filled e i) = with_value (value env e) (filled i)
insn_at env at (Within low top e i) = with_value (value env e) (within low top i)
insn_at env at (Aimed e i) = with_value (value env e) (λ z. aimed i (z -ℤ pos (at + 4)))
insn_at env at (Near e i) = with_value (value env e) (λ z. filled i (z -ℤ pos ((at + 4) / 4 * 4)))
insn_at env at (Listed loads rs) = fitting (list_insn loads rs)
insn_at env at (Block n raised loads rs) = fitting (block_insn n loads (mask_of rs))
insn_at env at s = Err cause.BadRegister

abbrev pub halfword : ℕ → List ℕ
halfword h = h % 256 ∷ h / 256 ∷ []

abbrev pub code_bytes : Code → List ℕ
code_bytes (code.One h) = halfword h
code_bytes (code.Two first second) = halfword first ++ halfword second

-- these bytes are the code of the instruction
abbrev pub Codes : Insn → List ℕ → Type 0
Codes i own = (c : Code) × IsCode c × (insn_of c ≡ Some i) × (own ≡ code_bytes c)

-- a number as k bytes, little-endian
unfoldable pub low_first : ℕ → ℕ → List ℕ
low_first zero n = []
low_first (suc k) n = n % 256 ∷ low_first k (n / 256)

abbrev pub number_bytes : ℕ → ℤ → List ℕ
number_bytes k (pos n) = low_first k n
number_bytes k (negsuc n) = low_first k (256 ^ k - 1 - n)

abbrev pub value_bytes : ℕ → Option ℤ → List ℕ
value_bytes k None = []
value_bytes k (Some z) = number_bytes k z

unfoldable pub data_bytes : Env → ℕ → List (List ℕ) → List ℕ
data_bytes env k [] = []
data_bytes env k (e ∷ es) = value_bytes k (value env e) ++ data_bytes env k es

-- the bytes of a statement at an address
unfoldable pub Means : Env → ℕ → Shape → List ℕ → Type 0
Means env at (Data k es) own = own ≡ data_bytes env k es
Means env at (Text text) own = own ≡ text
Means env at (Zeros e) own = own ≡ repeat (natural_part (signed e)) (0 ∷ [])
Means env at (Padding e) own = own ≡ repeat (padding at (natural_part (signed e))) (0 ∷ [])
Means env at s own = (i : Insn) × (insn_at env at s ≡ Ok i) × Codes i own

abbrev pub Spells : Env → ℕ → Result (Option Shape) Cause → List ℕ → Type 0
Spells env at (Err c) own = own ≡ []
Spells env at (Ok None) own = own ≡ []
Spells env at (Ok (Some s)) own = Means env at s own

abbrev pub own_label : ℕ → Option (List ℕ) → Names
own_label at None = []
own_label at (Some name) = (name, at) ∷ []

-- Each label has the address of its line, each line has its bytes at its address, and there is nothing else.
unfoldable pub Lays : Env → ℕ → List (List ℕ) → List ℕ → Names → Type 0
Lays env at [] bytes labels = (bytes ≡ []) × (labels ≡ [])
Lays env at (l ∷ ls) bytes labels =
    (own : List ℕ) × (rest : List ℕ) × (more : Names) × (bytes ≡ own ++ rest) × (labels ≡ own_label at (parts l).label ++ more)
    × Spells env at (statement_of (parts l).statement) own × Lays env (at + length own) ls rest more
