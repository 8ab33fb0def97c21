-- Banks: each has the bytes of the address space from its base on.
use Rattle.std.specs.Prelude.{ℕ, ◌+◌, ◌<◌, ◌≡◌, List, [], ◌∷◌, ◌++◌, length, take, drop, slice_set, slice_index_or, if◌then◌else◌, nat_le}
use Rattle.mem_banks.specs.declared.bank.Bank.{Bank}
use Rattle.mem_banks.specs.Memory.{pasted}

-- the bytes of the banks below the RAM, and of those in it, end to end
abbrev pub flash_of : List Bank → List ℕ
flash_of [] = []
flash_of (b ∷ bs) = if nat_le 0x20000000 b.base then flash_of bs else (b.bytes.items ++ flash_of bs)

abbrev pub ram_of : List Bank → List ℕ
ram_of [] = []
ram_of (b ∷ bs) = if nat_le 0x20000000 b.base then (b.bytes.items ++ ram_of bs) else ram_of bs

-- each bank of the flash begins where the one before it in the flash ends, and each bank of the RAM where the
-- one before it in the RAM ends; the first ones begin at f and r
abbrev pub AreLaid : ℕ → ℕ → List Bank → Type 0
AreLaid f r [] = Unit {0}
AreLaid f r (b ∷ bs) =
    (b.base ≡ (if nat_le 0x20000000 b.base then r else f))
    × AreLaid (if nat_le 0x20000000 b.base then f else (f + length b.bytes.items)) (if nat_le 0x20000000 b.base then (r + length b.bytes.items) else r) bs

-- an address is at offset o of bank k; an address is in no bank
abbrev pub IsAt : List Bank → ℕ → ℕ → ℕ → Type 0
IsAt banks k o a = (k < length banks) × ((d : Bank) → ((slice_index_or banks k d).base + o ≡ a) × (o < length (slice_index_or banks k d).bytes.items))

abbrev pub IsNowhere : List Bank → ℕ → Type 0
IsNowhere banks a = (k o : ℕ) → IsAt banks k o a → ⊥

-- bytes are written over those of a bank
abbrev pub IsPut : List Bank → ℕ → ℕ → List ℕ → List Bank → Type 0
IsPut old k o new after =
    (b : Bank) × (after ≡ slice_set old k b)
    × ((d : Bank) → (b.base ≡ (slice_index_or old k d).base) × (b.bytes.items ≡ pasted (slice_index_or old k d).bytes.items o new))

-- n bytes of one bank are written over those of another
abbrev pub IsMoved : List Bank → ℕ → ℕ → ℕ → ℕ → ℕ → List Bank → Type 0
IsMoved old j i k o n after = (d : Bank) → IsPut old k o (take n (drop i (slice_index_or old j d).bytes.items)) after
