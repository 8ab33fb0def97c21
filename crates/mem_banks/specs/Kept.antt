-- What is always true of the table and the banks.
use Rattle.std.specs.Prelude.{ℕ, ◌+◌, ◌<◌, ◌≤◌, ◌≡◌, ◌-◌, ◌⊎◌, ◌++◌, replicate, List, [], ◌∷◌, length, All}
use Rattle.mem_banks.specs.declared.bank.Bank.{Bank}
use Rattle.mem_banks.specs.Memory.{Memory, with_bytes}
use Rattle.mem_banks.specs.Banks.{flash_of, ram_of, AreLaid}

pub record AreKept (table : List ℕ) (banks : List Bank) : Type 0 where
  pub laid : AreLaid 0x08000000 0x20000000 banks
  pub flash : length (flash_of banks) ≤ 1048576
  pub ram : length (ram_of banks) ≤ 262144
  pub pages : length table ≡ 8192
  pub hints : All (λ k. k < length banks) table

-- the memory that the banks hold
abbrev pub seen : List Bank → Memory
seen banks = record { flash = flash_of banks; ram = ram_of banks }

-- where banks begin, and how long they are
abbrev pub spans_of : List Bank → List (ℕ × ℕ)
spans_of [] = []
spans_of (b ∷ bs) = (b.base, length b.bytes.items) ∷ spans_of bs

-- banks of the same spans, after these bytes were written from an address on
pub record IsDone (table : List ℕ) (banks after : List Bank) (a : ℕ) (new : List ℕ) : Type 0 where
  pub kept : AreKept table after
  pub spans : spans_of after ≡ spans_of banks
  pub value : seen after ≡ with_bytes (seen banks) a new

-- one more bank, of this many zero bytes; one more bank from one address to another, if they differ
abbrev pub IsAdded : List Bank → ℕ → ℕ → List Bank → Type 0
IsAdded old base size banks = (b : Bank) × (banks ≡ old ++ b ∷ []) × (b.base ≡ base) × (b.bytes.items ≡ replicate size 0)

abbrev pub IsFilled : List Bank → ℕ → ℕ → List Bank → Type 0
IsFilled old from to banks = ((to ≤ from) × (banks ≡ old)) ⊎ ((from < to) × IsAdded old from (to - from) banks)

-- banks from a base on can follow the ones that are there, below the RAM or in it
pub record IsNext (banks : List Bank) (base end : ℕ) : Type 0 where
  pub laid : AreLaid 0x08000000 0x20000000 banks
  pub flash : base < 0x20000000 → (end ≤ 0x20000000) × (base ≡ 0x08000000 + length (flash_of banks))
  pub ram : 0x20000000 ≤ base → base ≡ 0x20000000 + length (ram_of banks)

-- zero bytes are laid from a base to an end
pub record IsLaidOut (old banks : List Bank) (base end : ℕ) : Type 0 where
  pub laid : AreLaid 0x08000000 0x20000000 banks
  pub flash : base < 0x20000000 → (flash_of banks ≡ flash_of old ++ replicate (end - base) 0) × (ram_of banks ≡ ram_of old)
  pub ram : 0x20000000 ≤ base → (ram_of banks ≡ ram_of old ++ replicate (end - base) 0) × (flash_of banks ≡ flash_of old)

-- the banks of this much flash and RAM, all of zero bytes
pub record AreZeros (banks : List Bank) (f r : ℕ) : Type 0 where
  pub some : 0 < length banks
  pub laid : AreLaid 0x08000000 0x20000000 banks
  pub flash : flash_of banks ≡ replicate f 0
  pub ram : ram_of banks ≡ replicate r 0
