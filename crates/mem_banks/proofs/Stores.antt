-- The memory after a store.
use Rattle.std.proofs.Common.{◌≡◌, ◌-◌, ◌∙◌, ℕ, List, length, ap, arith, inl, inr, sym}
use Rattle.std.proofs.lemmas.List.{nil_from_length}
use Rattle.mem_banks.specs.Memory.{IsWithinRam, Memory, with_bytes}
use Rattle.mem_banks.proofs.Copies.{length-pasted, with_bytes_none, with_bytes_ram}

-- a store keeps the flash, and the length of the RAM
pub flash-with_bytes : (m : Memory) (a : ℕ) (bytes : List ℕ) → IsWithinRam m a (length bytes) → (with_bytes m a bytes).flash ≡ m.flash
flash-with_bytes m a bytes within = elim within [
  | inl none ↦ ap (λ (x : Memory). x.flash) (sym (with_bytes_none m a bytes (nil_from_length bytes none)))
  | inr x ↦ ap (λ (z : Memory). z.flash) (with_bytes_ram m a bytes x.0)
]

pub length-with_bytes : (m : Memory) (a : ℕ) (bytes : List ℕ) → IsWithinRam m a (length bytes) → length (with_bytes m a bytes).ram ≡ length m.ram
length-with_bytes m a bytes within = elim within [
  | inl none ↦ ap (λ (x : Memory). length x.ram) (sym (with_bytes_none m a bytes (nil_from_length bytes none)))
  | inr x ↦ ap (λ (z : Memory). length z.ram) (with_bytes_ram m a bytes x.0) ∙ length-pasted m.ram (a - 0x20000000) bytes (omega arith)
]
