-- Pieces of memory read one after another.
use Rattle.std.proofs.Common.{◌≡◌, ◌+◌, ◌≤◌, ◌<◌, ℕ, List, [], ◌++◌, inr, length, take, drop, get_or, refl, ap, ◌∙◌, arith}
use Rattle.std.proofs.lemmas.List.{take_all, append-nil}
use Rattle.std.proofs.Math.Seq.{drop-length}
use Rattle.mem_banks.specs.declared.bank.Bank.{Bank}
use Rattle.mem_banks.specs.Memory.{Memory, bytes_at, with_bytes, pasted, IsWithinRam}
use Rattle.mem_banks.specs.Kept.{AreKept, seen}
use Rattle.mem_banks.proofs.Copies.{length_part, take_none, bytes_ram, with_bytes_ram}
use Rattle.mem_banks.proofs.Pieces.{Side, side_part, bytes_joined, one_side}
use Rattle.mem_banks.proofs.Within.{bytes_in}

-- the next k bytes of a range of `all` bytes were read behind the n before, from a bank that has them
pub more_read : (table : List ℕ) (banks : List Bank) (a all n k b o : ℕ) (d : Bank) (old new piece : List ℕ)
    → AreKept table banks → Side (seen banks) a all → n + k ≤ all
    → b < length banks → (get_or banks b d).base + o ≡ a + n → o + k ≤ length (get_or banks b d).bytes.items
    → piece ≡ take k (drop o (get_or banks b d).bytes.items)
    → take (n + length piece) new ≡ take n old ++ piece → take n old ≡ bytes_at (seen banks) a n
    → take (n + k) new ≡ bytes_at (seen banks) a (n + k)
more_read table banks a all n k b o d old new piece kept side within there at fits is front before =
    let here = bytes_in banks b o (a + n) k d kept.laid kept.flash there at fits in
    let long : length piece ≡ k = rw is (length_part (get_or banks b d).bytes.items o k fits) in
    let both = side_part (seen banks) a all a (n + k) kept.flash side (omega arith) (omega arith) in
    let joined = bytes_joined (seen banks) a (a + n) n k refl both (one_side (seen banks) a all (a + n) kept.flash side (omega arith)) in
    let e : take (n + k) new ≡ take n old ++ piece = rw long at front in
    e ∙ rw (before, is, ← here) joined

-- all bytes of the RAM lie in it
pub all_in_ram : (m : Memory) (n : ℕ) → n ≡ length m.ram → IsWithinRam m 0x20000000 n
all_in_ram m n e = inr (omega arith, omega arith)

-- as many bytes as the RAM has from its first address on are its bytes
pub all_read : (m : Memory) (n : ℕ) → n ≡ length m.ram → bytes_at m 0x20000000 n ≡ m.ram
all_read m n e = rw (bytes_ram m 0x20000000 n (omega arith), e) (take_all (length m.ram) m.ram (omega arith))

-- a list with as many elements over its own from the first on is these
pub pasted_whole : (xs bytes : List ℕ) → length bytes ≡ length xs → pasted xs 0 bytes ≡ bytes
pasted_whole xs bytes e =
    let end : 0 + length bytes ≡ length xs = omega (arith, e) in
    let none : drop (0 + length bytes) xs ≡ [] = rw end (drop-length xs) in
    ap (λ (ys : List ℕ). ys ++ (bytes ++ drop (0 + length bytes) xs)) (take_none xs) ∙ (ap (λ (ys : List ℕ). bytes ++ ys) none ∙ append-nil bytes)

-- as many bytes written from there on are all that it has then
pub all_written : (m : Memory) (bytes : List ℕ) → length bytes ≡ length m.ram → with_bytes m 0x20000000 bytes ≡ record m { ram = bytes }
all_written m bytes e = rw (with_bytes_ram m 0x20000000 bytes (omega arith)) (ap (λ (r : List ℕ). record m { ram = r }) (pasted_whole m.ram bytes e))
