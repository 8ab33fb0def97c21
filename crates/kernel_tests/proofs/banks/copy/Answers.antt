use Rattle.std.proofs.Common.{ℕ, ◌≡◌, ◌+◌, ◌≤◌, ◌∙◌, inr, length, length-take, ap, arith}
use Rattle.mem_banks.specs.Memory.{Memory, Opened, bytes_at, copied}
use Rattle.mem_banks.proofs.Copies.{bytes_ram}
use Rattle.mem_banks.proofs.Stores.{length-with_bytes}
use Rattle.kernel_tests.proofs.banks.copy.Goals as goal

-- a copy within the RAM leaves its length
length-copied : (m : Memory) (from to n : ℕ) → 0x20000000 ≤ from → 0x20000000 ≤ to → to + n ≤ 0x20000000 + length m.ram → length (copied m from to n).ram ≡ length m.ram
unfolding copied
length-copied m from to n low high fits =
    let l : length (bytes_at m from n) ≤ n = rw (bytes_ram m from n low, length-take) (omega arith) in
    length-with_bytes m to (bytes_at m from n) (inr (high, omega arith))

pub returns : goal.returns
returns c = ap (λ (m : Opened). length m.bytes.ram) c.copy.ensures ∙ (length-copied _ _ _ c.args.count (omega arith) (omega arith) (omega (arith, c.requires.size, c.requires.target)) ∙ c.requires.size)
