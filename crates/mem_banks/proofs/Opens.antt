-- Banks laid out at the start.
use Rattle.std.proofs.Common.{◌≡◌, ◌+◌, ◌-◌, ◌≤◌, ◌<◌, inl, inr, ℕ, List, [], ◌∷◌, ◌++◌, length, drop, get_or, replicate, All, refl, ap, sym, ◌∙◌, arith, append_assoc, length-drop}
use Rattle.std.proofs.lemmas.Bool.{cases_lt}
use Rattle.std.proofs.lemmas.List.{length-append, length-replicate, replicate-append-replicate, get_or-replicate, nil_from_length, append-nil}
use Rattle.mem_banks.specs.declared.bank.Bank.{Bank}
use Rattle.mem_banks.specs.Banks.{flash_of, ram_of, AreLaid}
use Rattle.mem_banks.specs.Memory.{Memory, Opened, pasted, with_bytes}
use Rattle.mem_banks.specs.Kept.{AreKept, IsNext, IsLaidOut, AreZeros, seen}
use Rattle.mem_banks.proofs.Splits.{push_flash, push_ram}
use Rattle.mem_banks.proofs.Copies.{with_bytes_flash, take_none}

zeros_more : (xs ys zs : List ℕ) (a b c : ℕ) → ys ≡ xs ++ replicate a 0 → zs ≡ replicate b 0 → a + b ≡ c → ys ++ zs ≡ xs ++ replicate c 0
zeros_more xs ys zs a b c e f g = rw (e, f, ← g, ← replicate-append-replicate {A = ℕ} a b 0) (simp append_assoc)

zeros_length : (xs ys : List ℕ) (a : ℕ) → ys ≡ xs ++ replicate a 0 → length ys ≡ length xs + a
zeros_length xs ys a e = rw (e, length-append, length-replicate) refl

pub laid_more : (old banks : List Bank) (b : Bank) (base end at len : ℕ) → IsNext old base end → IsLaidOut old banks base at → base ≤ at → at < end → at + len ≤ end → b.base ≡ at → b.bytes.items ≡ replicate len 0 → IsLaidOut old (banks ++ b ∷ []) base (at + len)
laid_more old banks b base end at len next out low high fits place bytes = elim (cases_lt base 0x20000000) [
  | inl lt ↦
      let n = next.flash lt in
      let o = out.flash lt in
      let s = push_flash 0x08000000 0x20000000 banks b out.laid (omega arith) (omega (arith, n.1, zeros_length _ _ _ o.0)) in
      record {
        laid = s.2;
        flash = λ x. (s.0 ∙ zeros_more (flash_of old) (flash_of banks) b.bytes.items (at - base) len (at + len - base) o.0 bytes (omega arith), s.1 ∙ o.1);
        ram = λ x. absurd (omega arith);
      }
  | inr le ↦
      let n = next.ram le in
      let o = out.ram le in
      let s = push_ram 0x08000000 0x20000000 banks b out.laid (omega arith) (omega (arith, n, zeros_length _ _ _ o.0)) in
      record {
        laid = s.2;
        flash = λ x. absurd (omega arith);
        ram = λ x. (s.0 ∙ zeros_more (ram_of old) (ram_of banks) b.bytes.items (at - base) len (at + len - base) o.0 bytes (omega arith), s.1 ∙ o.1);
      }
]

pub laid_none : (old : List Bank) (base end : ℕ) → IsNext old base end → IsLaidOut old old base base
laid_none old base end next =
    let z : base - base ≡ 0 = omega arith in
    record { laid = next.laid; flash = λ x. (rw z (sym (append-nil (flash_of old))), refl); ram = λ x. (rw z (sym (append-nil (ram_of old))), refl) }

pub table_zero : (xs : List ℕ) (n m : ℕ) → xs ≡ replicate n 0 → 0 < m → (length xs ≡ n) × All (λ k. k < m) xs
table_zero xs n m e some = (
  rw e (length-replicate {A = ℕ} n 0),
  λ k d h.
      let z : get_or (replicate n 0) k d ≡ 0 = get_or-replicate {A = ℕ} n k 0 d (omega (arith, ap length e, length-replicate {A = ℕ} n 0)) in
      rw (e, z) some,
)

-- bytes over as many
pub pasted_all : (xs ys : List ℕ) → length xs ≡ length ys → pasted xs 0 ys ≡ ys
pasted_all xs ys e =
    let z : 0 + length ys ≡ length xs = omega arith in
    let d : drop (length xs) xs ≡ [] = nil_from_length _ (rw length-drop (omega arith)) in
    rw (z, d, take_none xs) (append-nil ys)

-- an empty bank beside none
pub zeros_one : (banks : List Bank) (b : Bank) (f r : ℕ) → AreLaid 0x08000000 0x20000000 banks → flash_of banks ≡ replicate f 0 → ram_of banks ≡ replicate r 0 → length banks ≡ 0 → b.base ≡ 0x20000000 → b.bytes.items ≡ replicate 0 0 → AreZeros (banks ++ b ∷ []) f r
zeros_one [] b f r laid e g none place bytes =
    let s = push_ram 0x08000000 0x20000000 [] b laid (omega arith) (omega arith) in
    record {
      some = omega arith;
      laid = s.2;
      flash = s.1 ∙ e;
      ram = s.0 ∙ (bytes ∙ g);
    }
zeros_one (x ∷ xs) b f r laid e g none place bytes = absurd (omega arith)

pub two_laid : (banks after : List Bank) (f r : ℕ) → f ≤ 1048576 → IsLaidOut [] banks 0x08000000 (0x08000000 + f) → IsLaidOut banks after 0x20000000 (0x20000000 + r) → AreLaid 0x08000000 0x20000000 after × (flash_of after ≡ replicate f 0) × (ram_of after ≡ replicate r 0)
two_laid banks after f r small a b =
    let x = a.flash (omega arith) in
    let y = b.ram (omega arith) in
    let i : 0x08000000 + f - 0x08000000 ≡ f = omega arith in
    let j : 0x20000000 + r - 0x20000000 ≡ r = omega arith in
    (b.laid, y.1 ∙ rw i at x.0, (rw (j, x.1) at y.0))

-- the bytes of the flash over as many zeros
pub opened : (banks : List Bank) (flash : List ℕ) (r n : ℕ) (m : Memory) → AreZeros banks n r → n ≡ length flash → m ≡ with_bytes (seen banks) 0x08000000 flash → m ≡ record { flash = flash; ram = replicate r 0 }
opened banks flash r n m z e is =
    let len : length (flash_of banks) ≡ length flash = ap length z.flash ∙ (length-replicate {A = ℕ} n 0 ∙ e) in
    rw (is, with_bytes_flash (seen banks) 0x08000000 flash (omega arith), pasted_all (flash_of banks) flash len, z.ram) refl

-- zero banks with a table are kept
pub kept_zeros : (table : List ℕ) (banks : List Bank) (f r : ℕ) → AreZeros banks f r → f ≤ 1048576 → r ≤ 262144 → length table ≡ 8192 → All (λ k. k < length banks) table → AreKept table banks
kept_zeros table banks f r z small few pages hints = record {
  laid = z.laid;
  flash = omega (arith, ap length z.flash, length-replicate {A = ℕ} f 0);
  ram = omega (arith, ap length z.ram, length-replicate {A = ℕ} r 0);
  pages = pages;
  hints = hints;
}

-- a map beside the regions that were given
abbrev pub beside : List (ℕ × ℕ) → Memory → Opened
beside regions m = record { bytes = m; regions = regions }

pub opened_beside : (regions given : List (ℕ × ℕ)) (banks : List Bank) (flash : List ℕ) (r n : ℕ) (m : Opened) → AreZeros banks n r → n ≡ length flash → regions ≡ given → m ≡ beside regions (with_bytes (seen banks) 0x08000000 flash) → m ≡ beside given record { flash = flash; ram = replicate r 0 }
opened_beside regions given banks flash r n m z e same is = is ∙ rw same (ap (beside given) (opened banks flash r n _ z e refl))
