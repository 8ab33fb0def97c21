-- A store, byte by byte.
use Rattle.std.proofs.Common.{◌≡◌, ℕ, ◌+◌, ◌-◌, ◌/◌, ◌%◌, ◌^◌, ◌<◌, ◌≤◌, nat_eq, nat_le, nat_lt, ◌&&◌, if◌then◌else◌, List, length, set, arith, ap, ◌∙◌, sym, get_or-set_other, get_or-set_same}
use Rattle.std.proofs.lemmas.Bool.Decides.{nat_tests}
use Rattle.std.proofs.Math.Nat.{div-div-eq-div-mul, pow-suc}
use Rattle.insn_vectors.specs.Flat.{IsStored, IsPut, ram_at}

pub stored_none : (old : List ℕ) (a v : ℕ) → IsStored old a 0 v old
stored_none old a v k = grind (arith, nat_tests)

pub put_in : (old : List ℕ) (i v : ℕ) → i < length old → IsPut old (536870912 + i) v (set old i v)
put_in old i v h k = grind (arith, nat_tests, get_or-set_other, get_or-set_same)

pub put_out : (old : List ℕ) (a v : ℕ) → (536870912 ≤ a → length old ≤ a - 536870912) → IsPut old a v old
put_out old a v h k = grind (arith, nat_tests)

merge : (n m o w b a j k l l' : ℕ) → m ≡ (if nat_le a j && nat_lt j (a + k) && nat_le 536870912 j && nat_lt j (536870912 + l) then w else o) → n ≡ (if nat_eq j (a + k) && nat_le 536870912 j && nat_lt j (536870912 + l') then b else m) → l' ≡ l → (j ≡ a + k → b ≡ w) → n ≡ (if nat_le a j && nat_lt j (a + (k + 1)) && nat_le 536870912 j && nat_lt j (536870912 + l) then w else o)
merge n m o w b a j k l l' x y e f = grind (arith, nat_tests)

pub stored_more : (old mid new : List ℕ) (a k v b : ℕ) → IsStored old a k v mid → length mid ≡ length old → b ≡ v / 256 ^ k % 256 → IsPut mid (a + k) b new → IsStored old a (k + 1) v new
stored_more old mid new a k v b s len e p j = merge (ram_at new j) (ram_at mid j) (ram_at old j) (v / 256 ^ (j - a) % 256) b a j k (length old) (length mid) (s j) (p j) len
    (λ q. let d : k ≡ j - a = omega arith in e ∙ ap (λ (i : ℕ). v / 256 ^ i % 256) d)

pub rest_more : (v k : ℕ) → v / 256 ^ k / 256 ≡ v / 256 ^ (k + 1)
rest_more v k = div-div-eq-div-mul v (256 ^ k) 256 ∙ ap (λ (i : ℕ). v / i) (sym (pow-suc 256 k)) ∙ ap (λ (i : ℕ). v / 256 ^ i) (omega arith)
