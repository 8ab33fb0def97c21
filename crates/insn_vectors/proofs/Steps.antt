-- One more byte.
use Rattle.std.proofs.Common.{◌≡◌, ℕ, zero, suc, ◌+◌, ◌-◌, ◌*◌, ◌<◌, true, false, List, Some, None, arith, refl}
use Rattle.region_check.specs.declared.Right.{Right}
use Rattle.region_check.specs.declared.Region.{Region}
use Rattle.region_check.specs.Rights.{may_use}
use Rattle.insn_vectors.specs.Flat.{first_bad, number_of, byte_at}

pub bad_here : (gs : List Region) (a n : ℕ) (r : Right) → 0 < n → may_use gs r a ≡ false → first_bad gs a n r ≡ Some a
unfolding first_bad
bad_here gs a (suc n) r h e = rw e refl
bad_here gs a zero r h e = absurd (omega arith)

pub bad_later : (gs : List Region) (a k n m : ℕ) (r : Right) → k < n → m ≡ a + k → may_use gs r m ≡ true → first_bad gs m (n - k) r ≡ first_bad gs (a + (k + 1)) (n - (k + 1)) r
unfolding first_bad
bad_later gs a k n m r h q e = let s : n - k ≡ suc (n - (k + 1)) = omega arith in let t : m + 1 ≡ a + (k + 1) = omega arith in rw (s, e, t) refl

pub bad_none : (gs : List Region) (a n : ℕ) (r : Right) → n ≡ 0 → first_bad gs a n r ≡ None
unfolding first_bad
bad_none gs a n r e = rw e refl

pub number_1 : (flash ram : List ℕ) (a : ℕ) → number_of flash ram a 1 ≡ byte_at flash ram a
unfolding number_of
number_1 flash ram a = omega arith

pub number_2 : (flash ram : List ℕ) (a : ℕ) → number_of flash ram a 2 ≡ byte_at flash ram a + 256 * byte_at flash ram (a + 1)
unfolding number_of
number_2 flash ram a = omega arith

pub number_4 : (flash ram : List ℕ) (a : ℕ) → number_of flash ram a 4 ≡ byte_at flash ram a + 256 * byte_at flash ram (a + 1) + 65536 * byte_at flash ram (a + 2) + 16777216 * byte_at flash ram (a + 3)
unfolding number_of
number_4 flash ram a = let e : (a + 1) + 1 ≡ a + 2 = omega arith in let f : ((a + 1) + 1) + 1 ≡ a + 3 = omega arith in rw (f, e) (omega arith)
