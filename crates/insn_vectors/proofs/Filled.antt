-- Bytes that are written into a memory one after another.
use Rattle.std.proofs.Common.{◌≡◌, ℕ, zero, suc, ◌+◌, ◌<◌, ◌≤◌, List, [], ◌∷◌, length, get_or, drop, arith, refl}
use Rattle.insn_vectors.specs.Flat.{Banks, with_byte, with_bytes}

pub banks_are : (flash flash' ram ram' : List ℕ) → flash ≡ flash' → ram ≡ ram' → ◌≡◌ {A = Banks} (record { flash = flash; ram = ram }) (record { flash = flash'; ram = ram' })
banks_are flash flash' ram ram' e f = rw (e, f) refl

pub one_more : (m : Banks) (bs : List (ℕ × ℕ)) (k : ℕ) (d : ℕ × ℕ) → k < length bs → with_bytes m (drop k bs) ≡ with_bytes (with_byte m (get_or bs k d).0 (get_or bs k d).1) (drop (k + 1) bs)
unfolding with_bytes
one_more m [] k d lt = absurd (omega (arith, lt))
one_more m (b ∷ bs) zero d lt = refl
one_more m (b ∷ bs) (suc k) d lt = let e : suc k + 1 ≡ suc (k + 1) = omega arith in rw e (one_more m bs k d (omega (arith, lt)))

pub no_more : (m : Banks) (bs : List (ℕ × ℕ)) (k : ℕ) → length bs ≤ k → with_bytes m (drop k bs) ≡ m
unfolding with_bytes
no_more m [] zero le = refl
no_more m [] (suc k) le = refl
no_more m (b ∷ bs) zero le = absurd (omega (arith, le))
no_more m (b ∷ bs) (suc k) le = no_more m bs k (omega (arith, le))
