-- A part of a list in the middle of others.
use Rattle.std.proofs.Common.{◌≡◌, ◌+◌, ◌≤◌, ℕ, zero, suc, List, [], ◌∷◌, ◌++◌, length, take, drop, ap, arith, append_assoc, length-take, length-drop}
use Rattle.std.proofs.lemmas.List.{take-append-le, drop-append-le, length-append, same_lists, places}
use Rattle.mem_banks.specs.Memory.{pasted}

pub drop_after : (l xs : List ℕ) (p o : ℕ) → p ≡ length l + o → drop p (l ++ xs) ≡ drop o xs
drop_after [] xs p o e = let k : p ≡ o = omega arith in rw k
drop_after (x ∷ l) xs zero o e = absurd (omega arith)
drop_after (x ∷ l) xs (suc p) o e = drop_after l xs p o (omega arith)

pub take_after : (l xs : List ℕ) (p o : ℕ) → p ≡ length l + o → take p (l ++ xs) ≡ l ++ take o xs
take_after [] xs p o e = let k : p ≡ o = omega arith in rw k
take_after (x ∷ l) xs zero o e = absurd (omega arith)
take_after (x ∷ l) xs (suc p) o e = ap (λ t. x ∷ t) (take_after l xs p o (omega arith))

pub part_within : (l b r : List ℕ) (p o n : ℕ) → p ≡ length l + o → o + n ≤ length b → take n (drop p (l ++ (b ++ r))) ≡ take n (drop o b)
part_within l b r p o n e fits =
    let k : o ≤ length b = omega arith in
    let m : n ≤ length (drop o b) = rw length-drop (omega arith) in
    rw (drop_after l (b ++ r) p o e, drop-append-le o b r k, take-append-le n (drop o b) r m)

pub pasted_within : (l b r new : List ℕ) (p o : ℕ) → p ≡ length l + o → o + length new ≤ length b → pasted (l ++ (b ++ r)) p new ≡ l ++ (pasted b o new ++ r)
pasted_within l b r new p o e fits =
    let k : o ≤ length b = omega arith in
    let m : o + length new ≤ length b = fits in
    rw (take_after l (b ++ r) p o e, drop_after l (b ++ r) (p + length new) (o + length new) (omega arith), take-append-le o b r k, drop-append-le (o + length new) b r m)
    (simp append_assoc)

-- ## one paste after another
pub parts_joined : (xs : List ℕ) (p q n k : ℕ) → q ≡ p + n → p + n + k ≤ length xs → take n (drop p xs) ++ take k (drop q xs) ≡ take (n + k) (drop p xs)
parts_joined xs p q n k e fits = same_lists _ _ (simp (length-append, length-take, length-drop) (omega arith)) (λ i d u. grind (arith, places))

pub pasted_after : (xs ys zs : List ℕ) (p q : ℕ) → q ≡ p + length ys → p + length ys + length zs ≤ length xs → pasted (pasted xs p ys) q zs ≡ pasted xs p (ys ++ zs)
pasted_after xs ys zs p q e fits = same_lists _ _ (simp (length-append, length-take, length-drop) (omega arith)) (λ i d u. grind (arith, places))

pub pasted_before : (xs ys zs : List ℕ) (p q : ℕ) → q ≡ p + length zs → q + length ys ≤ length xs → pasted (pasted xs q ys) p zs ≡ pasted xs p (zs ++ ys)
pasted_before xs ys zs p q e fits = same_lists _ _ (simp (length-append, length-take, length-drop) (omega arith)) (λ i d u. grind (arith, places))

pub part_below : (xs ys : List ℕ) (p b n : ℕ) → p + length ys ≤ length xs → b + n ≤ p → take n (drop b (pasted xs p ys)) ≡ take n (drop b xs)
part_below xs ys p b n fits h = same_lists _ _ (simp (length-append, length-take, length-drop) (omega arith)) (λ i d u. grind (arith, places))

pub part_above : (xs ys : List ℕ) (p b n : ℕ) → p + length ys ≤ length xs → p + length ys ≤ b → b + n ≤ length xs → take n (drop b (pasted xs p ys)) ≡ take n (drop b xs)
part_above xs ys p b n fits h k = same_lists _ _ (simp (length-append, length-take, length-drop) (omega arith)) (λ i d u. grind (arith, places))

pub take_joined : (xs : List ℕ) (p n : ℕ) → p + n ≤ length xs → take p xs ++ take n (drop p xs) ≡ take (p + n) xs
take_joined xs p n fits = same_lists _ _ (simp (length-append, length-take, length-drop) (omega arith)) (λ i d u. grind (arith, places))
