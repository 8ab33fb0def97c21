-- Texts of lines, one after the other.
use Rattle.std.proofs.Common.{◌≡◌, ℕ, List, [], ◌∷◌, ◌++◌, map, refl, ap, ◌∙◌}
use Rattle.std.specs.List.{flat_map}

-- the texts of some things, joined
pub joined : {A : Type 0} (now : A → List ℕ) (xs : List A) → flat_map (λ line. line) (map now xs) ≡ flat_map now xs
joined now [] = refl
joined now (x ∷ xs) = ap (λ rest. now x ++ rest) (joined now xs)

-- and of lists of them
pub joined_each : {A : Type 0} (now : A → List (List ℕ)) (text : A → List ℕ) (xs : List A) → ((x : A) → flat_map (λ line. line) (now x) ≡ text x) → flat_map (λ part. flat_map (λ line. line) part) (map now xs) ≡ flat_map text xs
joined_each now text [] same = refl
joined_each now text (x ∷ xs) same = ap (λ t. t ++ flat_map (λ part. flat_map (λ line. line) part) (map now xs)) (same x) ∙ ap (λ rest. text x ++ rest) (joined_each now text xs same)
