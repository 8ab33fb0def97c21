-- One number of a task's record.
use Rattle.std.proofs.Common.{◌≡◌, ◌∙◌, ◌+◌, ◌*◌, ℕ, List, drop, get_or, arith, ap}
use Rattle.std.proofs.lemmas.List.{get_or-drop}
use Rattle.snapshot.specs.Records.{num}

pub byte_in : (n : ℕ) (bytes : List ℕ) (k : ℕ) → get_or (drop n bytes) k 0 ≡ get_or bytes (n + k) 0
byte_in n bytes k = get_or-drop n bytes k 0

pub num_in : (n : ℕ) (bytes : List ℕ) (k : ℕ) → num (drop n bytes) k ≡ num bytes (n + k)
num_in n bytes k =
    let next : (j : ℕ) → get_or (drop n bytes) (k + j) 0 ≡ get_or bytes (n + k + j) 0 = λ j. let place : n + (k + j) ≡ n + k + j = omega arith in byte_in n bytes (k + j) ∙ ap (λ m. get_or bytes m 0) place in
    let a = byte_in n bytes k in
    let b = next 1 in
    let c = next 2 in
    let d = next 3 in
    λ i. a i + 256 * b i + 65536 * c i + 16777216 * d i
