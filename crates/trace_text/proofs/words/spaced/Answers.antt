use Rattle.std.proofs.Common.{◌∷◌, [], List, ℕ, arith, slice_index}
use Rattle.std.proofs.lemmas.Str.Ascii.{IsAscii-cons, IsAscii-nil}
use Rattle.trace_text.proofs.words.spaced.Goals as goal

pub returns-clause-ascii : goal.returns-clause-ascii
returns-clause-ascii c =
    let h = c.digits.ensures.ascii in
    let at : ℕ → ℕ = slice_index c.digits.result in
    let from_7 : List ℕ = at 7 ∷ [] in
    let from_6 : List ℕ = at 6 ∷ from_7 in
    let from_5 : List ℕ = at 5 ∷ from_6 in
    let from_4 : List ℕ = at 4 ∷ from_5 in
    let from_3 : List ℕ = at 3 ∷ from_4 in
    let from_2 : List ℕ = at 2 ∷ from_3 in
    let from_1 : List ℕ = at 1 ∷ from_2 in
    IsAscii-cons 32 (at 0 ∷ from_1) (omega arith) (IsAscii-cons (at 0) from_1 (h 0) (IsAscii-cons (at 1) from_2 (h 1) (IsAscii-cons (at 2) from_3 (h 2) (IsAscii-cons (at 3) from_4 (h 3) (IsAscii-cons (at 4) from_5 (h 4) (IsAscii-cons (at 5) from_6 (h 5) (IsAscii-cons (at 6) from_7 (h 6) (IsAscii-cons (at 7) [] (h 7) IsAscii-nil))))))))
