-- Pieces written one after the other.
use Rattle.std.proofs.Common.{◌≡◌, ◌∙◌, ◌+◌, ℕ, List, ◌++◌, length, map, get_or, sym, ap, arith}
use Rattle.std.specs.List.{flat_map, range_with_len}
use Rattle.std.proofs.lemmas.List.{flat_map_more, length-map}
use Rattle.std.proofs.Math.ListN.{get_or-map}
use Rattle.std.proofs.lemmas.List.FromFn.{fill_by_all, map-range_with_len_more}

-- the bytes of one thing more
pub written_more : {X : Type 0} (bytes : X → List ℕ) (f : ℕ → X) (i : ℕ) (front old new : List ℕ) →
    old ≡ front ++ flat_map bytes (map f (range_with_len 0 i)) → new ≡ old ++ bytes (f i) → new ≡ front ++ flat_map bytes (map f (range_with_len 0 (i + 1)))
written_more bytes f i front old new e g =
    let place : 0 + i ≡ i = omega arith in
    g
    ∙ ap (λ xs. xs ++ bytes (f i)) e
    ∙ flat_map_more bytes front (map f (range_with_len 0 i)) (f i)
    ∙ ap (λ xs. front ++ flat_map bytes xs) (sym (map-range_with_len_more f 0 i i place))

-- five pieces from the start
pub five_written : (a b c d last a' b' c' d' e' : List ℕ) → a ≡ a' → b ≡ a ++ b' → c ≡ b ++ c' → d ≡ c ++ d' → last ≡ d ++ e' → last ≡ a' ++ b' ++ c' ++ d' ++ e'
five_written a b c d last a' b' c' d' e' ea eb ec ed el = simp (el, ed, ec, eb, ea)

-- each element by its index
pub each_by_index : {X Y : Type 0} (f : X → Y) (xs : List X) (d : X) → map (λ k. f (get_or xs k d)) (range_with_len 0 (length xs)) ≡ map f xs
each_by_index f xs d = sym (fill_by_all (λ k. f (get_or xs k d)) (map f xs) (length xs) (f d) (length-map xs f) (λ k lt. get_or-map f xs k d))
