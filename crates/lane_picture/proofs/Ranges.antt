-- One more piece of a text whose pieces are numbered from 0 on.
use Rattle.std.proofs.Common.{◌≡◌, ℕ, ◌+◌, List, [], ◌∷◌, ◌++◌, ◌∙◌, ap, sym, arith}
use Rattle.std.specs.List.{flat_map, range_with_len, sum_by}
use Rattle.std.proofs.lemmas.List.{flat_map_more, map-id}
use Rattle.std.proofs.lemmas.List.Sums.{sum_by-append}
use Rattle.std.proofs.lemmas.List.FromFn.{map-range_with_len_more}

pub range_more : (n : ℕ) → range_with_len 0 (n + 1) ≡ range_with_len 0 n ++ n ∷ []
range_more n = sym (map-id (range_with_len 0 (n + 1))) ∙ map-range_with_len_more (λ (x : ℕ). x) 0 n n (omega arith) ∙ ap (λ (ns : List ℕ). ns ++ n ∷ []) (map-id (range_with_len 0 n))

pub pieces_more : (f : ℕ → List ℕ) (before : List ℕ) (n : ℕ) → (before ++ flat_map f (range_with_len 0 n)) ++ f n ≡ before ++ flat_map f (range_with_len 0 (n + 1))
pieces_more f before n = flat_map_more f before (range_with_len 0 n) n ∙ ap (λ (ns : List ℕ). before ++ flat_map f ns) (sym (range_more n))

pub one_more : (f : ℕ → List ℕ) (o x y : List ℕ) (n : ℕ) → x ≡ o ++ flat_map f (range_with_len 0 n) → y ≡ x ++ f n → y ≡ o ++ flat_map f (range_with_len 0 (n + 1))
one_more f o x y n so_far next = next ∙ ap (λ (t : List ℕ). t ++ f n) so_far ∙ pieces_more f o n

pub total_more : (f : ℕ → ℕ) (n total next : ℕ) → total ≡ sum_by f (range_with_len 0 n) → next ≡ f n → total + next ≡ sum_by f (range_with_len 0 (n + 1))
total_more f n total next so_far is = rw (range_more n, sum_by-append f (range_with_len 0 n) (n ∷ [])) (omega (arith, so_far, is))
