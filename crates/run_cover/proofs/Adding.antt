-- Totals that are added up, place by place.
use Rattle.std.proofs.Common.{◌≡◌, ◌≤◌, ◌+◌, ℕ, List, [], ◌∷◌, ◌++◌, ap, sym, ◌∙◌, arith}
use Rattle.std.specs.Prelude.{fold}
use Rattle.std.specs.List.{range_with_len}
use Rattle.std.proofs.lemmas.List.{map-id}
use Rattle.std.proofs.lemmas.List.FromFn.{map-range_with_len_more}
use Rattle.std.proofs.lemmas.List.Sums.{fold_push}
use Rattle.run_cover.specs.declared.totals.Totals.{Totals}
use Rattle.run_cover.specs.Totals.{AreAtMost, added}

range_more : (n : ℕ) → range_with_len 0 (n + 1) ≡ range_with_len 0 n ++ n ∷ []
range_more n = sym (map-id (range_with_len 0 (n + 1))) ∙ map-range_with_len_more (λ (i : ℕ). i) 0 n n (omega arith) ∙ ap (λ (is : List ℕ). is ++ n ∷ []) (map-id (range_with_len 0 n))

-- one more is added
pub fold_range : {T : Type 0} (f : T → ℕ → T) (t : T) (n : ℕ) → fold f t (range_with_len 0 (n + 1)) ≡ f (fold f t (range_with_len 0 n)) n
fold_range f t n = ap (fold f t) (range_more n) ∙ fold_push f t (range_with_len 0 n) n

pub wider : (n m : ℕ) (t : Totals) → n ≤ m → AreAtMost n t → AreAtMost m t
wider n m t le h =
    let executed = h.executed in
    let known = h.known in
    let gone = h.gone in
    let ways = h.ways in
    record { executed = omega (arith, le, executed); known = omega (arith, le, known); gone = omega (arith, le, gone); ways = omega (arith, le, ways) }

pub most_added : (n m both : ℕ) (t u : Totals) → both ≡ n + m → AreAtMost n t → AreAtMost m u → AreAtMost both (added t u)
most_added n m both t u e g h =
    let executed = g.executed in
    let known = g.known in
    let gone = g.gone in
    let ways = g.ways in
    let executed_too = h.executed in
    let known_too = h.known in
    let gone_too = h.gone in
    let ways_too = h.ways in
    record { executed = omega (arith, e, executed, executed_too); known = omega (arith, e, known, known_too); gone = omega (arith, e, gone, gone_too); ways = omega (arith, e, ways, ways_too) }
