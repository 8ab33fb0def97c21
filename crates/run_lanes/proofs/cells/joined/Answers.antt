use Rattle.std.proofs.Common.{◌≡◌, ◌||◌, ℕ, List, length, map, get_or, ap, ◌∙◌, arith}
use Rattle.std.specs.List.{range_with_len}
use Rattle.run_lanes.specs.Counted.{both}
use Rattle.run_lanes.proofs.cells.joined.Goals as goal

pub returns : goal.returns
returns c =
    let a = c.args.first.now in
    let b = c.args.second.now in
    let seven : length a.turns ≡ 7 = omega arith in
    ap (λ (l : List ℕ). record { turns = l; faulted = a.faulted || b.faulted; born = a.born || b.born })
    (c.add_counts.ensures ∙ ap (λ (n : ℕ). map (λ w. both (get_or a.turns w 0) (get_or b.turns w 0)) (range_with_len 0 n)) seven)
