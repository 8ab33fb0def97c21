use Rattle.std.proofs.Common.{◌∙◌, ℕ, List, ap, length, map, take, arith}
use Rattle.std.specs.Prelude.{count_by}
use Rattle.std.specs.List.{range_with_len}
use Rattle.run_lanes.specs.Columns.{columns}
use Rattle.run_lanes.specs.Counted.{column_by, comes_from_outside}
use Rattle.run_lanes.proofs.Kept.{outside_in_use}
use Rattle.run_lanes.proofs.columns.Columns.all_outside.Goals as goal

pub returns-clause-used : goal.returns-clause-used
returns-clause-used c = λ turns h.
    let self = c.args.self.now in
    let w = self.width in
    let used = c.in_use.result in
    ap (λ (l : List ℕ). take used l) c.deref.ensures.value
    ∙ outside_in_use w turns self.outside.items used h.outside (omega (arith, self.outside.ok.0, self.outside_each)) c.in_use.ensures.few
    ∙ ap (λ (m : ℕ). map (λ k. count_by comes_from_outside (column_by w turns k)) (range_with_len 0 m)) (c.in_use.ensures.used turns h)
    ∙ ap (λ (v : ℕ). map (λ k. count_by comes_from_outside (column_by v turns k)) (range_with_len 0 (columns (length turns)))) h.wide
