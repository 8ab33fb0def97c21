use Rattle.std.proofs.Common.{◌*◌, ◌∙◌, ℕ, List, ap, length, map, take, arith}
use Rattle.std.specs.List.{flat_map, range_with_len}
use Rattle.lane_picture.specs.declared.parts.Cell.{Cell}
use Rattle.run_lanes.specs.Columns.{cell_of, columns}
use Rattle.run_lanes.specs.Counted.{column_by}
use Rattle.run_lanes.proofs.Kept.{cells_in_use}
use Rattle.run_lanes.proofs.columns.Columns.all_cells.Goals as goal

pub returns : goal.returns
returns c = λ turns h.
    let self = c.args.self.now in
    let w = self.width in
    let used = c.in_use.result in
    ap (λ (l : List Cell). take (used * self.tasks) l) c.deref.ensures.value
    ∙ cells_in_use w self.tasks turns self.cells.items used h.cells (omega (arith, self.cells.ok.0, self.cell_each)) c.in_use.ensures.few
    ∙ ap (λ (m : ℕ). flat_map (λ k. map (cell_of (column_by w turns k)) (range_with_len 0 self.tasks)) (range_with_len 0 m)) (c.in_use.ensures.used turns h)
    ∙ ap (λ (v : ℕ). flat_map (λ k. map (cell_of (column_by v turns k)) (range_with_len 0 self.tasks)) (range_with_len 0 (columns (length turns)))) h.wide
