use Rattle.std.proofs.Common.{◌≡◌, ◌+◌, ◌*◌, ◌∙◌, ap, ℕ, length, refl, arith}
use Rattle.std.proofs.lemmas.List.{with_items_is}
use Rattle.run_lanes.specs.Counted.{CellsOf, OutsideOf}
use Rattle.run_lanes.proofs.Kept.{cells_halved, cells_moved, double_width, outside_halved, outside_moved, same_width}
use Rattle.run_lanes.proofs.columns.Columns.make_room.Goals as goal

pub invariant_of-self : goal.invariant_of-self
invariant_of-self c =
    let self = c.args.self.now in
    record { cell_each = self.cell_each; outside_each = self.outside_each; there = omega arith; more = omega (arith, self.more, c.saturating_mul-self.ensures) }

pub returns-then-self-eq-MOST_COLUMNS-clause-room : goal.returns-then-self-eq-MOST_COLUMNS-clause-room
returns-then-self-eq-MOST_COLUMNS-clause-room c = λ turns few h.
    let self = c.args.self.now in
    let w = self.width in
    let tasks = self.tasks in
    let m = c.saturating_mul-self.result in
    let n : ℕ = length turns in
    let all : self.column ≡ 1200 = c.if-self-eq-MOST_COLUMNS.true in
    let filled : n ≡ 1200 * w + self.inside = h.at ∙ ap (λ (k : ℕ). k * w + self.inside) all in
    let full : n ≡ 1200 * w = omega (arith, h.room) in
    let wide = double_width n w m few h.wide full c.saturating_mul-self.ensures in
    let cells = c.deref_mut.result.now in
    let outside = c.deref_mut-then-self-eq-MOST_COLUMNS.result.now in
    let were : CellsOf w tasks turns cells = cells_moved w w tasks tasks turns self.cells.items cells refl refl c.deref_mut.ensures.value h.cells in
    let out_were : OutsideOf w turns outside = outside_moved w w turns self.outside.items outside refl c.deref_mut-then-self-eq-MOST_COLUMNS.ensures.value h.outside in
    let many : length cells ≡ 1200 * tasks = omega (arith, ap length c.deref_mut.ensures.value, self.cells.ok.0, self.cell_each) in
    let back : length c.halve.new.cells ≡ self.cells.len = omega (arith, many, c.halve.ensures.as_many, self.cell_each) in
    let out_back : length c.halve_outside.new.outside ≡ self.outside.len = omega (arith, ap length c.deref_mut-then-self-eq-MOST_COLUMNS.ensures.value, c.halve_outside.ensures.as_many, self.outside.ok.0) in
    record {
      wide = wide.1;
      at = omega (arith, wide.0);
      room = omega (arith, wide.0);
      cells = cells_moved (2 * w) m tasks tasks turns c.halve.new.cells _ wide.0 refl (with_items_is self.cells c.halve.new.cells back)
          (cells_halved w tasks turns cells c.halve.new.cells h.room few many were c.halve.ensures.made c.halve.ensures.rest);
      outside = outside_moved (2 * w) m turns c.halve_outside.new.outside _ wide.0 (with_items_is self.outside c.halve_outside.new.outside out_back)
          (outside_halved w turns outside c.halve_outside.new.outside h.room few out_were c.halve_outside.ensures.made c.halve_outside.ensures.rest);
    }

pub returns-else-self-eq-MOST_COLUMNS-clause-room : goal.returns-else-self-eq-MOST_COLUMNS-clause-room
returns-else-self-eq-MOST_COLUMNS-clause-room c = λ turns few h.
    let self = c.args.self.now in
    record {
      wide = same_width (length turns) self.width self.column self.inside h.wide h.at self.more (omega (arith, self.there));
      at = h.at;
      room = h.room;
      cells = h.cells;
      outside = h.outside;
    }
