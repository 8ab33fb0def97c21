use Rattle.std.proofs.Common.{◌≡◌, ◌*◌, refl, rules, arith}
use Rattle.std.specs.Prelude.{replicate}
use Rattle.lane_picture.specs.Sizes.{no_cell}
use Rattle.run_lanes.specs.Columns.{doubled_until}
use Rattle.run_lanes.proofs.Kept.{cells_none, outside_none}
use Rattle.run_lanes.proofs.columns.Columns.open.Goals as goal

pub returns-clause-none : goal.returns-clause-none
unfolding doubled_until
returns-clause-none c =
    let cells : c.in_ok-cells.cells.items ≡ replicate (1200 * c.args.tasks) no_cell = search rules in
    let outside : c.in_ok-outside.outside.items ≡ replicate 1200 0 = search rules in
    record {
      wide = refl;
      at = refl;
      room = omega arith;
      cells = cells_none 1 c.args.tasks c.in_ok-cells.cells.items cells;
      outside = outside_none 1 c.in_ok-outside.outside.items outside;
    }
