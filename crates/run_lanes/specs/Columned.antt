-- The turns so far, as they are kept in memory for 1,200 columns. Columns that have no turns yet are kept
-- too.
use Rattle.std.specs.Prelude.{◌≡◌, ◌≤◌, ℕ, ◌+◌, ◌*◌, List, length}
use Rattle.run_lanes.specs.declared.columns.Columns.{Columns}
use Rattle.run_lanes.specs.Columns.{column_turns, most_columns}
use Rattle.run_lanes.specs.Counted.{CellsOf, OutsideOf}
use Rattle.run_lanes.specs.Activities.{TurnSight}

-- the columns of these turns; a column has as many turns as it needs to have for n turns in all
pub record Columned (c : Columns) (n : ℕ) (turns : List TurnSight) : Type 0 where
  pub wide : c.width ≡ column_turns n
  pub at : length turns ≡ c.column * c.width + c.inside
  pub room : length turns ≤ most_columns * c.width
  pub cells : CellsOf c.width c.tasks turns c.cells.items
  pub outside : OutsideOf c.width turns c.outside.items
