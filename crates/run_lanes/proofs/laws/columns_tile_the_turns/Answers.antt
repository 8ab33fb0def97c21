use Rattle.std.proofs.Common.{length, arith}
use Rattle.run_lanes.specs.Columns.{column_turns}
use Rattle.run_lanes.proofs.Celled.{activities_add_up}
use Rattle.run_lanes.proofs.Tiled.{few_columns, tile_by}
use Rattle.run_lanes.proofs.Widths.{width_enough, width_least, width_some}
use Rattle.run_lanes.proofs.laws.columns_tile_the_turns.Goals as goal

pub returns-clause-tile : goal.returns-clause-tile
returns-clause-tile c = λ turns. tile_by (column_turns (length turns)) turns (width_some 20 1 (length turns) (omega arith))

pub returns-clause-most : goal.returns-clause-most
returns-clause-most c = λ n le. few_columns n (column_turns n) (width_some 20 1 n (omega arith)) (width_enough 20 1 n (omega arith))

pub returns-clause-least : goal.returns-clause-least
returns-clause-least c = λ n. width_least 20 1 n

pub returns-clause-activities : goal.returns-clause-activities
returns-clause-activities c = λ i turns. activities_add_up i turns
