use Rattle.std.proofs.Common.{◌∙◌}
use Rattle.std.proofs.lemmas.List.{length-map}
use Rattle.run_lanes.specs.Stretches.{activities_of}
use Rattle.run_lanes.specs.Timeline.{activity_at}
use Rattle.run_lanes.proofs.Stretched.{all_turns, alternate, tile, told_all}
use Rattle.run_lanes.proofs.laws.stretches_tile_the_turns.Goals as goal

pub returns-clause-tile : goal.returns-clause-tile
returns-clause-tile c = λ i turns. tile (activities_of i turns)

pub returns-clause-turns : goal.returns-clause-turns
returns-clause-turns c = λ i turns. all_turns (activities_of i turns) ∙ length-map turns (λ t. activity_at t.activities i)

pub returns-clause-differ : goal.returns-clause-differ
returns-clause-differ c = λ i turns. alternate (activities_of i turns)

pub returns-clause-told : goal.returns-clause-told
returns-clause-told c = λ i turn turns. told_all turn (activities_of i turns)
