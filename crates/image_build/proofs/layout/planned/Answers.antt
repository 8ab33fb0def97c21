use Rattle.image_build.proofs.Planning.{planned_of}
use Rattle.image_build.proofs.layout.planned.Goals as goal

pub returns-in-Ok-clause-planned : goal.returns-in-Ok-clause-planned
returns-in-Ok-clause-planned c =
    planned_of _ _ _ c.in-Ok.ensures.len c.in-Ok.ensures.placed (c.in-Ok.ensures.aligned c.requires.whole) c.in-Ok.ensures.packed
