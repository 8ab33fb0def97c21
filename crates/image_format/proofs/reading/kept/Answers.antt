use Rattle.std.proofs.Common.{refl}
use Rattle.image_format.proofs.Moved.{second_accepted}
use Rattle.image_format.proofs.reading.kept.Goals as goal

pub invariant_of-result : goal.invariant_of-result
invariant_of-result c = record { second = refl; accepted = second_accepted _ c.requires.accepted c.requires.plain }
