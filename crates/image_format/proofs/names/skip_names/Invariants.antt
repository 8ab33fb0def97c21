use Rattle.std.proofs.Common.{◌≡◌}
use Rattle.image_format.specs.Names.{after_names}
use Rattle.image_format.proofs.names.skip_names.Given as goal

abbrev pub invariant-loop-k : goal.invariant-loop-k
invariant-loop-k l = l.rest ≡ after_names l.k l.bytes
