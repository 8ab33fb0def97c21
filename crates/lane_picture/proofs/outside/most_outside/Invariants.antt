use Rattle.std.proofs.Common.{◌≡◌, take, max}
use Rattle.std.specs.Prelude.{fold}
use Rattle.lane_picture.proofs.outside.most_outside.Given as goal

abbrev pub invariant-loop-turns : goal.invariant-loop-turns
invariant-loop-turns l = l.most ≡ fold max 0 (take l.turns-index l.turns-items)
