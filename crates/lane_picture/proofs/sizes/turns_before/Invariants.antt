use Rattle.std.proofs.Common.{◌≡◌, ◌*◌, ◌≤◌, take}
use Rattle.std.specs.Prelude.{sum}
use Rattle.lane_picture.proofs.sizes.turns_before.Given as goal

abbrev pub invariant-loop-turns : goal.invariant-loop-turns
invariant-loop-turns l = (l.total ≡ sum (take l.turns-index l.turns-items)) × (l.total ≤ l.turns-index * 4294967295)
