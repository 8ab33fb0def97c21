use Rattle.std.proofs.Common.{◌≡◌, ◌+◌, ◌*◌, [], drop, take}
use Rattle.image_format.specs.Regions.{own_fault}
use Rattle.image_format.proofs.regions.check_own.Given as goal

abbrev pub invariant-loop-i : goal.invariant-loop-i
invariant-loop-i l = record {
  place : l.place ≡ l.at + 12 * l.i;
  left : own_fault l.h l.others (take l.i l.own) l.place (drop l.i l.own) ≡ own_fault l.h l.others [] l.at l.own;
}
