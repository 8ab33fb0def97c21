use Rattle.std.proofs.Common.{◌≡◌, ◌≤◌, drop, length}
use Rattle.image_format.specs.Names.{names_from}
use Rattle.image_format.proofs.names.check_all_names.Given as goal

-- the names of the tasks before are not refused
abbrev pub invariant-loop-i : goal.invariant-loop-i
invariant-loop-i l = record {
  fault : names_from l.end l.tasks l.names ≡ names_from l.end (drop l.i l.tasks) l.rest;
  short : length l.rest ≤ length l.names;
}
