use Rattle.std.proofs.Common.{◌≡◌, drop}
use Rattle.debug_core.proofs.Owners.{owner_in}
use Rattle.debug_core.proofs.debugger.owner_of.Given as goal

abbrev pub invariant-loop-start : goal.invariant-loop-start
invariant-loop-start l = owner_in l.line (drop l.start-index l.owners) ≡ owner_in l.line l.owners
