use Rattle.mem_banks.proofs.Laying.{AreLaidTo, ArePassed}
use Rattle.mem_banks.proofs.opening.lay.Given as goal

-- the banks from the base to `at` are there, and the regions so far begin before it or lie outside
abbrev pub invariant-loop-start : goal.invariant-loop-start
invariant-loop-start l = record {
  laid : AreLaidTo l.regions l.initial.banks.items l.banks.items l.base l.at l.end;
  passed : ArePassed l.regions l.start-index l.at l.end;
}
