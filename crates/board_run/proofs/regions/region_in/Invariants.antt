use Rattle.std.proofs.Common.{◌≡◌, drop}
use Rattle.std.specs.Prelude.{find}
use Rattle.board_run.proofs.regions.region_in.Given as goal

-- it is to be found among those that are left
abbrev pub invariant-loop-region : goal.invariant-loop-region
invariant-loop-region g l = find (g.T.RegionTest.holds l.test) (drop l.region-index l.regions) ≡ find (g.T.RegionTest.holds l.test) l.regions
