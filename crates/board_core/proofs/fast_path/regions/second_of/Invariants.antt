use Rattle.std.proofs.Common.{◌≡◌, drop}
use Rattle.std.specs.Prelude.{find}
use Rattle.board_core.specs.fast.Reached.{is_second}
use Rattle.board_core.proofs.fast_path.regions.second_of.Given as goal

-- none so far
abbrev pub invariant-loop-region : goal.invariant-loop-region
invariant-loop-region l = find (is_second l.stack l.area) (drop l.region-index l.regions) ≡ find (is_second l.stack l.area) l.regions
