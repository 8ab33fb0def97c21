use Rattle.std.proofs.Common.{◌≡◌, drop}
use Rattle.std.specs.Prelude.{find}
use Rattle.board_core.specs.fast.Reached.{is_area}
use Rattle.board_core.proofs.fast_path.regions.area_of.Given as goal

-- none so far
abbrev pub invariant-loop-region : goal.invariant-loop-region
invariant-loop-region l = find (is_area l.stack) (drop l.region-index l.regions) ≡ find (is_area l.stack) l.regions
