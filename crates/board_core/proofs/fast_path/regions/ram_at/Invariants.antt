use Rattle.std.proofs.Common.{◌≡◌, false, take}
use Rattle.std.specs.List.{list_any}
use Rattle.board_core.specs.fast.Reached.{is_ram_at}
use Rattle.board_core.proofs.fast_path.regions.ram_at.Given as goal

-- none so far
abbrev pub invariant-loop-region : goal.invariant-loop-region
invariant-loop-region l = list_any (is_ram_at l.at) (take l.region-index l.regions) ≡ false
