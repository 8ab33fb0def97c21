use Rattle.std.proofs.Common.{◌≡◌, take, true}
use Rattle.region_check.specs.Rights.{is_alone}
use Rattle.region_check.proofs.alone.Given as goal

-- none so far is shared
abbrev pub invariant-loop-region : goal.invariant-loop-region
invariant-loop-region l = is_alone (take l.region-index l.own) l.others ≡ true
