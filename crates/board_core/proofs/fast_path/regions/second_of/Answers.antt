use Rattle.std.proofs.Common.{arith}
use Rattle.board_core.proofs.fast.LaidOut.{no_more}
use Rattle.board_core.proofs.fast_path.regions.second_of.Goals as goal

pub returns-then-area-eq0 : goal.returns-then-area-eq0
returns-then-area-eq0 c = no_more c.args.regions.now c.args.stack.now c.args.area.now c.no_region.result c.requires (omega arith) c.no_region.ensures.none
