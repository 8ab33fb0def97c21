use Rattle.std.proofs.Common.{arith}
use Rattle.thumb_decode.proofs.Coded.{coded_of}
use Rattle.board_core.proofs.fast_path.poller.PollerTaker.take.Goals as goal

pub proceed-requires : goal.proceed-requires
proceed-requires boxes c = coded_of c.args.h c.args.insn c.requires (omega arith)
