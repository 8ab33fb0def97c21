use Rattle.std.proofs.Common.{arith}
use Rattle.thumb_decode.proofs.Coded.{coded_of}
use Rattle.thumb_step.proofs.window.RunnerTaker.take.Goals as goal

pub proceed-requires : goal.proceed-requires
proceed-requires c = coded_of c.args.h c.args.insn c.requires (omega arith)
