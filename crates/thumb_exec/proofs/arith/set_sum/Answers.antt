use Rattle.std.proofs.Common.{rules}
use Rattle.thumb_exec.proofs.Overflows.{sum_over}
use Rattle.thumb_exec.proofs.arith.set_sum.Goals as goal

pub returns : goal.returns
returns c = rw (← sum_over c.args.x c.args.y c.ranges.x.fits c.ranges.y.fits) (search rules)
