use Rattle.std.proofs.Common.{◌/◌, arith}
use Rattle.std.proofs.lemmas.Bool.{eqb-true}
use Rattle.thumb_step.specs.Windows.{view_of}
use Rattle.thumb_step.proofs.Gliding.{syscall_here}
use Rattle.thumb_step.proofs.window.Window.is_at_syscall.Goals as goal

pub returns-in-Some-clause-fetched : goal.returns-in-Some-clause-fetched
returns-in-Some-clause-fetched c = λ e. syscall_here (view_of c.args.self.now) c.args.processor.now c.get-at.result c.in-Some.half c.requires.apart c.get-at.ensures c.in-Some.ensures (omega arith) (eqb-true (c.in-Some.half / 256) 0xDF e)
