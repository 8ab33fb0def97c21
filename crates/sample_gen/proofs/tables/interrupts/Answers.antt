use Rattle.app_toml.specs.Sites.{interrupt_of}
use Rattle.sample_gen.specs.Sample.{line_of}
use Rattle.sample_gen.proofs.Drawn.{one_more}
use Rattle.sample_gen.proofs.tables.interrupts.Goals as goal

pub loop-line-preserved : goal.loop-line-preserved
loop-line-preserved c = one_more interrupt_of line_of c.loop-line.interrupts.items c.push.new.self.items c.in_ok-interrupt.field-0 c.loop-line.line c.loop-line.invariant c.in_ok-interrupt.ensures c.in_ok-push.ensures.items
