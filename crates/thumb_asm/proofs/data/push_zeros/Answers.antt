use Rattle.std.proofs.Common.{◌∙◌}
use Rattle.thumb_asm.proofs.Values.{zeros_next}
use Rattle.thumb_asm.proofs.data.push_zeros.Goals as goal

pub loop-i-preserved : goal.loop-i-preserved
loop-i-preserved c = c.in-Ok.ensures.ok ∙ zeros_next c.args.out.now.items c.loop-i.out.items c.loop-i.i c.loop-i.invariant
