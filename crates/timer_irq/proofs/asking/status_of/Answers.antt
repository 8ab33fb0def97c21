use Rattle.std.proofs.Common.{◌∙◌, bit_and}
use Rattle.timer_irq.specs.Midway.{status_sum}
use Rattle.timer_irq.proofs.asking.status_of.Goals as goal

pub returns : goal.returns
returns c = λ g t h a.
    let lines = c.own_lines.ensures g t h a in
    let posted = c.posted_bits.ensures g t h in
    c.sum_of.ensures ∙ (λ j. status_sum (lines j) (bit_and (posted j) c.args.bits))
