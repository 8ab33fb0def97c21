use Rattle.std.proofs.Common.{◌∙◌, arith, sym}
use Rattle.run_script.proofs.Wording.{skips}
use Rattle.run_script.proofs.words.without_blanks.Goals as goal

pub loop-i-preserved : goal.loop-i-preserved
loop-i-preserved c = c.loop-i.invariant ∙ skips c.args.text.now c.loop-i.i (omega arith) (sym c.is_blank.ensures ∙ c.if-not-is_blank.false)
