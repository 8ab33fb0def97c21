use Rattle.std.proofs.Common.{sym, ◌∙◌, arith, ap}
use Rattle.thumb_asm.specs.Sizes.{any_below, is_double}
use Rattle.thumb_asm.specs.Kinds.{ranges_in}
use Rattle.thumb_asm.proofs.Below.{any_start, any_next, any_found}
use Rattle.thumb_asm.proofs.lists.has_double.Goals as goal

pub loop-r-init : goal.loop-r-init
loop-r-init c = any_start (is_double (ranges_in c.args.text.now))

pub returns-then-is_double : goal.returns-then-is_double
returns-then-is_double c = sym (any_found (is_double (ranges_in c.args.text.now)) 16 c.loop-r.r (omega arith) (sym c.is_double.ensures ∙ c.if-is_double.true))

pub loop-r-preserved : goal.loop-r-preserved
loop-r-preserved c = any_next (is_double (ranges_in c.args.text.now)) c.loop-r.r c.loop-r.invariant (sym c.is_double.ensures ∙ c.if-is_double.false)

pub returns : goal.returns
returns c = sym (ap (any_below (is_double (ranges_in c.args.text.now))) (omega arith) ∙ c.loop-r.invariant)
