use Rattle.std.proofs.Common.{sym, ◌∙◌, arith, ap}
use Rattle.thumb_asm.specs.Sizes.{any_below, is_listed}
use Rattle.thumb_asm.specs.Kinds.{ranges_in}
use Rattle.thumb_asm.proofs.Below.{any_start, any_next, any_found}
use Rattle.thumb_asm.proofs.lists.has_lower.Goals as goal

pub loop-r-init : goal.loop-r-init
loop-r-init c = any_start (is_listed (ranges_in c.args.text.now))

pub returns-then-is_listed : goal.returns-then-is_listed
returns-then-is_listed c = sym (any_found (is_listed (ranges_in c.args.text.now)) c.args.n c.loop-r.r (omega arith) (sym c.is_listed.ensures ∙ c.if-is_listed.true))

pub loop-r-preserved : goal.loop-r-preserved
loop-r-preserved c = any_next (is_listed (ranges_in c.args.text.now)) c.loop-r.r c.loop-r.invariant (sym c.is_listed.ensures ∙ c.if-is_listed.false)

pub returns : goal.returns
returns c = sym (ap (any_below (is_listed (ranges_in c.args.text.now))) (omega arith) ∙ c.loop-r.invariant)
