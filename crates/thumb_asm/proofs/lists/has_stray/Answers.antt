use Rattle.std.proofs.Common.{sym, ◌∙◌, arith, ap}
use Rattle.thumb_asm.specs.Sizes.{any_below, is_stray}
use Rattle.thumb_asm.specs.Kinds.{ranges_in}
use Rattle.thumb_asm.proofs.Below.{any_start, any_next, any_found}
use Rattle.thumb_asm.proofs.lists.has_stray.Goals as goal

pub loop-r-init : goal.loop-r-init
loop-r-init c = any_start (is_stray (ranges_in c.args.text.now) c.args.extra)

pub returns-then-is_stray : goal.returns-then-is_stray
returns-then-is_stray c = sym (any_found (is_stray (ranges_in c.args.text.now) c.args.extra) 16 c.loop-r.r (omega arith) (sym c.is_stray.ensures ∙ c.if-is_stray.true))

pub loop-r-preserved : goal.loop-r-preserved
loop-r-preserved c = any_next (is_stray (ranges_in c.args.text.now) c.args.extra) c.loop-r.r c.loop-r.invariant (sym c.is_stray.ensures ∙ c.if-is_stray.false)

pub returns : goal.returns
returns c = sym (ap (any_below (is_stray (ranges_in c.args.text.now) c.args.extra)) (omega arith) ∙ c.loop-r.invariant)
