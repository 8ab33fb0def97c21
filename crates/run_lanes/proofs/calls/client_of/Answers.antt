use Rattle.std.proofs.Common.{◌∙◌, arith, sym}
use Rattle.run_lanes.proofs.Asked.{asked_found, asked_none, asked_passed}
use Rattle.run_lanes.proofs.calls.client_of.Goals as goal

pub returns-then-has_asked : goal.returns-then-has_asked
returns-then-has_asked c =
    c.by.ensures ∙ asked_found c.args.call c.loop-i.i c.args.calls.now _ (omega (arith, c.loop-i-test.true)) c.loop-i.invariant (sym c.if-has_asked.ensures)

pub loop-i-preserved : goal.loop-i-preserved
loop-i-preserved c = asked_passed c.args.call c.loop-i.i c.args.calls.now _ (omega (arith, c.loop-i-test.true)) c.loop-i.invariant (sym c.if-has_asked.ensures)

pub returns : goal.returns
returns c = asked_none c.args.call c.loop-i.i c.args.calls.now (omega (arith, c.loop-i-test.false)) c.loop-i.invariant
