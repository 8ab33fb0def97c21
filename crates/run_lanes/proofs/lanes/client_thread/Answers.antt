use Rattle.std.proofs.Common.{arith, sym}
use Rattle.run_lanes.proofs.Offered.{client_found, client_none, client_passed}
use Rattle.run_lanes.proofs.lanes.client_thread.Goals as goal

pub returns-then-is_of_call : goal.returns-then-is_of_call
returns-then-is_of_call c =
    client_found c.args.call c.loop-i.i c.args.offers.now _ (omega (arith, c.loop-i-test.true)) c.loop-i.invariant (sym c.if-is_of_call.ensures)

pub loop-i-preserved : goal.loop-i-preserved
loop-i-preserved c =
    client_passed c.args.call c.loop-i.i c.args.offers.now _ (omega (arith, c.loop-i-test.true)) c.loop-i.invariant (sym c.if-is_of_call.ensures)

pub returns : goal.returns
returns c = client_none c.args.call c.loop-i.i c.args.offers.now (omega (arith, c.loop-i-test.false)) c.loop-i.invariant
