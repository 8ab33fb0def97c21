use Rattle.std.proofs.Common.{arith, sym, ◌∙◌}
use Rattle.run_lanes.proofs.Offered.{server_found, server_none, server_passed}
use Rattle.run_lanes.proofs.lanes.server_thread.Goals as goal

pub returns-then-is_of_call : goal.returns-then-is_of_call
returns-then-is_of_call c =
    c.server_thread_of.ensures ∙ server_found c.args.call c.loop-offer.offer-index c.args.offers.now _ (omega (arith, c.loop-offer-test.true)) c.loop-offer.invariant (sym c.if-is_of_call.ensures)

pub loop-offer-preserved : goal.loop-offer-preserved
loop-offer-preserved c =
    server_passed c.args.call c.loop-offer.offer-index c.args.offers.now _ (omega (arith, c.loop-offer-test.true)) c.loop-offer.invariant (sym c.if-is_of_call.ensures)

pub returns : goal.returns
returns c = server_none c.args.call c.loop-offer.offer-index c.args.offers.now (omega (arith, c.loop-offer-test.false)) c.loop-offer.invariant
