use Rattle.std.proofs.Common.{arith}
use Rattle.board_model.specs.declared.outcomes.Level.TheVariants.{Calls}
use Rattle.board_model.specs.Turn.{turn}
use Rattle.kernel_tests.proofs.eight_devices.given_out.Goals as goal

pub loop-preserved : goal.loop-preserved
loop-preserved g c =
    let s = c.loop.invariant.stood in
    record {
      stood = (s.0, (turn Calls s.0 s.1).state, c.turn_at.ensures.model s.0 s.1 s.2);
      few = omega (arith, c.loop.invariant.few, c.turn_at.ensures.turns);
    }

pub returns-in_err-push : goal.returns-in_err-push
returns-in_err-push g c =
    let s = c.loop.invariant.stood in
    record { stood = (s.0, (turn Calls s.0 s.1).state, c.turn_at.ensures.model s.0 s.1 s.2) }
