use Rattle.board_model.specs.declared.outcomes.Level.TheVariants.{All}
use Rattle.board_model.specs.Turn.{turn}
use Rattle.kernel_tests.proofs.guide.play.Goals as goal

pub turns-preserved : goal.turns-preserved
turns-preserved g c = let s = c.turns.invariant in (s.0, (turn All s.0 s.1).state, c.turn-turned.ensures.model s.0 s.1 s.2)

pub returns-in_err-push : goal.returns-in_err-push
returns-in_err-push g c = let s = c.turns.invariant in (s.0, (turn All s.0 s.1).state, c.turn-turned.ensures.model s.0 s.1 s.2)

pub returns-in_err-print : goal.returns-in_err-print
returns-in_err-print g c = let s = c.turns.invariant in (s.0, (turn All s.0 s.1).state, c.turn-turned.ensures.model s.0 s.1 s.2)
