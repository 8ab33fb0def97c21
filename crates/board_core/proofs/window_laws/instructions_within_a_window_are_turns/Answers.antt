use Rattle.board_core.proofs.fast.SightTurns.{are_turns}
use Rattle.board_core.proofs.window_laws.instructions_within_a_window_are_turns.Goals as goal

pub returns : goal.returns
returns c = λ x s i n o p cpu sane left on. are_turns x s i o sane left.0 left.1 n p cpu left.2 on
