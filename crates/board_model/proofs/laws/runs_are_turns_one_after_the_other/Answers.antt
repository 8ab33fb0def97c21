use Rattle.board_model.proofs.OfTurns.{run_of_turns}
use Rattle.board_model.proofs.laws.runs_are_turns_one_after_the_other.Goals as goal

pub returns : goal.returns
returns c = λ level x n s. run_of_turns level x n s
