use Rattle.board_model.proofs.Endings.{before_bound}
use Rattle.board_model.proofs.laws.turns_left_end_no_run.Goals as goal

pub returns : goal.returns
returns c = λ x s left h. before_bound x s left h
