use Rattle.board_model.proofs.Forks.{meet}
use Rattle.board_model.proofs.scripts.arrivals_that_meet_end_alike.Goals as goal

pub returns : goal.returns
returns c = meet
