use Rattle.board_model.proofs.Forks.{fork}
use Rattle.board_model.proofs.scripts.an_arrival_goes_on_from_before_it.Goals as goal

pub returns : goal.returns
returns c = fork
