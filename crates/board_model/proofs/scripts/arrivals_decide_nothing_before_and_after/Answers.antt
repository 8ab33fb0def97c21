use Rattle.board_model.proofs.Forks.{before, after}
use Rattle.board_model.proofs.scripts.arrivals_decide_nothing_before_and_after.Goals as goal

pub returns : goal.returns
returns c = record { before = before; after = after }
