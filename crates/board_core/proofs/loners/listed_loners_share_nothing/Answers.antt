use Rattle.board_core.proofs.ListedLoners.{listed_loner}
use Rattle.board_core.proofs.loners.listed_loners_share_nothing.Goals as goal

pub returns : goal.returns
returns c = λ p i facts named. listed_loner p i facts named
