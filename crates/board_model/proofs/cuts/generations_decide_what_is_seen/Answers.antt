use Rattle.board_model.proofs.GenerationsSeen.{turned_reduced, ending_reduced}
use Rattle.board_model.proofs.cuts.generations_decide_what_is_seen.Goals as goal

pub returns : goal.returns
returns c = record { end = ending_reduced; turned = turned_reduced }
