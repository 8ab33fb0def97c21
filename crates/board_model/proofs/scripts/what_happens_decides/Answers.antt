use Rattle.board_model.proofs.SameScripts.{same_run}
use Rattle.board_model.proofs.scripts.what_happens_decides.Goals as goal

pub returns : goal.returns
returns c = same_run
