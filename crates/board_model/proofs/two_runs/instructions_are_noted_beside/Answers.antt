use Rattle.board_model.proofs.AlikeRuns.{less_noted-run}
use Rattle.board_model.proofs.two_runs.instructions_are_noted_beside.Goals as goal

pub returns : goal.returns
returns c = less_noted-run
