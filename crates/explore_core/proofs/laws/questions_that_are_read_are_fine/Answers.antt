use Rattle.explore_core.proofs.FineRead.{fine_read}
use Rattle.explore_core.proofs.laws.questions_that_are_read_are_fine.Goals as goal

pub returns : goal.returns
returns c = fine_read
