use Rattle.run_cover.proofs.Growing.{taken_and_faulted}
use Rattle.run_cover.proofs.laws.taken_and_faulted_are_executed.Goals as goal

pub returns : goal.returns
returns c = taken_and_faulted
