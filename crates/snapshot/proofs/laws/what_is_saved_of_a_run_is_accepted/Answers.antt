use Rattle.snapshot.proofs.Runs.{saved_run}
use Rattle.snapshot.proofs.laws.what_is_saved_of_a_run_is_accepted.Goals as goal

pub returns : goal.returns
returns c = λ level x n h few tasks turns. saved_run level x n h few tasks turns
