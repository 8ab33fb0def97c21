use Rattle.sweep_core.proofs.Differences.{no_worse, one_outcome}
use Rattle.sweep_core.proofs.laws.no_difference_says_so_of_each_time.Goals as goal

pub returns : goal.returns
returns c = record { worse = no_worse; one = one_outcome }
