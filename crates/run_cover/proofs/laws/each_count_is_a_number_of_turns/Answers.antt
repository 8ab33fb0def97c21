use Rattle.run_cover.proofs.Executing.{in_run}
use Rattle.run_cover.proofs.Taking.{taken_in_run, faulted_in_run}
use Rattle.run_cover.proofs.laws.each_count_is_a_number_of_turns.Goals as goal

pub returns-clause-executed : goal.returns-clause-executed
returns-clause-executed c = λ x n s a sane. in_run x n s a sane

pub returns-clause-taken : goal.returns-clause-taken
returns-clause-taken c = λ x n s a sane. taken_in_run x n s a sane

pub returns-clause-faulted : goal.returns-clause-faulted
returns-clause-faulted c = λ x n s a sane. faulted_in_run x n s a sane
