use Rattle.kernel_abi.specs.declared.Ending.TheVariants.{Client}
use Rattle.task_table.specs.model.Effects.{posted, faulted}
use Rattle.task_table.proofs.model.Noting as noting
use Rattle.task_table.proofs.laws.posts_and_faults_are_noted.Goals as goal

pub returns-clause-posted : goal.returns-clause-posted
returns-clause-posted c = λ i bits t. noting.is_noted t (posted i bits t) (noting.more-posted i bits t)

pub returns-clause-faulted : goal.returns-clause-faulted
returns-clause-faulted c = λ g i fault t. noting.is_noted t (faulted g i fault t) (noting.more-faulted_as g i fault Client t)
