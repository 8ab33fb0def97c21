use Rattle.task_table.proofs.model.Counting.{chain_counts}
use Rattle.task_table.proofs.model.Noting.{step_noted, chain_noted}
use Rattle.task_table.proofs.model.Quieting.{chain_quiet}
use Rattle.task_table.proofs.model.StepKeeps.{chain_sane}
use Rattle.task_table.proofs.laws.chains_keep_what_steps_keep.Goals as goal

pub returns-clause-sane : goal.returns-clause-sane
returns-clause-sane c = λ g s c u v x h. chain_sane g s c u v x h

pub returns-clause-counts : goal.returns-clause-counts
returns-clause-counts c = λ g s c u v placed x h. chain_counts g s c placed u v x h

pub returns-clause-noted : goal.returns-clause-noted
returns-clause-noted c = λ g s c u v x h. chain_noted g s c u v x h

pub returns-clause-few : goal.returns-clause-few
returns-clause-few c = λ g s c u v x. step_noted g s c u v x

pub returns-clause-quiet : goal.returns-clause-quiet
returns-clause-quiet c = λ g s c u v x few. chain_quiet g s c u v x few
