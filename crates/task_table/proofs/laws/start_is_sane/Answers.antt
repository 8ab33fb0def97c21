use Rattle.task_table.proofs.kept.Starts.{sane-start, counted-start}
use Rattle.task_table.proofs.laws.start_is_sane.Goals as goal

pub returns-clause-sane : goal.returns-clause-sane
returns-clause-sane c = λ g sound. sane-start g sound

pub returns-clause-counted : goal.returns-clause-counted
returns-clause-counted c = λ g. counted-start g
