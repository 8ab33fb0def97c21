use Rattle.task_table.specs.kept.Holds.{kept_of}
use Rattle.task_table.proofs.kept.Messages.{holds_looked}
use Rattle.task_table.proofs.laws.reads_are_not_kept.Goals as goal

pub returns : goal.returns
returns c = λ g k t r h. holds_looked g (kept_of k) t r h
