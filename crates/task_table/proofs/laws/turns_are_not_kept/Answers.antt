use Rattle.task_table.specs.kept.Holds.{kept_of}
use Rattle.task_table.proofs.kept.Steps.{holds_turn}
use Rattle.task_table.proofs.laws.turns_are_not_kept.Goals as goal

pub returns : goal.returns
returns c = λ g k t n h. holds_turn g (kept_of k) t n h
