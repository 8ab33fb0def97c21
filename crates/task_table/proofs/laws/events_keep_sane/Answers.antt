use Rattle.task_table.proofs.model.Equipped.{sane-fed}
use Rattle.task_table.proofs.model.Timing.{sane-ticked, sane-interrupted, sane-driven}
use Rattle.task_table.proofs.laws.events_keep_sane.Goals as goal

pub returns-clause-ticked : goal.returns-clause-ticked
returns-clause-ticked c = λ g t h. sane-ticked t h

pub returns-clause-interrupted : goal.returns-clause-interrupted
returns-clause-interrupted c = λ g k t h. sane-interrupted k t h

pub returns-clause-fed : goal.returns-clause-fed
returns-clause-fed c = λ g device byte t small h. sane-fed device byte t small h

pub returns-clause-driven : goal.returns-clause-driven
returns-clause-driven c = λ g t h. sane-driven t h
