use Rattle.task_table.proofs.model.Sanity.{sane-noted, sane-processor, sane-stored, sane-current, sane-turn, sane-faulted}
use Rattle.task_table.proofs.model.Posting.{sane-posted}
use Rattle.task_table.proofs.laws.effects_keep_sane.Goals as goal

pub returns-clause-noted : goal.returns-clause-noted
returns-clause-noted c = λ g n t h. sane-noted n t h

pub returns-clause-processor : goal.returns-clause-processor
returns-clause-processor c = λ g i registers flags t h inside whole. sane-processor i registers flags t h inside whole

pub returns-clause-stored : goal.returns-clause-stored
returns-clause-stored c = λ g on at bytes t h all within. sane-stored on at bytes t h all within

pub returns-clause-current : goal.returns-clause-current
returns-clause-current c = λ g i t h inside. sane-current i t h inside

pub returns-clause-turn : goal.returns-clause-turn
returns-clause-turn c = λ g n t h. sane-turn n t h

pub returns-clause-faulted : goal.returns-clause-faulted
returns-clause-faulted c = λ g i fault t h inside low high. sane-faulted i fault t h inside low high

pub returns-clause-posted : goal.returns-clause-posted
returns-clause-posted c = λ g i bits t h inside. sane-posted i bits t h inside
