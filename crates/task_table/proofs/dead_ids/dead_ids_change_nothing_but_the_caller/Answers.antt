use Rattle.task_table.proofs.model.DeadRows as dead
use Rattle.task_table.proofs.dead_ids.dead_ids_change_nothing_but_the_caller.Goals as goal

pub returns-clause-send : goal.returns-clause-send
returns-clause-send c = λ g c t e d m. dead.dead-sent g c t e d m

pub returns-clause-recv : goal.returns-clause-recv
returns-clause-recv c = λ g c t e d m. dead.dead-received g c t e d m

pub returns-clause-read : goal.returns-clause-read
returns-clause-read c = λ g c t e d. dead.dead-read g c t e d

pub returns-clause-written : goal.returns-clause-written
returns-clause-written c = λ g c t e d. dead.dead-written g c t e d

pub returns-clause-informed : goal.returns-clause-informed
returns-clause-informed c = λ g c t e d. dead.dead-informed g c t e d

pub returns-clause-post : goal.returns-clause-post
returns-clause-post c = λ g c t e d. dead.dead-posted g c t e d

pub returns-clause-reply : goal.returns-clause-reply
returns-clause-reply c = λ g c t e d. dead.dead-replied g c t e d

pub returns-clause-reply_fault : goal.returns-clause-reply_fault
returns-clause-reply_fault c = λ g c t e d h. dead.dead-reply_faulted g c t e d h

pub returns-clause-no_reason : goal.returns-clause-no_reason
returns-clause-no_reason c = λ g c t e d h. dead.dead-no_reason g c t e d h

pub returns-clause-past : goal.returns-clause-past
returns-clause-past c = λ c t inside sixteen. dead.answered-goes_on c t inside sixteen

pub returns-clause-alone : goal.returns-clause-alone
returns-clause-alone c = λ c values t inside sixteen few. dead.answered-goes_on_with c values t inside sixteen few
