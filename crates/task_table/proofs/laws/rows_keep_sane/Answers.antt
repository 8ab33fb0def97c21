use Rattle.task_table.proofs.model.StepKeeps.{sane-misused, sane-panicked, sane-syscall_noted, sane-timer_set, sane-timer_answered, sane-irq_controlled, sane-irq_answered, sane-received, sane-sent, sane-replied, sane-reply_faulted, sane-post_made, sane-refreshed, sane-read, sane-written, sane-informed, sane-requested, sane-syscall_made}
use Rattle.task_table.proofs.laws.rows_keep_sane.Goals as goal

pub returns-clause-misused : goal.returns-clause-misused
returns-clause-misused c = λ g c usage t h inside. sane-misused c t h inside usage

pub returns-clause-panicked : goal.returns-clause-panicked
returns-clause-panicked c = λ g c t h inside. sane-panicked c t h inside

pub returns-clause-syscall_noted : goal.returns-clause-syscall_noted
returns-clause-syscall_noted c = λ g c t h inside. sane-syscall_noted c t h inside

pub returns-clause-syscall_made : goal.returns-clause-syscall_made
returns-clause-syscall_made c = λ g c t h inside ready. sane-syscall_made c t h inside ready

pub returns-clause-timer_set : goal.returns-clause-timer_set
returns-clause-timer_set c = λ g c t h inside. sane-timer_set c t h inside

pub returns-clause-timer_answered : goal.returns-clause-timer_answered
returns-clause-timer_answered c = λ g c t h inside. sane-timer_answered c t h inside

pub returns-clause-irq_controlled : goal.returns-clause-irq_controlled
returns-clause-irq_controlled c = λ g c t h inside. sane-irq_controlled c t h inside

pub returns-clause-irq_answered : goal.returns-clause-irq_answered
returns-clause-irq_answered c = λ g c t h inside. sane-irq_answered c t h inside

pub returns-clause-received : goal.returns-clause-received
returns-clause-received c = λ g c best t h inside ready is. sane-received c t h inside ready best is

pub returns-clause-sent : goal.returns-clause-sent
returns-clause-sent c = λ g c t h inside ready. sane-sent c t h inside ready

pub returns-clause-replied : goal.returns-clause-replied
returns-clause-replied c = λ g c t h inside ready. sane-replied c t h inside

pub returns-clause-reply_faulted : goal.returns-clause-reply_faulted
returns-clause-reply_faulted c = λ g c t h inside ready. sane-reply_faulted c t h inside

pub returns-clause-post_made : goal.returns-clause-post_made
returns-clause-post_made c = λ g c t h inside ready. sane-post_made c t h inside

pub returns-clause-refreshed : goal.returns-clause-refreshed
returns-clause-refreshed c = λ g c t h inside ready. sane-refreshed c t h inside

pub returns-clause-read : goal.returns-clause-read
returns-clause-read c = λ g c t h inside ready. sane-read c t h inside

pub returns-clause-written : goal.returns-clause-written
returns-clause-written c = λ g c t h inside ready. sane-written c t h inside

pub returns-clause-informed : goal.returns-clause-informed
returns-clause-informed c = λ g c t h inside ready. sane-informed c t h inside

pub returns-clause-requested : goal.returns-clause-requested
returns-clause-requested c = λ g c t h inside ready. sane-requested c t h inside
