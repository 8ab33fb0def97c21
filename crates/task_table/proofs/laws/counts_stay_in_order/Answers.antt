use Rattle.task_table.proofs.model.Counting as counting
use Rattle.task_table.proofs.model.RowChains.{chain-syscall_made}
use Rattle.task_table.proofs.laws.counts_stay_in_order.Goals as goal

pub returns-clause-noted : goal.returns-clause-noted
returns-clause-noted c = λ n t. counting.time-noted n t

pub returns-clause-processor : goal.returns-clause-processor
returns-clause-processor c = λ i registers flags t. counting.time-processor i registers flags t

pub returns-clause-stored : goal.returns-clause-stored
returns-clause-stored c = λ on at bytes t. counting.time-stored on at bytes t

pub returns-clause-current : goal.returns-clause-current
returns-clause-current c = λ i t. counting.time-current i t

pub returns-clause-faulted : goal.returns-clause-faulted
returns-clause-faulted c = λ g i fault t. counting.time-faulted g i fault t

pub returns-clause-posted : goal.returns-clause-posted
returns-clause-posted c = λ i bits t. counting.time-posted i bits t

pub returns-clause-syscall_noted : goal.returns-clause-syscall_noted
returns-clause-syscall_noted c = λ c t. counting.time-syscall_noted c t

pub returns-clause-syscall_made : goal.returns-clause-syscall_made
returns-clause-syscall_made c = λ g c t h inside ready. counting.chain_counts g t.state c h.steady.placed t _ (chain-syscall_made g c t h (rw (← h.steady.as_many) inside) ready) (counting.counts_here t.state)

pub returns-clause-joined : goal.returns-clause-joined
returns-clause-joined c = λ s u v a b. counting.time-joined s u v a b

pub returns-clause-turn : goal.returns-clause-turn
returns-clause-turn c = λ s u h same. counting.counted-turn s u h same

pub returns-clause-same : goal.returns-clause-same
returns-clause-same c = λ s u same. counting.counts_same s u same
