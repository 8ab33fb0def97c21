use Rattle.task_table.proofs.model.RowChains.{chain-syscall_made}
use Rattle.task_table.proofs.laws.syscalls_are_chains_of_steps.Goals as goal

pub returns : goal.returns
returns c = λ g c t h inside ready. chain-syscall_made g c t h (rw (← h.steady.as_many) inside) ready
