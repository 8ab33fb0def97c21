use Rattle.task_table.proofs.model.RowChains.{comes-syscall_made}
use Rattle.task_table.proofs.laws.syscalls_fault_at_once_or_spare_their_caller.Goals as goal

pub returns : goal.returns
returns c = λ g c t h inside ready. comes-syscall_made g c t h (rw (← h.steady.as_many) inside) ready
