use Rattle.task_table.proofs.model.RowChains.{stay-syscall_made}
use Rattle.task_table.proofs.laws.syscalls_leave_devices_alone.Goals as goal

pub returns : goal.returns
returns c = λ g c t h inside ready. stay-syscall_made g c t h (rw (← h.steady.as_many) inside) ready
