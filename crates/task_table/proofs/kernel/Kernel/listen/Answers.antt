use Rattle.std.proofs.Common.{◌<◌, length, arith}
use Rattle.task_table.proofs.kept.Messages.{arguments-past_syscall, from-past_syscall}
use Rattle.task_table.proofs.model.Receives.{idle-past_syscall}
use Rattle.task_table.proofs.kernel.Kernel.listen.Goals as goal

pub returns-clause-holds : goal.returns-clause-holds
returns-clause-holds c = λ g t h idle.
    let i = c.args.task in
    let there : i < length t.state.tasks = omega (arith, c.requires.there, h.count) in
    let h1 = c.go_past_syscall.ensures.holds g t h in
    let h2 = c.start_listening.ensures.holds g _ h1 (idle-past_syscall i t i idle) in
    rw (arguments-past_syscall i t there, from-past_syscall i t c.args.from there) at h2
