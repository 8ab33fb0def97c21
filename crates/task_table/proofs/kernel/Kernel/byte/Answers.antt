use Rattle.std.proofs.Common.{sym, ◌∙◌}
use Rattle.mem_banks.proofs.Copies.{byte_held, byte_missing}
use Rattle.task_table.proofs.kernel.Kernel.byte.Goals as goal

pub returns-then-holds : goal.returns-then-holds
returns-then-holds c = λ g t h. rw (← h.memory, c.byte.ensures) (byte_held _ c.args.addr (sym c.holds.ensures ∙ c.if-holds.true))

pub returns-else-holds : goal.returns-else-holds
returns-else-holds c = λ g t h. rw (← h.memory) (byte_missing _ c.args.addr (sym c.holds.ensures ∙ c.if-holds.false))
