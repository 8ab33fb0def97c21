use Rattle.std.proofs.Common.{arith}
use Rattle.task_table.proofs.kernel.Kernel.deny.Goals as goal

pub fault-requires-clause-there : goal.fault-requires-clause-there
fault-requires-clause-there c = c.requires.there

pub fault-requires-clause-room : goal.fault-requires-clause-room
fault-requires-clause-room c = c.requires.room

pub fault-requires-clause-from_one : goal.fault-requires-clause-from_one
fault-requires-clause-from_one c = rw c.access.ensures (omega arith)

pub fault-requires-clause-to_ten : goal.fault-requires-clause-to_ten
fault-requires-clause-to_ten c = rw c.access.ensures (omega arith)

pub returns-clause-holds : goal.returns-clause-holds
returns-clause-holds c = λ g t h. rw c.access.ensures at (c.fault.ensures.holds g t h)

pub returns-clause-stands : goal.returns-clause-stands
returns-clause-stands c = λ g t h. rw c.access.ensures at (c.fault.ensures.stands g t h)

pub returns-clause-frame : goal.returns-clause-frame
returns-clause-frame c = c.fault.ensures.frame
