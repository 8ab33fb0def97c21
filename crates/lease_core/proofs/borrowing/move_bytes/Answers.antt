use Rattle.task_table.specs.model.State.{Read as Look, Leased, Own, Lease}
use Rattle.task_table.specs.model.Effects.{looked}
use Rattle.task_table.specs.kept.Holds.{kept_of}
use Rattle.task_table.proofs.kept.Messages.{holds_looked}
use Rattle.lease_core.proofs.Stays.{clear_met}
use Rattle.lease_core.proofs.borrowing.move_bytes.Goals as goal

pub returns-in-Read-clause-holds : goal.returns-in-Read-clause-holds
returns-in-Read-clause-holds c = λ g t k h.
    let look : Look = record { call = k.number; part = Leased; base = c.args.leased; len = c.args.count } in
    rw c.in-Read.is (c.copy.ensures.holds g (looked look t) Own (holds_looked g (kept_of c.args.k.now) t look h))

pub returns-in-Write-clause-holds : goal.returns-in-Write-clause-holds
returns-in-Write-clause-holds c = λ g t k h. rw c.in-Write.is (c.copy-in-Write.ensures.holds g t (Lease k.number) h)

pub returns-in-Read-clause-stay : goal.returns-in-Read-clause-stay
returns-in-Read-clause-stay c = λ i y kept clear. c.copy.ensures.stay i y kept (clear_met y c.args.loan.now.args.buffer_base c.args.count c.requires.some (rw c.in-Read.is at clear))

pub returns-in-Write-clause-stay : goal.returns-in-Write-clause-stay
returns-in-Write-clause-stay c = λ i y kept clear. c.copy-in-Write.ensures.stay i y kept (clear_met y c.args.leased c.args.count c.requires.some (rw c.in-Write.is at clear))
