use Rattle.std.proofs.Common.{◌≡◌, None, sym}
use Rattle.task_table.specs.model.Reading.{bad_byte}
use Rattle.task_table.specs.model.Borrows.{buffer_of}
use Rattle.lease_core.specs.Loans.{way_of}
use Rattle.lease_core.proofs.Leases.{buffer_good}
use Rattle.lease_core.proofs.borrowing.borrow_into.Goals as goal

pub lend-requires-clause-buffer : goal.lend-requires-clause-buffer
lend-requires-clause-buffer c =
    let x = c.args.loan.now in
    let s = c.requires.stood in
    let good : bad_byte s.0 x.borrower (way_of x.way).own (buffer_of x.args) ≡ None = rw (← c.own_right.ensures) (sym (c.in_default.ensures s.0 s.1 s.2.holds)) in
    rw s.2.holds.memory (buffer_good x.way s.0 s.1.state.memory x.borrower (buffer_of x.args) s.2.sane.steady.placed good)
