use Rattle.std.proofs.Common.{◌≡◌, true, false, sym, subst, eqb, bit_and}
use Rattle.std.proofs.lemmas.Bool.{eq-eqb}
use Rattle.task_table.specs.model.Reading.{is_valid}
use Rattle.task_table.specs.model.Borrows.{lease_range}
use Rattle.task_table.specs.kept.Holds.{Holds}
use Rattle.lease_core.specs.Loans.{way_of}
use Rattle.lease_core.proofs.Rows.{granted_invalid}
use Rattle.lease_core.proofs.borrowing.borrow_entry.Goals as goal

pub returns-then-not-is_lease_valid-clause-holds : goal.returns-then-not-is_lease_valid-clause-holds
returns-then-not-is_lease_valid-clause-holds c = λ g t k h loan.
    let x = c.args.loan.now in
    let invalid : is_valid (lease_range c.args.entry.now) ≡ false = sym c.if-not-is_lease_valid.ensures in
    subst (Holds g c.refuse.new.k) (sym (granted_invalid g (way_of x.way) x.borrower x.args k x.lender c.args.entry.now t loan.lender invalid)) (c.refuse.ensures.holds g _ (c.misuse.ensures.holds g t h))

pub returns-then-entry-bit-eq0-clause-holds : goal.returns-then-entry-bit-eq0-clause-holds
returns-then-entry-bit-eq0-clause-holds c = λ g t k h loan.
    let zero : eqb (bit_and c.args.entry.now.attributes (way_of c.args.loan.now.way).bit) 0 ≡ true = rw (← c.bit.ensures) (eq-eqb _ _ c.if-entry-bit-eq0.true) in
    rw (← c.if-not-is_lease_valid.ensures, zero) (c.refuse-then-entry-bit-eq0.ensures.holds g t h)
