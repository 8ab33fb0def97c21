use Rattle.std.proofs.Common.{◌≡◌, None, Some, sym, subst}
use Rattle.task_table.specs.model.Reading.{bad_byte}
use Rattle.task_table.specs.kept.Holds.{Holds}
use Rattle.lease_core.specs.Loans.{way_of}
use Rattle.lease_core.proofs.Leases.{leased_good}
use Rattle.lease_core.proofs.Rows.{lent_bad, lent_good}
use Rattle.lease_core.proofs.borrowing.lend_bytes.Goals as goal

pub returns-in-Some-clause-holds : goal.returns-in-Some-clause-holds
returns-in-Some-clause-holds c = λ g t k h loan.
    let x = c.args.loan.now in
    let bad : bad_byte g x.lender (way_of x.way).lender record { base = c.args.leased; len = c.args.count } ≡ Some c.in-Some.at = rw (← c.lender_right.ensures) (sym (c.in-Some.ensures g t h)) in
    let answered = rw c.lender_access.ensures at (c.refuse.ensures.holds g _ (c.deny.ensures.holds g t h)) in
    subst (Holds g c.refuse.new.k) (sym (lent_bad g (way_of x.way) x.borrower x.args k x.lender c.in-Some.at _ t loan.lender bad)) answered

pub move_bytes-requires-clause-leased : goal.move_bytes-requires-clause-leased
move_bytes-requires-clause-leased c =
    let x = c.args.loan.now in
    let s = c.requires.stood in
    let good : bad_byte s.0 x.lender (way_of x.way).lender record { base = c.args.leased; len = c.args.count } ≡ None = rw (← c.lender_right.ensures) (sym (c.in_default.ensures s.0 s.1 s.2.holds)) in
    rw s.2.holds.memory (leased_good x.way s.0 s.1.state.memory x.lender _ s.2.sane.steady.placed good)

pub returns-clause-holds : goal.returns-clause-holds
returns-clause-holds c = λ g t k h loan.
    let x = c.args.loan.now in
    let good : bad_byte g x.lender (way_of x.way).lender record { base = c.args.leased; len = c.args.count } ≡ None = rw (← c.lender_right.ensures) (sym (c.in_default.ensures g t h)) in
    let answered = c.answer_lent.ensures.holds g _ (c.move_bytes.ensures.holds g t k h) in
    subst (Holds g c.answer_lent.new.k) (sym (lent_good g (way_of x.way) x.borrower x.args k x.lender x.call _ t loan.lender loan.number good)) answered
