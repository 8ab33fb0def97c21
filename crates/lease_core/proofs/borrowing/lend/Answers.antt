use Rattle.std.proofs.Common.{◌≡◌, ◌+◌, ◌-◌, sym, ◌∙◌, subst}
use Rattle.std.specs.Prelude.{min}
use Rattle.task_table.specs.kept.Holds.{Holds}
use Rattle.lease_core.specs.Loans.{way_of}
use Rattle.lease_core.proofs.Leases.{none_bad, moved_none}
use Rattle.lease_core.proofs.Rows.{lent_good}
use Rattle.lease_core.proofs.borrowing.lend.Goals as goal

pub returns-then-count-eq0-clause-holds : goal.returns-then-count-eq0-clause-holds
returns-then-count-eq0-clause-holds c = λ g t k h loan.
    let x = c.args.loan.now in
    let e = c.args.entry.now in
    let none : min x.args.buffer_length (e.len - x.args.offset) ≡ 0 = sym c.min-count.ensures ∙ c.if-count-eq0.true in
    let answered = c.answer_lent.ensures.holds g _ (moved_none x.way g c.args.k.now t k (e.base + x.args.offset) x.args.buffer_base h) in
    let row = lent_good g (way_of x.way) x.borrower x.args k x.lender x.call record { base = e.base + x.args.offset; len = 0 } t loan.lender loan.number (none_bad g x.lender (way_of x.way).lender (e.base + x.args.offset)) in
    rw none (subst (Holds g c.answer_lent.new.k) (sym row) answered)

pub returns-else-count-eq0-clause-stay : goal.returns-else-count-eq0-clause-stay
returns-else-count-eq0-clause-stay c = λ g t h good. rw (← c.min-count.ensures) (c.lend_bytes.ensures.stay g t h (rw c.min-count.ensures good))
