use Rattle.std.proofs.Common.{◌≡◌, ◌+◌, ◌*◌, false, ap, leb, sym, subst}
use Rattle.std.proofs.lemmas.Bool.{lt-leb}
use Rattle.kernel_abi.specs.declared.LeaseEntry.{LeaseEntry}
use Rattle.task_table.specs.model.Borrows.{part_of}
use Rattle.task_table.specs.kept.Holds.{Holds, kept_of}
use Rattle.task_table.specs.declared.slot.OpenCall.{OpenCall}
use Rattle.task_table.proofs.kept.Messages.{holds_looked}
use Rattle.lease_core.specs.Loans.{way_of, IsGranted, target, IsClear}
use Rattle.lease_core.proofs.Rows.{entry_bad, entry_good}
use Rattle.lease_core.proofs.Stays.{held_on}
use Rattle.lease_core.proofs.borrowing.borrow_from.Goals as goal

pub returns-in-Err-clause-holds : goal.returns-in-Err-clause-holds
returns-in-Err-clause-holds c = λ g t k h same loan.
    let x = c.args.loan.now in
    let leases : k.leases ≡ c.args.call.now.leases = ap (λ (y : OpenCall). y.leases) same in
    let listed : leb k.leases x.args.lease ≡ false = rw leases (lt-leb _ _ c.if-call-lease.false) in
    let bad = rw c.in-Err.is at (c.entry_of.ensures.entry g t k h same) in
    subst (Holds g c.refuse.new.k) (sym (entry_bad g (way_of x.way) x.borrower x.args k x.lender _ t loan.lender listed bad)) (c.refuse.ensures.holds g _ (c.deny.ensures.holds g t (c.entry_of.ensures.holds g t h)))

pub returns-in-Ok-clause-holds : goal.returns-in-Ok-clause-holds
returns-in-Ok-clause-holds c = λ g t k h same loan.
    let x = c.args.loan.now in
    let leases : k.leases ≡ c.args.call.now.leases = ap (λ (y : OpenCall). y.leases) same in
    let listed : leb k.leases x.args.lease ≡ false = rw leases (lt-leb _ _ c.if-call-lease.false) in
    let e = rw c.in-Ok.is at (c.entry_of.ensures.entry g t k h same) in
    subst (Holds g c.borrow_entry.new.k) (sym (entry_good g (way_of x.way) x.borrower x.args k x.lender _ t loan.lender listed e.0 e.1)) (c.borrow_entry.ensures.holds g _ k (holds_looked g (kept_of c.entry_of.new.k) t _ (c.entry_of.ensures.holds g t h)) loan)

pub borrow_entry-requires-clause-stood : goal.borrow_entry-requires-clause-stood
borrow_entry-requires-clause-stood c =
    let l = c.requires.lent.1 in
    (l.setup, l.turn, record { holds = c.entry_of.ensures.holds l.setup l.turn l.stands.holds; sane = l.stands.sane })

pub returns-in-Ok-clause-held : goal.returns-in-Ok-clause-held
returns-in-Ok-clause-held c = λ g t k h same loan read granted clear.
    let x = c.args.loan.now in
    let table : k.table ≡ c.args.call.now.table = ap (λ (y : OpenCall). y.table) same in
    let e = rw c.in-Ok.is at (c.entry_of.ensures.entry g t k h same) in
    let kept = rw c.in-Ok.is at c.entry_of.ensures.kept in
    let stay = c.borrow_entry.ensures.stay g t (c.entry_of.ensures.holds g t h) (subst (IsGranted g x) e.1 granted) in
    let base = k.table + 12 * x.args.lease in
    let apart = subst (λ (z : LeaseEntry). IsClear base (target x.way (part_of x.args z).base x.args.buffer_base) (part_of x.args z).len) e.1 clear in
    held_on c.entry_of.new.k c.borrow_entry.new.k x.lender c.args.call.now.table x.args.lease k t.state c.in-Ok.entry loan.lender table e.1 kept (λ y at was.
    let here : base ≡ y.base = rw table (sym at) in
    stay x.lender y was (rw here at apart))
