use Rattle.std.proofs.Common.{◌≡◌, true, false, ap, leb, sym, subst}
use Rattle.std.proofs.lemmas.Bool.{lt-leb}
use Rattle.kernel_abi.specs.declared.LeaseEntry.{LeaseEntry}
use Rattle.task_table.specs.model.Reading.{is_valid}
use Rattle.task_table.specs.model.Borrows.{lease_range}
use Rattle.task_table.specs.kept.Holds.{Holds, kept_of}
use Rattle.task_table.specs.declared.slot.OpenCall.{OpenCall}
use Rattle.task_table.proofs.kept.Messages.{holds_looked}
use Rattle.lease_core.proofs.Rows.{answered_bad, answered_good}
use Rattle.lease_core.proofs.Stays.{held_on}
use Rattle.lease_core.proofs.informing.inform_of.Goals as goal

pub returns-in-Err-clause-holds : goal.returns-in-Err-clause-holds
returns-in-Err-clause-holds c = λ g t k h same lender.
    let a = c.args in
    let leases : k.leases ≡ a.call.now.leases = ap (λ (y : OpenCall). y.leases) same in
    let listed : leb k.leases a.lease ≡ false = rw leases (lt-leb _ _ c.if-call-lease.false) in
    let bad = rw c.in-Err.is at (c.entry_of.ensures.entry g t k h same) in
    subst (Holds g c.answer_nothing.new.k) (sym (answered_bad g a.caller a.lease k a.lender _ t lender listed bad)) (c.answer_nothing.ensures.holds g _ (c.deny.ensures.holds g t (c.entry_of.ensures.holds g t h)))

pub returns-in-Ok-clause-holds : goal.returns-in-Ok-clause-holds
returns-in-Ok-clause-holds c = λ g t k h same lender.
    let a = c.args in
    let leases : k.leases ≡ a.call.now.leases = ap (λ (y : OpenCall). y.leases) same in
    let listed : leb k.leases a.lease ≡ false = rw leases (lt-leb _ _ c.if-call-lease.false) in
    let e = rw c.in-Ok.is at (c.entry_of.ensures.entry g t k h same) in
    let number : k.number ≡ a.call.now.number = ap (λ (y : OpenCall). y.number) same in
    subst (Holds g c.inform_entry.new.k) (sym (answered_good g a.caller a.lease k a.lender _ t lender listed e.0 e.1)) (c.inform_entry.ensures.holds g _ k (holds_looked g (kept_of c.entry_of.new.k) t _ (c.entry_of.ensures.holds g t h)) lender number)

pub returns-in-Ok-clause-held : goal.returns-in-Ok-clause-held
returns-in-Ok-clause-held c = λ g t k h same lender may.
    let a = c.args in
    let table : k.table ≡ a.call.now.table = ap (λ (y : OpenCall). y.table) same in
    let e = rw c.in-Ok.is at (c.entry_of.ensures.entry g t k h same) in
    let kept = rw c.in-Ok.is at c.entry_of.ensures.kept in
    let entries = c.inform_entry.ensures.entries (subst (λ (z : LeaseEntry). is_valid (lease_range z) ≡ true) e.1 may.1) in
    held_on c.entry_of.new.k c.inform_entry.new.k a.lender a.call.now.table a.lease k t.state c.in-Ok.entry lender table e.1 kept (λ y at was. rw entries was)
