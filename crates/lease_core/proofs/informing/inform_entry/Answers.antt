use Rattle.std.proofs.Common.{◌≡◌, true, false, sym, subst}
use Rattle.task_table.specs.model.Reading.{is_valid}
use Rattle.task_table.specs.model.Borrows.{lease_range}
use Rattle.task_table.specs.kept.Holds.{Holds}
use Rattle.lease_core.proofs.Rows.{answered_invalid, answered_valid}
use Rattle.lease_core.proofs.informing.inform_entry.Goals as goal

pub returns-then-not-is_lease_valid-clause-holds : goal.returns-then-not-is_lease_valid-clause-holds
returns-then-not-is_lease_valid-clause-holds c = λ g t k h lender number.
    let a = c.args in
    let invalid : is_valid (lease_range a.entry.now) ≡ false = sym c.if-not-is_lease_valid.ensures in
    subst (Holds g c.answer_nothing.new.k) (sym (answered_invalid g a.caller a.lease k a.lender a.entry.now t lender invalid)) (c.answer_nothing.ensures.holds g _ (c.misuse.ensures.holds g t h))

pub returns-clause-holds : goal.returns-clause-holds
returns-clause-holds c = λ g t k h lender number.
    let a = c.args in
    let valid : is_valid (lease_range a.entry.now) ≡ true = sym c.if-not-is_lease_valid.ensures in
    subst (Holds g c.answer.new.self) (sym (answered_valid g a.caller a.lease k a.call a.entry.now t number valid)) (c.answer.ensures.holds g _ (c.note.ensures.holds g t h))
