use Rattle.std.proofs.Common.{◌≡◌, ◌<◌, length, Some, ap, sym, ◌∙◌, subst, arith}
use Rattle.std.proofs.lemmas.Bool.{false≢true}
use Rattle.kernel_abi.specs.Arguments.{borrow_args}
use Rattle.kernel_abi.specs.declared.arguments.BorrowArgs.{BorrowArgs}
use Rattle.task_table.specs.model.Reading.{arguments, dead_code_for, taken_by}
use Rattle.task_table.specs.model.Borrows.{borrowed}
use Rattle.task_table.specs.kept.Holds.{kept_call}
use Rattle.task_table.specs.declared.slot.OpenCall.{OpenCall}
use Rattle.task_table.proofs.kept.Steps.{some_mapped, none_mapped}
use Rattle.lease_core.specs.Loans.{way_of, IsLoanOf, IsHeldAfter}
use Rattle.lease_core.specs.declared.borrowing.Loan.{Loan}
use Rattle.lease_core.proofs.Leases.{table_fits, of_lender}
use Rattle.lease_core.proofs.Rows.{Borrowed}
use Rattle.lease_core.proofs.Wells.{went_on, went_by, kept_is}
use Rattle.lease_core.proofs.borrowing.borrow.Goals as goal

pub borrow_from-requires-clause-fits : goal.borrow_from-requires-clause-fits
borrow_from-requires-clause-fits c =
    let s = c.requires.stood in
    let i = c.in-Live.lender in
    let k = some_mapped kept_call (taken_by s.1.state i c.args.caller) _ (sym (c.in-Some.ensures s.0 s.1 s.2)) in
    table_fits s.0 s.1.state i c.args.caller k.0 c.in-Some.call s.2.sane k.1 k.2

pub returns-in-Out-clause-holds : goal.returns-in-Out-clause-holds
unfolding borrowed
returns-in-Out-clause-holds c = λ g t h.
    let i = c.args.caller in
    let same : c.of-args.result ≡ borrow_args (arguments t.state i) = c.of-args.ensures ∙ ap borrow_args (c.arguments.ensures g t h.holds) in
    subst (Borrowed g c.misuse.new.self (way_of c.args.way) i t) same (rw (c.in-Out.ensures.found g t h.holds) (c.misuse.ensures.holds g t h.holds))

pub returns-in-Dead-clause-holds : goal.returns-in-Dead-clause-holds
unfolding borrowed dead_code_for
returns-in-Dead-clause-holds c = λ g t h.
    let i = c.args.caller in
    let same : c.of-args.result ≡ borrow_args (arguments t.state i) = c.of-args.ensures ∙ ap borrow_args (c.arguments.ensures g t h.holds) in
    let dead = c.in-Dead.ensures.found g t h.holds in
    subst (Borrowed g c.refuse.new.k (way_of c.args.way) i t) same (rw (dead.0, dead.1, ← dead.2, ← c.dead_code.ensures) (c.refuse.ensures.holds g t h.holds))

pub returns-in-None-clause-holds : goal.returns-in-None-clause-holds
unfolding borrowed
returns-in-None-clause-holds c = λ g t h.
    let i = c.args.caller in
    let same : c.of-args.result ≡ borrow_args (arguments t.state i) = c.of-args.ensures ∙ ap borrow_args (c.arguments.ensures g t h.holds) in
    let live = c.in-Live.ensures.found g t h.holds in
    let none = none_mapped kept_call (taken_by t.state c.in-Live.lender i) (sym (c.in-None.ensures g t h)) in
    subst (Borrowed g c.refuse-in-None.new.k (way_of c.args.way) i t) same (rw (live.0, live.1, ← live.2, none) (c.refuse-in-None.ensures.holds g t h.holds))

pub returns-in-Some-clause-holds : goal.returns-in-Some-clause-holds
unfolding borrowed
returns-in-Some-clause-holds c = λ g t h.
    let i = c.args.caller in
    let same : c.of-args.result ≡ borrow_args (arguments t.state i) = c.of-args.ensures ∙ ap borrow_args (c.arguments.ensures g t h.holds) in
    let live = c.in-Live.ensures.found g t h.holds in
    let k = some_mapped kept_call (taken_by t.state c.in-Live.lender i) _ (sym (c.in-Some.ensures g t h)) in
    let lender = of_lender g t.state c.in-Live.lender i k.0 h.sane k.1 in
    subst (Borrowed g c.borrow_from.new.k (way_of c.args.way) i t) same (rw (live.0, live.1, ← live.2, k.1) (c.borrow_from.ensures.holds g t k.0 h.holds k.2 record { lender = lender; number = ap (λ (x : OpenCall). x.number) k.2 }))

pub borrow_from-requires-clause-lent : goal.borrow_from-requires-clause-lent
borrow_from-requires-clause-lent c =
    let s = c.requires.stood in
    (c.args.caller, record { setup = s.0; turn = s.1; stands = s.2; taken = sym (c.in-Some.ensures s.0 s.1 s.2) })

pub returns-in-Out-clause-held : goal.returns-in-Out-clause-held
returns-in-Out-clause-held c = λ g t h k taken well none.
    let i = c.args.caller in
    let same : c.of-args.result ≡ borrow_args (arguments t.state i) = c.of-args.ensures ∙ ap borrow_args (c.arguments.ensures g t h.holds) in
    let inside : i < length t.state.tasks = omega (arith, c.requires.there, h.holds.count) in
    let went = went_on g t h.sane (way_of c.args.way) i _ c.of-args.result same inside (well, none) in
    absurd (false≢true (sym went.0 ∙ c.in-Out.ensures.found g t h.holds))

pub returns-in-Dead-clause-held : goal.returns-in-Dead-clause-held
returns-in-Dead-clause-held c = λ g t h k taken well none.
    let i = c.args.caller in
    let same : c.of-args.result ≡ borrow_args (arguments t.state i) = c.of-args.ensures ∙ ap borrow_args (c.arguments.ensures g t h.holds) in
    let inside : i < length t.state.tasks = omega (arith, c.requires.there, h.holds.count) in
    let went = went_on g t h.sane (way_of c.args.way) i _ c.of-args.result same inside (well, none) in
    let dead = c.in-Dead.ensures.found g t h.holds in
    absurd (false≢true (sym went.1 ∙ dead.1))

pub returns-in-Some-clause-held : goal.returns-in-Some-clause-held
returns-in-Some-clause-held c = λ g t h k taken well none.
    let i = c.args.caller in
    let args = c.of-args.result in
    let same : args ≡ borrow_args (arguments t.state i) = c.of-args.ensures ∙ ap borrow_args (c.arguments.ensures g t h.holds) in
    let inside : i < length t.state.tasks = omega (arith, c.requires.there, h.holds.count) in
    let went = went_on g t h.sane (way_of c.args.way) i _ args same inside (well, none) in
    let live = c.in-Live.ensures.found g t h.holds in
    let x : Loan = record { way = c.args.way; args = args; borrower = i; lender = c.in-Live.lender; call = c.in-Some.call.number } in
    let named : taken_by t.state c.in-Live.lender i ≡ Some k = rw (live.2, same) taken in
    let kept = kept_is (taken_by t.state c.in-Live.lender i) k c.in-Some.call named (c.in-Some.ensures g t h) in
    let loan : IsLoanOf x k = record { lender = of_lender g t.state c.in-Live.lender i k h.sane named; number = ap (λ (y : OpenCall). y.number) kept } in
    let by = went_by g t h.sane x k _ inside named (rw (← live.2, named) at went.2) in
    let lease : args.lease ≡ (borrow_args (arguments t.state i)).lease = ap (λ (y : BorrowArgs). y.lease) same in
    subst (λ n. IsHeldAfter c.borrow_from.new.k t.state k n) lease (c.borrow_from.ensures.held g t k h.holds kept loan by.0 by.1 (rw (← lease) at by.2))
