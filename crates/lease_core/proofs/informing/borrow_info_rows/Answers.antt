use Rattle.std.proofs.Common.{◌≡◌, ◌<◌, length, Some, ap, sym, ◌∙◌, subst, arith}
use Rattle.std.proofs.lemmas.Bool.{false≢true}
use Rattle.kernel_abi.specs.Arguments.{info_args}
use Rattle.kernel_abi.specs.declared.arguments.InfoArgs.{InfoArgs}
use Rattle.task_table.specs.model.Reading.{arguments, dead_code_for, taken_by}
use Rattle.task_table.specs.model.Borrows.{informed}
use Rattle.task_table.specs.kept.Holds.{kept_call}
use Rattle.task_table.proofs.kept.Steps.{some_mapped, none_mapped}
use Rattle.lease_core.specs.Loans.{IsHeldAfter}
use Rattle.lease_core.proofs.Leases.{table_fits, of_lender}
use Rattle.lease_core.proofs.Rows.{Informed}
use Rattle.lease_core.proofs.Wells.{answered_on, answered_by, kept_is}
use Rattle.lease_core.proofs.informing.borrow_info_rows.Goals as goal

pub inform_of-requires-clause-fits : goal.inform_of-requires-clause-fits
inform_of-requires-clause-fits c =
    let s = c.requires.stood in
    let i = c.in-Live.lender in
    let k = some_mapped kept_call (taken_by s.1.state i c.args.caller) _ (sym (c.in-Some.ensures s.0 s.1 s.2)) in
    table_fits s.0 s.1.state i c.args.caller k.0 c.in-Some.call s.2.sane k.1 k.2

pub returns-in-Out-clause-holds : goal.returns-in-Out-clause-holds
unfolding informed
returns-in-Out-clause-holds c = λ g t h.
    let i = c.args.caller in
    let same : c.of-args.result ≡ info_args (arguments t.state i) = c.of-args.ensures ∙ ap info_args (c.arguments.ensures g t h.holds) in
    subst (Informed g c.misuse.new.self i t) same (rw (c.in-Out.ensures.found g t h.holds) (c.misuse.ensures.holds g t h.holds))

pub returns-in-Dead-clause-holds : goal.returns-in-Dead-clause-holds
unfolding informed dead_code_for
returns-in-Dead-clause-holds c = λ g t h.
    let i = c.args.caller in
    let same : c.of-args.result ≡ info_args (arguments t.state i) = c.of-args.ensures ∙ ap info_args (c.arguments.ensures g t h.holds) in
    let dead = c.in-Dead.ensures.found g t h.holds in
    subst (Informed g c.answer_nothing.new.k i t) same (rw (dead.0, dead.1, ← dead.2, ← c.dead_code.ensures) (c.answer_nothing.ensures.holds g t h.holds))

pub returns-in-None-clause-holds : goal.returns-in-None-clause-holds
unfolding informed
returns-in-None-clause-holds c = λ g t h.
    let i = c.args.caller in
    let same : c.of-args.result ≡ info_args (arguments t.state i) = c.of-args.ensures ∙ ap info_args (c.arguments.ensures g t h.holds) in
    let live = c.in-Live.ensures.found g t h.holds in
    let none = none_mapped kept_call (taken_by t.state c.in-Live.lender i) (sym (c.in-None.ensures g t h)) in
    subst (Informed g c.answer_nothing-in-None.new.k i t) same (rw (live.0, live.1, ← live.2, none) (c.answer_nothing-in-None.ensures.holds g t h.holds))

pub returns-in-Some-clause-holds : goal.returns-in-Some-clause-holds
unfolding informed
returns-in-Some-clause-holds c = λ g t h.
    let i = c.args.caller in
    let same : c.of-args.result ≡ info_args (arguments t.state i) = c.of-args.ensures ∙ ap info_args (c.arguments.ensures g t h.holds) in
    let live = c.in-Live.ensures.found g t h.holds in
    let k = some_mapped kept_call (taken_by t.state c.in-Live.lender i) _ (sym (c.in-Some.ensures g t h)) in
    let lender = of_lender g t.state c.in-Live.lender i k.0 h.sane k.1 in
    subst (Informed g c.inform_of.new.k i t) same (rw (live.0, live.1, ← live.2, k.1) (c.inform_of.ensures.holds g t k.0 h.holds k.2 lender))

pub inform_of-requires-clause-lent : goal.inform_of-requires-clause-lent
inform_of-requires-clause-lent c =
    let s = c.requires.stood in
    (c.args.caller, record { setup = s.0; turn = s.1; stands = s.2; taken = sym (c.in-Some.ensures s.0 s.1 s.2) })

pub returns-in-Out-clause-held : goal.returns-in-Out-clause-held
returns-in-Out-clause-held c = λ g t h k taken well none.
    let i = c.args.caller in
    let same : c.of-args.result ≡ info_args (arguments t.state i) = c.of-args.ensures ∙ ap info_args (c.arguments.ensures g t h.holds) in
    let inside : i < length t.state.tasks = omega (arith, c.requires.there, h.holds.count) in
    let answered = answered_on g t h.sane i c.of-args.result same inside well in
    absurd (false≢true (sym answered.0 ∙ c.in-Out.ensures.found g t h.holds))

pub returns-in-Dead-clause-held : goal.returns-in-Dead-clause-held
returns-in-Dead-clause-held c = λ g t h k taken well none.
    let i = c.args.caller in
    let same : c.of-args.result ≡ info_args (arguments t.state i) = c.of-args.ensures ∙ ap info_args (c.arguments.ensures g t h.holds) in
    let inside : i < length t.state.tasks = omega (arith, c.requires.there, h.holds.count) in
    let answered = answered_on g t h.sane i c.of-args.result same inside well in
    let dead = c.in-Dead.ensures.found g t h.holds in
    absurd (false≢true (sym answered.1 ∙ dead.1))

pub returns-in-Some-clause-held : goal.returns-in-Some-clause-held
returns-in-Some-clause-held c = λ g t h k taken well none.
    let i = c.args.caller in
    let args = c.of-args.result in
    let same : args ≡ info_args (arguments t.state i) = c.of-args.ensures ∙ ap info_args (c.arguments.ensures g t h.holds) in
    let inside : i < length t.state.tasks = omega (arith, c.requires.there, h.holds.count) in
    let answered = answered_on g t h.sane i args same inside well in
    let live = c.in-Live.ensures.found g t h.holds in
    let named : taken_by t.state c.in-Live.lender i ≡ Some k = rw (live.2, same) taken in
    let kept = kept_is (taken_by t.state c.in-Live.lender i) k c.in-Some.call named (c.in-Some.ensures g t h) in
    let lender = of_lender g t.state c.in-Live.lender i k h.sane named in
    let by = answered_by g t h.sane i c.in-Live.lender args.lease k inside named (rw (← live.2, named) at answered.2) in
    let lease : args.lease ≡ (info_args (arguments t.state i)).lease = ap (λ (y : InfoArgs). y.lease) same in
    subst (λ n. IsHeldAfter c.inform_of.new.k t.state k n) lease (c.inform_of.ensures.held g t k h.holds kept lender by)
