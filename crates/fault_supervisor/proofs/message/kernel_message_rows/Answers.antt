use Rattle.std.proofs.Common.{◌≡◌, true, false, not, cond, eqb, ◌∙◌, ap, subst}
use Rattle.std.proofs.lemmas.Bool.{eq-eqb, ne_eqb}
use Rattle.kernel_abi.specs.Arguments.{send_args}
use Rattle.kernel_abi.specs.declared.arguments.SendArgs.{SendArgs}
use Rattle.task_table.specs.model.Reading.{arguments}
use Rattle.task_table.specs.model.Rows.{misused}
use Rattle.task_table.specs.model.Requests.{requested}
use Rattle.task_table.specs.kept.Holds.{Holds}
use Rattle.fault_supervisor.specs.Meanings.{heard}
use Rattle.fault_supervisor.proofs.message.kernel_message_rows.Goals as goal

pub returns-then-caller-ne0-clause-holds : goal.returns-then-caller-ne0-clause-holds
unfolding requested
returns-then-caller-ne0-clause-holds c = λ g t h.
    let other : eqb c.args.caller 0 ≡ false = ne_eqb _ _ c.if-caller-ne0.true in
    rw other (c.misuse.ensures.holds g t h.holds)

pub returns-clause-holds : goal.returns-clause-holds
unfolding requested
returns-clause-holds c = λ g t h.
    let i = c.args.caller in
    let same : c.of-args.result ≡ send_args (arguments t.state i) = c.of-args.ensures ∙ ap send_args (c.arguments.ensures g t h.holds) in
    let supervisor : eqb i 0 ≡ true = eq-eqb _ _ c.if-caller-ne0.false in
    let P : SendArgs → Type 0 = λ x. Holds g c.hear_request.new.k (cond (not (eqb i 0)) (misused g i 5 t) (heard g i x t)) in
    subst P same (rw supervisor (c.hear_request.ensures.holds g t h))
