use Rattle.std.proofs.Common.{◌≡◌, false, true, ap, ◌∙◌, subst, arith}
use Rattle.std.proofs.lemmas.Bool.{le-leb, lt-leb}
use Rattle.kernel_abi.specs.Arguments.{id_args}
use Rattle.kernel_abi.specs.Ids.{index_of}
use Rattle.task_table.specs.model.Reading.{arguments, is_out}
use Rattle.task_table.specs.model.Sends.{refreshed}
use Rattle.ipc_core.proofs.Rows.{Refreshed}
use Rattle.ipc_core.proofs.posting.refresh_rows.Goals as goal

pub returns-then-task-task_count-clause-holds : goal.returns-then-task-task_count-clause-holds
unfolding refreshed is_out
returns-then-task-task_count-clause-holds c = λ g t h.
    let i = c.args.caller in
    let same : c.of-args.result ≡ id_args (arguments t.state i) = c.of-args.ensures ∙ ap id_args (c.arguments.ensures g t h) in
    let out : is_out t.state c.of-args.result.id.number ≡ true = le-leb _ _ (omega (arith, h.count, c.task_count.ensures.value, c.from-task.ensures, c.index.ensures.value, c.if-task-task_count.true)) in
    subst (Refreshed g c.misuse.new.self i t) same (rw out (c.misuse.ensures.holds g t h))

pub returns-clause-holds : goal.returns-clause-holds
unfolding refreshed is_out
returns-clause-holds c = λ g t h.
    let i = c.args.caller in
    let same : c.of-args.result ≡ id_args (arguments t.state i) = c.of-args.ensures ∙ ap id_args (c.arguments.ensures g t h) in
    let index : c.from-task.result ≡ index_of c.of-args.result.id.number = c.from-task.ensures ∙ c.index.ensures.value in
    let there : is_out t.state c.of-args.result.id.number ≡ false = lt-leb _ _ (omega (arith, h.count, c.task_count.ensures.value, index, c.if-task-task_count.false)) in
    subst (Refreshed g c.answer.new.self i t) same (rw (there, ← index, ← c.id-id.ensures g t h, ← c.from.ensures) (c.answer.ensures.holds g t h))
