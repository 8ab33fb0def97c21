use Rattle.std.proofs.Common.{◌≡◌, refl, ap, ◌∙◌}
use Rattle.kernel_abi.specs.Arguments.{recv_args}
use Rattle.kernel_abi.specs.declared.arguments.RecvArgs.{RecvArgs}
use Rattle.task_table.specs.model.State.{Listen}
use Rattle.task_table.specs.model.Reading.{arguments}
use Rattle.task_table.specs.model.Rows.{buffer_of}
use Rattle.task_table.specs.kept.Messages.{from_of}
use Rattle.task_table.specs.kept.Holds.{kept_listen, from_id_of}
use Rattle.task_table.specs.declared.slot.Wait.TheVariants as wait
use Rattle.task_table.proofs.model.Changes.{timers_same}
use Rattle.task_table.proofs.kept.Messages.{kept-with_listen, answered_as}
use Rattle.task_table.proofs.model.Waiting.{task_at-with_listen, same_but-with_listen}
use Rattle.task_table.proofs.kernel.Kernel.start_listening.Goals as goal

pub returns-clause-holds : goal.returns-clause-holds
returns-clause-holds c = λ g t h idle.
    let i = c.args.task in
    let x = recv_args (arguments t.state i) in
    let from = from_of t.state c.args.from in
    let l : Listen = record { task = i; from = from; mask = x.mask; buffer = buffer_of x } in
    let same : c.of-args.result ≡ x = c.of-args.ensures ∙ ap recv_args (c.arguments.ensures g t h) in
    let mask : c.of-args.result.mask ≡ x.mask = ap (λ (a : RecvArgs). a.mask) same in
    let source : c.from_id.result ≡ from_id_of from = c.from_id.ensures g t h in
    let buffer : c.buffer_of.result ≡ buffer_of x = c.buffer_of.ensures ∙ ap buffer_of same in
    let kept = c.slot-slot.ensures g t h in
    let is : wait.Listen record { from = c.from_id.result; mask = c.of-args.result.mask; buffer = c.buffer_of.result } ≡ wait.Listen (kept_listen l) = rw (source, mask, buffer) refl in
    let next = c.set_slot.ensures.holds g t _ h (kept-with_listen t.state l _ _ kept idle is) (same_but-with_listen t.state l) (timers_same _ _ i (task_at-with_listen t.state l i)) in
    rw (answered_as t.state c.args.from) (rw mask at (c.note.ensures.holds g _ next))
