use Rattle.std.proofs.Common.{◌≡◌, true, false, eqb, bit_and}
use Rattle.std.proofs.lemmas.Bool.{ne_eqb, eq-eqb}
use Rattle.kernel_abi.specs.Arguments.{recv_args}
use Rattle.task_table.specs.model.Reading.{task_at, arguments}
use Rattle.ipc_core.proofs.receiving.receive_input.Goals as goal

pub returns-then-posted_bits-mask-ne0-clause-holds : goal.returns-then-posted_bits-mask-ne0-clause-holds
returns-then-posted_bits-mask-ne0-clause-holds c = λ g t h idle mask who.
    let some : eqb (bit_and (task_at t.state c.args.caller).posted (recv_args (arguments t.state c.args.caller)).mask) 0 ≡ false = rw (← mask, ← c.posted_bits.ensures g t h.holds) (ne_eqb _ _ c.if-posted_bits-mask-ne0.true) in
    rw (some, ← mask) (c.take_bits.ensures.holds g t h.holds)

pub returns-else-posted_bits-mask-ne0-clause-holds : goal.returns-else-posted_bits-mask-ne0-clause-holds
returns-else-posted_bits-mask-ne0-clause-holds c = λ g t h idle mask who.
    let none : eqb (bit_and (task_at t.state c.args.caller).posted (recv_args (arguments t.state c.args.caller)).mask) 0 ≡ true = rw (← mask, ← c.posted_bits.ensures g t h.holds) (eq-eqb _ _ c.if-posted_bits-mask-ne0.false) in
    rw none (c.receive_message.ensures.holds g t h idle who)
