use Rattle.std.proofs.Common.{◌≡◌, ℕ, ap, ◌∙◌}
use Rattle.kernel_abi.specs.Faults.{reason_number}
use Rattle.kernel_abi.specs.declared.Fault.{Fault}
use Rattle.task_table.specs.model.State.{Birth}
use Rattle.task_table.specs.model.Sends.{reply_fault_of}
use Rattle.task_table.proofs.model.Clients.{taken_call}
use Rattle.task_table.proofs.kernel.Kernel.reply_fault.Goals as goal

pub returns-clause-holds : goal.returns-clause-holds
returns-clause-holds c = λ g t k h taken.
    let reason = reason_number c.args.reason in
    let o = taken_call g t.state c.args.client c.args.caller k h.sane taken in
    let client : k.client.index ≡ c.args.client = ap (λ (b : Birth). b.index) o.client in
    let fault : c.reply_fault-fault.result ≡ reply_fault_of t.state c.args.caller reason =
    c.reply_fault-fault.ensures ∙ ap (λ (n : ℕ). let x : Fault = record { number = 10; x = n; y = reason } in x) (c.id.ensures g t h.holds) in
    rw (client, ← fault) (c.go_on.ensures.holds g _ (c.fault_as.ensures.holds g t h.holds))
