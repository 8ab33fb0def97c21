use Rattle.std.proofs.Common.{◌≡◌, ap, Ok}
use Rattle.task_table.specs.declared.slot.OpenCall.{OpenCall}
use Rattle.lease_core.proofs.Leases.{entry_from}
use Rattle.lease_core.proofs.entries.entry_of.Goals as goal

pub returns-in-Some-clause-entry : goal.returns-in-Some-clause-entry
returns-in-Some-clause-entry c = λ g t k h same.
    let table : k.table ≡ c.args.call.now.table = ap (λ (x : OpenCall). x.table) same in
    entry_from g t.state c.args.lender k _ c.args.lease (Ok c.in-Some.entry) table (c.in-Some.ensures.holds g t h)

pub returns-in-None-clause-entry : goal.returns-in-None-clause-entry
returns-in-None-clause-entry c = λ g t k h same.
    let table : k.table ≡ c.args.call.now.table = ap (λ (x : OpenCall). x.table) same in
    entry_from g t.state c.args.lender k _ c.args.lease c.read_entry.result table (c.read_entry.ensures.entry g t h)
