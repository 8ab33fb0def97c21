use Rattle.std.proofs.Common.{sym, subst, ℕ}
use Rattle.run_script.specs.Events.{script_data}
use Rattle.command_files.specs.FileFaults.{IsFaultFor}
use Rattle.command_files.proofs.Refusals.{script_taken, script_refused}
use Rattle.command_files.proofs.sources.script_in.Goals as goal

pub returns-in-Ok-clause-accepted : goal.returns-in-Ok-clause-accepted
returns-in-Ok-clause-accepted c = (script_taken c.args.bytes.now (script_data c.in-Ok.script) c.requires c.in-Ok.ensures.ok).0

pub returns-in-Ok-clause-script : goal.returns-in-Ok-clause-script
returns-in-Ok-clause-script c = (script_taken c.args.bytes.now (script_data c.in-Ok.script) c.requires c.in-Ok.ensures.ok).1

pub returns-in-Err-Refused-clause-file_fault : goal.returns-in-Err-Refused-clause-file_fault
returns-in-Err-Refused-clause-file_fault c =
    let why : ℕ × ℕ = (c.in-Err-Refused.cause, c.in-Err-Refused.line) in
    let refused = script_refused c.args.bytes.now why c.requires (rw c.in-Err-Refused.field-0-is at c.in-Err-Refused.ensures.refused) in
    subst (λ r. IsFaultFor r c.refused_at_number.result) (sym refused) c.refused_at_number.ensures
