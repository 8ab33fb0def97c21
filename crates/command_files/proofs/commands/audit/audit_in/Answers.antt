use Rattle.std.proofs.Common.{sym, subst, ℕ}
use Rattle.command_files.specs.FileFaults.{IsFaultFor}
use Rattle.command_files.proofs.Refusals.{trace_taken, trace_refused, verdict_found}
use Rattle.command_files.proofs.commands.audit.audit_in.Goals as goal

pub returns-in-Ok-clause-accepted : goal.returns-in-Ok-clause-accepted
returns-in-Ok-clause-accepted c = trace_taken c.args.bytes.now c.requires c.in-Ok.ensures.none

pub returns-in-Ok-clause-verdict : goal.returns-in-Ok-clause-verdict
returns-in-Ok-clause-verdict c = verdict_found c.args.bytes.now c.in-Ok.verdict c.in-Ok.ensures.yes c.in-Ok.ensures.no

pub returns-in-Err-Refused-clause-file_fault : goal.returns-in-Err-Refused-clause-file_fault
returns-in-Err-Refused-clause-file_fault c =
    let why : ℕ × ℕ = (c.in-Err-Refused.cause, c.in-Err-Refused.line) in
    let first = c.audit.ensures.first c.in-Err-Refused.cause c.in-Err-Refused.line (rw c.in-Err-Refused.field-0-is at c.in-Err-Refused.is) in
    subst (λ r. IsFaultFor r c.refused_at_number.result) (sym (trace_refused c.args.bytes.now why c.requires first)) c.refused_at_number.ensures
