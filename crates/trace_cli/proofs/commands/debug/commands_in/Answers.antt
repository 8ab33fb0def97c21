use Rattle.std.proofs.Common.{sym, subst, ℕ}
use Rattle.debug_core.specs.Listed.{listed}
use Rattle.command_files.specs.FileFaults.{IsFaultFor}
use Rattle.trace_cli.proofs.Refusals.{commands_taken, commands_refused}
use Rattle.trace_cli.proofs.commands.debug.commands_in.Goals as goal

pub returns-in-Ok-clause-accepted : goal.returns-in-Ok-clause-accepted
returns-in-Ok-clause-accepted c = commands_taken c.args.bytes.now (listed c.in-Ok.commands) c.requires c.in-Ok.ensures.ok

pub returns-in-Ok-clause-commands : goal.returns-in-Ok-clause-commands
returns-in-Ok-clause-commands c = c.in-Ok.ensures.ok

pub returns-in-Err-Refused-clause-file_fault : goal.returns-in-Err-Refused-clause-file_fault
returns-in-Err-Refused-clause-file_fault c =
    let why : ℕ × ℕ = (c.in-Err-Refused.cause, c.in-Err-Refused.line) in
    let refused = commands_refused c.args.bytes.now why c.requires (rw c.in-Err-Refused.field-0-is at c.in-Err-Refused.ensures.refused) in
    subst (λ r. IsFaultFor r c.refused_at_number.result) (sym refused) c.refused_at_number.ensures
