use Rattle.std.proofs.Common.{◌∙◌, sym}
use Rattle.clap.specs.Words.{found_of, rows_of}
use Rattle.command_line.proofs.Named.{whole_has_name, whole_named}
use Rattle.command_line.proofs.job.job_by.Goals as goal

pub returns-in_err-command-clause-job : goal.returns-in_err-command-clause-job
returns-in_err-command-clause-job c = λ whole. absurd (whole_has_name _ _ whole (sym c.command_named.ensures ∙ c.in_err-command.was))

pub returns-clause-job : goal.returns-clause-job
returns-clause-job c = λ whole.
    let holds = whole_named c.args.name.now (rows_of (found_of c.args.matches.now)) c.in_ok-command.command whole (sym c.command_named.ensures ∙ c.in_ok-command.was) in
    holds.asks ∙ c.job_of_command.ensures.job holds.all

pub returns-clause-few : goal.returns-clause-few
returns-clause-few c = λ whole.
    let holds = whole_named c.args.name.now (rows_of (found_of c.args.matches.now)) c.in_ok-command.command whole (sym c.command_named.ensures ∙ c.in_ok-command.was) in
    c.job_of_command.ensures.few holds.all
