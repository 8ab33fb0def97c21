use Rattle.std.proofs.Common.{◌≡◌, ◌∙◌, sym, ap, Option, Some, Bor, option_map, codes}
use Rattle.clap.specs.Words.{Text, first_value, found_of, rows_of}
use Rattle.clap.specs.Walk.{first_of}
use Rattle.clap.specs.declared.parser.matches.Found.{Found}
use Rattle.clap.proofs.WalkLemmas.{first_value-rows}
use Rattle.command_line.specs.CommandLine.{help, help_on}
use Rattle.command_line.proofs.job.help_by.Goals as goal

-- the word that was looked up
found : (f : Found) (id : Text) (r : Option (Bor Text)) → option_map (λ s. s.now) r ≡ first_value f id → option_map (λ s. s.now) r ≡ first_of id (rows_of f)
found f id r e = e ∙ first_value-rows f id

pub returns-in-None-clause-job : goal.returns-in-None-clause-job
returns-in-None-clause-job c =
    let word = found (found_of c.args.matches.now) (codes "command") c.get_str.result c.get_str.ensures in
    ap help_on (rw c.in-None.is at word)

pub returns-in-Some-command_named-clause-job : goal.returns-in-Some-command_named-clause-job
returns-in-Some-command_named-clause-job c =
    let word = found (found_of c.args.matches.now) (codes "command") c.get_str.result c.get_str.ensures in
    ap (option_map (λ n. help (Some n))) (sym c.in-Some-command_named.is ∙ c.command_named.ensures) ∙ ap help_on (rw c.in-Some.is at word)

pub returns-in-None-command_named-clause-job : goal.returns-in-None-command_named-clause-job
returns-in-None-command_named-clause-job c =
    let word = found (found_of c.args.matches.now) (codes "command") c.get_str.result c.get_str.ensures in
    ap (option_map (λ n. help (Some n))) (sym c.in-None-command_named.is ∙ c.command_named.ensures) ∙ ap help_on (rw c.in-Some.is at word)
