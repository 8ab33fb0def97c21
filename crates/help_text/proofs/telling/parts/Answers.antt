use Rattle.std.proofs.Common.{◌≡◌, ◌∙◌, ◌∷◌, [], None, Some, ap, refl, sym}
use Rattle.command_line.specs.declared.job.CommandName.{CommandName}
use Rattle.help_text.specs.Help.{lines, parts_of, parts_on}
use Rattle.help_text.specs.declared.texts.TheConstants.{COMMANDS}
use Rattle.help_text.proofs.telling.parts.Goals as goal

of_none : parts_of None ≡ lines COMMANDS ∷ []
unfolding parts_of
of_none = refl

of_some : (name : CommandName) → parts_of (Some name) ≡ parts_on name
unfolding parts_of
of_some name = refl

pub returns-in-None : goal.returns-in-None
returns-in-None c = sym (ap parts_of c.in-None.is ∙ of_none)

pub returns-in-Some : goal.returns-in-Some
returns-in-Some c = c.parts_on.ensures ∙ sym (ap parts_of c.in-Some.is ∙ of_some c.in-Some.command)
