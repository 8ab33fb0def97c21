use Rattle.std.proofs.Common.{[], refl}
use Rattle.command_files.specs.Answer.{does}
use Rattle.command_files.specs.Sources.{MayBe}
use Rattle.command_files.specs.Verdict.{helped}
use Rattle.command_files.proofs.Lists.{takes_none}
use Rattle.command_files.proofs.Answering.{pushed_by}
use Rattle.command_files.proofs.commands.help.help.Goals as goal

pub returns : goal.returns
returns g c = λ a b same.
    pushed_by a b _ _ (helped c.args.about) c.tell_help.result same refl
    (does [] (record { takes = takes_none (MayBe a.contents) []; all = refl }) refl) c.tell_help.ensures
