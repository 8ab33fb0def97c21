use Rattle.std.proofs.Common.{[], refl, sym, ◌∙◌}
use Rattle.command_files.specs.Verdict.{unread}
use Rattle.command_files.specs.Pushed.{pushed}
use Rattle.command_files.proofs.lines.tell_unread.Goals as goal

pub returns-in-Ok : goal.returns-in-Ok
returns-in-Ok g c = pushed (c.tell.ensures (unread [] c.args.name.now) refl (sym (c.as_bytes.ensures.value ∙ c.in-Ok.ensures)))
