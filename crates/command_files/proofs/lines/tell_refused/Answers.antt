use Rattle.std.proofs.Common.{refl, sym, ◌∙◌}
use Rattle.command_files.specs.Verdict.{refused}
use Rattle.command_files.specs.Pushed.{pushed}
use Rattle.command_files.proofs.lines.tell_refused.Goals as goal

pub returns-in-Ok : goal.returns-in-Ok
returns-in-Ok g c = pushed (c.tell.ensures (refused c.args.name.now (c.args.cause, c.args.place.now)) refl (sym (c.as_bytes.ensures.value ∙ c.in-Ok.ensures)))
