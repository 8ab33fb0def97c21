use Rattle.std.proofs.Common.{refl, sym, ◌∙◌}
use Rattle.trace_audit.specs.declared.judgement.Judgement.TheVariants.{No}
use Rattle.command_files.specs.Verdict.{audited}
use Rattle.command_files.specs.Pushed.{pushed}
use Rattle.command_files.proofs.commands.audit.tell_no.Goals as goal

pub returns-in-Ok : goal.returns-in-Ok
returns-in-Ok g c = pushed (c.tell.ensures (audited (No c.args.line)) refl (sym (c.as_bytes.ensures.value ∙ c.in-Ok.ensures)))
