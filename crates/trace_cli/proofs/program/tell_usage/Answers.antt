use Rattle.std.proofs.Common.{refl, sym}
use Rattle.command_files.specs.Pushed.{pushed}
use Rattle.trace_cli.specs.Verdict.{usage}
use Rattle.trace_cli.proofs.program.tell_usage.Goals as goal

pub returns : goal.returns
returns g c = pushed (c.tell.ensures usage refl (sym c.as_bytes.ensures.value))
