use Rattle.std.proofs.Common.{refl}
use Rattle.command_files.specs.Pushed.{cut}
use Rattle.trace_cli.proofs.commands.sweep.tell_sweep.Goals as goal

pub returns-in-Err : goal.returns-in-Err
returns-in-Err g c = λ x arrival ready. cut refl c.in-Err.ensures.cause.failed (c.in-Err.ensures.text x arrival ready)
