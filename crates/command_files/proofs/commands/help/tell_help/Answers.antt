use Rattle.std.proofs.Common.{refl}
use Rattle.command_files.specs.Pushed.{whole, cut}
use Rattle.command_files.proofs.commands.help.tell_help.Goals as goal

pub returns-in-Ok : goal.returns-in-Ok
returns-in-Ok g c = whole refl c.in-Ok.ensures.bytes

pub returns-in-Err : goal.returns-in-Err
returns-in-Err g c = cut refl c.in-Err.ensures.cause.failed c.in-Err.ensures.bytes
