use Rattle.std.proofs.Common.{refl, sym}
use Rattle.command_files.specs.Pushed.{whole, cut}
use Rattle.command_files.proofs.lines.tell.Goals as goal

pub returns-in-Ok : goal.returns-in-Ok
returns-in-Ok g c = λ v is text. whole (sym is) (rw text c.in-Ok.ensures.bytes)

pub returns-in-Err : goal.returns-in-Err
returns-in-Err g c = λ v is text. cut refl c.in-Err.ensures.cause.failed (rw text c.in-Err.ensures.bytes)
