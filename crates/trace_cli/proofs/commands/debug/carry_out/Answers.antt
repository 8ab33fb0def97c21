use Rattle.std.proofs.Common.{refl}
use Rattle.debug_core.specs.Session.{opened}
use Rattle.command_files.specs.Pushed.{whole, cut, pushed, silent}
use Rattle.trace_cli.proofs.commands.debug.carry_out.Goals as goal

pub returns-in-Ok-carry_out_all : goal.returns-in-Ok-carry_out_all
returns-in-Ok-carry_out_all g c = λ x st. pushed (whole refl (c.in-Ok-carry_out_all.ensures.told x opened (c.in-Ok.ensures x st)))

pub returns : goal.returns
returns g c = λ x st. pushed (cut refl c.in-Err-carry_out_all.ensures.cause.failed (c.in-Err-carry_out_all.ensures.told x opened (c.in-Ok.ensures x st)))

pub returns-in-Err : goal.returns-in-Err
returns-in-Err g c = λ x st. silent (record { status = refl; written = refl; faults = refl })

pub carry_out_all-requires : goal.carry_out_all-requires
carry_out_all-requires g c = let started = c.requires.started in record { session = (started.0, opened, c.in-Ok.ensures started.0 started.1) }
