use Rattle.std.proofs.Common.{◌∙◌, ap, refl, inl, inr}
use Rattle.command_files.specs.Pushed.{whole, cut}
use Rattle.command_files.specs.Verdict.{status_of}
use Rattle.board_commands.proofs.run.tell_run.Goals as goal

pub returns-in-Ok-clause-pushed : goal.returns-in-Ok-clause-pushed
returns-in-Ok-clause-pushed g c = λ x s st. whole (c.status_by.ensures ∙ ap status_of (c.in-Ok.ensures.end x s st)) (c.in-Ok.ensures.text x s st)

pub returns-in-Ok-clause-fits : goal.returns-in-Ok-clause-fits
returns-in-Ok-clause-fits g c = λ x st told. c.in-Ok.ensures.fits x st

pub returns-in-Err-clause-pushed : goal.returns-in-Err-clause-pushed
returns-in-Err-clause-pushed g c = λ x s st. cut refl c.in-Err.ensures.cause.failed (c.in-Err.ensures.text x s st)

pub returns-in-Err-clause-fits : goal.returns-in-Err-clause-fits
returns-in-Err-clause-fits g c = λ x st told. elim told [ inl z ↦ absurd (cc) | inr s ↦ absurd (cc) ]
