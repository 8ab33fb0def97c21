use Rattle.std.proofs.Common.{◌∙◌, sym}
use Rattle.snapshot.specs.Restored.{state_in}
use Rattle.snapshot.proofs.loading.load.Goals as goal

pub load_into-requires : goal.load_into-requires
load_into-requires g c = (_, _, c.in-Ok-open.ensures.stands, sym c.in-Ok.ensures ∙ c.in-None.is)

pub returns-clause-start : goal.returns-clause-start
returns-clause-start g c = c.in-Ok-open.ensures.stands.sane

pub returns-clause-stands : goal.returns-clause-stands
returns-clause-stands g c = c.load_into.ensures.stands _ _ c.in-Ok-open.ensures.stands

pub returns-clause-each : goal.returns-clause-each
returns-clause-each g c = λ s spells sane counted same. c.load_into.ensures.each _ _ s c.in-Ok-open.ensures.stands spells sane counted same

pub returns-clause-turns : goal.returns-clause-turns
unfolding state_in
returns-clause-turns g c = (c.load_into.ensures.stands _ _ c.in-Ok-open.ensures.stands).holds.turns
