use Rattle.thumb_asm.specs.Causes.{first_cause}
use Rattle.thumb_asm.proofs.Labels.{refuses_first}
use Rattle.thumb_asm.proofs.passes.assemble_given.Goals as goal

pub returns-in-Err-clause-refused : goal.returns-in-Err-clause-refused
unfolding first_cause
returns-in-Err-clause-refused c = refuses_first c.in-Err.fault _ _ c.in-Err.ensures.err
