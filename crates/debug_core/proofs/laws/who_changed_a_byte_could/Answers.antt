use Rattle.debug_core.proofs.Changers.{could_change}
use Rattle.debug_core.proofs.laws.who_changed_a_byte_could.Goals as goal

pub returns : goal.returns
returns c = could_change
