use Rattle.debug_core.proofs.Lasting.{found_is_told}
use Rattle.debug_core.proofs.laws.what_is_found_is_told.Goals as goal

pub returns : goal.returns
returns c = record { line = λ x kind number t note h on. found_is_told x kind number t note h.start h.turn_is on }
