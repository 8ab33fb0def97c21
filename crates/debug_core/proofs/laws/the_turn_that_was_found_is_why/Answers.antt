use Rattle.debug_core.proofs.Lasting.{stands_since, unchanged_since}
use Rattle.debug_core.proofs.laws.the_turn_that_was_found_is_why.Goals as goal

pub returns : goal.returns
returns c = record { value = λ x s n at t h e. stands_since x h.start s h.turn_is n at t e; since = unchanged_since }
