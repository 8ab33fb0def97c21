use Rattle.debug_core.proofs.Lasting.{back_again, on_again}
use Rattle.debug_core.proofs.laws.there_and_back.Goals as goal

pub returns : goal.returns
returns c = record { back = back_again; on = λ x s n m t what h most. on_again x s n m t what h.start h.turn_is most }
