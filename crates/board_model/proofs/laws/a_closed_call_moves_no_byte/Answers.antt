use Rattle.board_model.proofs.ClosedCalls.{closed_still, unused_then, unused_later}
use Rattle.board_model.proofs.laws.a_closed_call_moves_no_byte.Goals as goal

pub returns-clause-noted : goal.returns-clause-noted
returns-clause-noted c = λ level x n m k ending h here later. unused_later level x h n m k ending here later

pub returns-clause-closed : goal.returns-clause-closed
returns-clause-closed c = λ level x n k s h gone. (unused_then level x s h k gone n, closed_still level x s h k gone n)
