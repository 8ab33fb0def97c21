use Rattle.board_model.proofs.LonerOwnTurns.{own_turns}
use Rattle.board_model.proofs.loners.loners_decide_their_own_turns.Goals as goal

pub returns : goal.returns
returns c = λ level x s h other y u i j hu alike own own_too itself. (own_turns level other x y i j s u alike h hu own own_too itself).0
