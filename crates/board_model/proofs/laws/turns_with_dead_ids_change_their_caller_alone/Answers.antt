use Rattle.board_model.proofs.DeadTurns.{dead_turn}
use Rattle.board_model.proofs.laws.turns_with_dead_ids_change_their_caller_alone.Goals as goal

pub returns : goal.returns
returns c = λ level x s sane. dead_turn level x s sane
