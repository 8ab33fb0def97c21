use Rattle.board_model.proofs.Lifetimes.{grounded-turn}
use Rattle.board_model.proofs.laws.turns_stand_on_their_grounds.Goals as goal

pub returns : goal.returns
returns c = λ level x s h. grounded-turn level x s h
