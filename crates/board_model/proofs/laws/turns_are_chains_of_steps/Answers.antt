use Rattle.board_model.proofs.TurnChains.{chosen_chain}
use Rattle.board_model.proofs.laws.turns_are_chains_of_steps.Goals as goal

pub returns : goal.returns
returns c = λ level g c t h e. chosen_chain level g c t h e
