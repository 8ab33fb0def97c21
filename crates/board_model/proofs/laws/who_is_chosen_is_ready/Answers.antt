use Rattle.board_model.proofs.TurnChains.{chosen_is}
use Rattle.board_model.proofs.laws.who_is_chosen_is_ready.Goals as goal

pub returns-clause-ready : goal.returns-clause-ready
returns-clause-ready c = λ g s i h e. (chosen_is s i h e).ready

pub returns-clause-inside : goal.returns-clause-inside
returns-clause-inside c = λ g s i h e. (chosen_is s i h e).inside
