use Rattle.board_model.proofs.Reached.{reached_in, none_in, fed_before}
use Rattle.board_model.proofs.laws.turns_reach_devices_where_they_may.Goals as goal

pub returns-clause-reached : goal.returns-clause-reached
returns-clause-reached c = λ level x s k h e. reached_in level x s k h e

pub returns-clause-idle : goal.returns-clause-idle
returns-clause-idle c = λ level x s e. none_in level x s e

pub returns-clause-fed : goal.returns-clause-fed
returns-clause-fed c = λ x s. fed_before x s
