use Rattle.board_model.proofs.TurnChains.{noted_state}
use Rattle.board_model.proofs.Stepping.{moves_state}
use Rattle.board_model.proofs.laws.moves_change_memory_and_devices_alone.Goals as goal

pub returns-clause-moves : goal.returns-clause-moves
returns-clause-moves c = λ moves t. moves_state moves t

pub returns-clause-noted_at : goal.returns-clause-noted_at
returns-clause-noted_at c = λ level n t. noted_state level n t
