use Rattle.board_model.proofs.FaultTurns.{faulted_turn}
use Rattle.board_model.proofs.laws.faults_change_nothing_else.Goals as goal

pub returns-clause-state : goal.returns-clause-state
returns-clause-state a = λ level x s c sane h. (faulted_turn level x s c sane h.chosen h.faulted).same

pub returns-clause-writes : goal.returns-clause-writes
returns-clause-writes a = λ level x s c sane h. (faulted_turn level x s c sane h.chosen h.faulted).writes

pub returns-clause-reads : goal.returns-clause-reads
returns-clause-reads a = λ level x s c sane h. (faulted_turn level x s c sane h.chosen h.faulted).reads
