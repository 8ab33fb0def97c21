use Rattle.task_table.proofs.model.Grounding.{chain_honest, honest_alive}
use Rattle.task_table.proofs.model.Writing.{chain_written}
use Rattle.task_table.proofs.model.Closing.{chain_closed, chain_silent}
use Rattle.task_table.proofs.laws.chains_stand_on_their_grounds.Goals as goal

pub returns-clause-grounded : goal.returns-clause-grounded
returns-clause-grounded c = λ g s c u v placed x f. (chain_honest g s c placed u v x f).grounded

pub returns-clause-granted : goal.returns-clause-granted
returns-clause-granted c = λ g s c u v placed x f. (chain_honest g s c placed u v x f).granted

pub returns-clause-alive : goal.returns-clause-alive
returns-clause-alive c = λ g s c u v placed x f. honest_alive g s c v (chain_honest g s c placed u v x f)

pub returns-clause-written : goal.returns-clause-written
returns-clause-written c = λ g s c u v placed x f. chain_written g s c placed u v x f

pub returns-clause-closed : goal.returns-clause-closed
returns-clause-closed c = λ g s c k u v placed x f gone. chain_closed g s c placed u v x f k gone

pub returns-clause-silent : goal.returns-clause-silent
returns-clause-silent c = λ g s c k u v placed x f gone. chain_silent g s c placed u v x f k gone
