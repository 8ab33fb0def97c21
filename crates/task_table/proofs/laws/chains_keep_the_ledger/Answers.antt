use Rattle.task_table.proofs.model.Lives.{as_noted-ledger}
use Rattle.task_table.proofs.model.Ledgers.{as_noted-start, chain_as_noted}
use Rattle.task_table.proofs.laws.chains_keep_the_ledger.Goals as goal

pub returns-clause-start : goal.returns-clause-start
returns-clause-start c = λ g. as_noted-start g

pub returns-clause-as_noted : goal.returns-clause-as_noted
returns-clause-as_noted c = λ g s c old u v placed x h. chain_as_noted g s c placed old u v x h

pub returns-clause-ledger : goal.returns-clause-ledger
returns-clause-ledger c = λ notes s h. as_noted-ledger notes s h
