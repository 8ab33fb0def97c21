use Rattle.std.proofs.Common.{[]}
use Rattle.task_table.specs.model.Start.{start}
use Rattle.audit_runs.proofs.Speaking.{spoken_start}
use Rattle.audit_runs.proofs.Waiting.{chain_spoken}
use Rattle.audit_runs.proofs.calls.chains_say_what_is_good.Goals as goal

pub returns-clause-start : goal.returns-clause-start
unfolding start
returns-clause-start c = λ g. spoken_start g []

pub returns-clause-chains : goal.returns-clause-chains
returns-clause-chains c = λ g s i old u v placed x h. chain_spoken g s i placed old u v x h
