use Rattle.task_table.proofs.model.Reaching.{chain_reaches}
use Rattle.task_table.proofs.laws.chains_reach_devices_where_they_may.Goals as goal

pub returns : goal.returns
returns c = λ g s c u v placed x. chain_reaches g s c placed u v x
