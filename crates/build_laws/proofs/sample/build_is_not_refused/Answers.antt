use Rattle.sample_gen.specs.Sample.{client_priority}
use Rattle.build_laws.proofs.Build.{not_refused}
use Rattle.build_laws.proofs.sample.build_is_not_refused.Goals as goal

pub returns : goal.returns
returns c = λ seed. not_refused seed (client_priority seed)
