use Rattle.sample_gen.specs.Sample.{client_priority}
use Rattle.build_laws.proofs.Build.{no_source_cause, short}
use Rattle.build_laws.proofs.sample.sources_are_taken.Goals as goal

pub returns : goal.returns
returns c = record {
  accepted = λ seed i h. no_source_cause seed (client_priority seed) i h;
  short = λ seed i h. short seed (client_priority seed) i h;
}
