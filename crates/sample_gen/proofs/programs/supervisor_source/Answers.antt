use Rattle.sample_gen.specs.Sources.{supervisor_lines}
use Rattle.sample_gen.proofs.programs.supervisor_source.Goals as goal

pub returns : goal.returns
unfolding supervisor_lines
returns c = c.from_str.ensures.ok
