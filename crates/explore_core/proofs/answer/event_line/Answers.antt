use Rattle.std.proofs.Common.{rules}
use Rattle.run_script.specs.Texts.{event_line}
use Rattle.explore_core.proofs.answer.event_line.Goals as goal

pub returns : goal.returns
unfolding event_line
returns c = search rules
