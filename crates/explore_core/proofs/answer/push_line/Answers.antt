use Rattle.std.proofs.Common.{rules}
use Rattle.explore_core.specs.Answers.{kept_line}
use Rattle.explore_core.proofs.answer.push_line.Goals as goal

pub returns-in-Holds-clause-bytes : goal.returns-in-Holds-clause-bytes
unfolding kept_line
returns-in-Holds-clause-bytes g c = search rules

pub returns-in-Unasked-clause-bytes : goal.returns-in-Unasked-clause-bytes
unfolding kept_line
returns-in-Unasked-clause-bytes g c = search rules
