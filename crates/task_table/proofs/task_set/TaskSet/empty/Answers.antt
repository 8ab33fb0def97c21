use Rattle.std.proofs.Common.{refl}
use Rattle.task_table.specs.kept.Limits.{task_words}
use Rattle.task_table.proofs.kept.TaskSets.{has_none}
use Rattle.task_table.proofs.kept.Summaries.{summary_of_none}
use Rattle.task_table.proofs.task_set.TaskSet.empty.Goals as goal

pub invariant_of-result : goal.invariant_of-result
invariant_of-result c = record { all_words = refl; summed = summary_of_none task_words }

pub returns : goal.returns
returns c = has_none task_words
