use Rattle.std.proofs.Common.{arith}
use Rattle.task_table.proofs.kept.TaskSets.{has_past}
use Rattle.task_table.proofs.kept.Summaries.{found_here, found_behind}
use Rattle.task_table.proofs.task_set.TaskSet.first_from.Goals as goal

pub returns-then-word-ge-TASK_WORDS : goal.returns-then-word-ge-TASK_WORDS
returns-then-word-ge-TASK_WORDS c = λ i above. has_past c.args.self.now.words i (omega (arith, above, c.if-word-ge-TASK_WORDS.true, c.args.self.now.all_words))

pub returns-in-Some : goal.returns-in-Some
returns-in-Some c = found_here c.args.self.now.words c.args.place c.in-Some.bit c.in-Some.ensures.first

pub returns-in-None : goal.returns-in-None
returns-in-None c = found_behind c.args.self.now.words c.args.place _ c.in-None.ensures.first c.first_after.ensures
