use Rattle.std.proofs.Common.{arith}
use Rattle.task_table.proofs.kept.Summaries.{none_after, found_after, told_some, there_of}
use Rattle.task_table.proofs.task_set.TaskSet.first_after.Goals as goal

pub lowest_bit-requires : goal.lowest_bit-requires
lowest_bit-requires c = told_some c.args.self.now.words c.args.self.now.summary c.in-Some.later c.args.self.now.summed c.in-Some.ensures.first.1

pub bounds-self-later : goal.bounds-self-later
bounds-self-later c = omega (arith, there_of c.args.self.now.words c.args.self.now.summary c.in-Some.later c.args.self.now.summed c.in-Some.ensures.first.1, c.args.self.now.all_words)

pub returns-in-None : goal.returns-in-None
returns-in-None c = none_after c.args.self.now.words c.args.self.now.summary c.args.word c.args.self.now.summed c.in-None.ensures.first

pub returns-in-Some : goal.returns-in-Some
returns-in-Some c = found_after c.args.self.now.words c.args.self.now.summary c.args.word c.in-Some.later _ c.args.self.now.summed c.in-Some.ensures.first c.lowest_bit.ensures.first
