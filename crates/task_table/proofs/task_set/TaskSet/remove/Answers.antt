use Rattle.std.proofs.Common.{◌<◌, ◌/◌, length, arith, ◌∙◌, length-set}
use Rattle.task_table.proofs.kept.TaskSets.{has_removed}
use Rattle.task_table.proofs.kept.Summaries.{summary_removed}
use Rattle.task_table.proofs.task_set.TaskSet.remove.Goals as goal

pub invariant_of-self : goal.invariant_of-self
invariant_of-self c =
    let words = c.args.self.now.words in
    let there : c.args.place / 32 < length words = omega (arith, c.requires, c.args.self.now.all_words) in
    record {
      all_words = length-set words (c.args.place / 32) _ ∙ c.args.self.now.all_words;
      summed = summary_removed words c.args.self.now.summary c.args.place _ there (omega (arith, c.requires)) c.if-left-eq0.true c.args.self.now.summed;
    }

pub returns-then-left-eq0 : goal.returns-then-left-eq0
returns-then-left-eq0 c = λ i.
    let there : c.args.place / 32 < length c.args.self.now.words = omega (arith, c.requires, c.args.self.now.all_words) in
    has_removed c.args.self.now.words c.args.place i there

pub returns-else-left-eq0 : goal.returns-else-left-eq0
returns-else-left-eq0 c = λ i.
    let there : c.args.place / 32 < length c.args.self.now.words = omega (arith, c.requires, c.args.self.now.all_words) in
    has_removed c.args.self.now.words c.args.place i there
