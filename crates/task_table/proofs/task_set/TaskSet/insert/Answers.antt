use Rattle.std.proofs.Common.{◌<◌, ◌/◌, length, arith, ◌∙◌, length-set}
use Rattle.task_table.proofs.kept.TaskSets.{has_inserted}
use Rattle.task_table.proofs.kept.Summaries.{summary_inserted}
use Rattle.task_table.proofs.task_set.TaskSet.insert.Goals as goal

pub invariant_of-self : goal.invariant_of-self
invariant_of-self c =
    let words = c.args.self.now.words in
    let there : c.args.place / 32 < length words = omega (arith, c.requires, c.args.self.now.all_words) in
    record {
      all_words = length-set words (c.args.place / 32) _ ∙ c.args.self.now.all_words;
      summed = summary_inserted words c.args.self.now.summary c.args.place there (omega (arith, c.requires)) c.args.self.now.summed;
    }

pub returns : goal.returns
returns c = λ i.
    let there : c.args.place / 32 < length c.args.self.now.words = omega (arith, c.requires, c.args.self.now.all_words) in
    has_inserted c.args.self.now.words c.args.place i there
