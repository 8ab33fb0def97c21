use Rattle.std.proofs.Common.{◌<◌, ◌/◌, length, sym}
use Rattle.std.proofs.lemmas.Bool.{ltb-true, ltb-false}
use Rattle.std.proofs.lemmas.List.{get_or_read}
use Rattle.task_table.proofs.kept.TaskSets.{has_read, has_past}
use Rattle.task_table.proofs.task_set.TaskSet.contains.Goals as goal

pub returns-in-Some : goal.returns-in-Some
returns-in-Some c =
    let words = c.args.self.now.words in
    let there : c.args.place / 32 < length words = ltb-true _ _ (sym c.in-Some.ensures.lookup.0) in
    has_read words c.args.place c.in-Some.word.now (get_or_read words (c.args.place / 32) c.in-Some.word.now there c.in-Some.ensures.lookup.1 0)

pub returns-in-None : goal.returns-in-None
returns-in-None c = sym (has_past c.args.self.now.words c.args.place (ltb-false _ _ (sym c.in-None.ensures.lookup.0)))
