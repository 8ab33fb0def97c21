use Rattle.std.proofs.Common.{refl}
use Rattle.task_table.proofs.kept.Summaries.{used_of}
use Rattle.task_table.proofs.task_set.used_words.Goals as goal

pub returns : goal.returns
returns c = used_of c.args.summary _ c.ranges.summary.fits refl
