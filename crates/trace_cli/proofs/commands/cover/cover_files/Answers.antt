use Rattle.trace_cli.proofs.Reaching.{by_flag}
use Rattle.trace_cli.proofs.commands.cover.cover_files.Goals as goal

pub returns-then-labels-clause-answer : goal.returns-then-labels-clause-answer
returns-then-labels-clause-answer g c = by_flag c.args.job.now.image.now c.args.job.now.script.now c.args.job.now.steps c.args.job.now.labels _ _ _ _ _ _ c.if-labels.true c.cover_app.ensures.answer

pub returns-else-labels-clause-answer : goal.returns-else-labels-clause-answer
returns-else-labels-clause-answer g c = by_flag c.args.job.now.image.now c.args.job.now.script.now c.args.job.now.steps c.args.job.now.labels _ _ _ _ _ _ c.if-labels.false c.cover_image.ensures.answer
