use Rattle.std.proofs.Common.{refl}
use Rattle.command_line.specs.Asking.{asked_run}
use Rattle.trace_cli.proofs.Good.{good_text}
use Rattle.trace_cli.proofs.Readying.{run_below}
use Rattle.trace_cli.proofs.commands.run.run_files.Goals as goal

pub returns-clause-answer : goal.returns-clause-answer
returns-clause-answer g c =
    let good = good_text c.texts_of_runs_are_good.ensures.runs c.memories_are_shown.ensures.none c.memories_are_shown.ensures.memories c.args.job.now.steps c.args.job.now.detail in
    run_below c.args.job.now.steps c.args.job.now.detail c.run_files.ensures.answer (asked_run c.args.job.now) (λ first. refl) (λ contents v done. done) (λ v fits. good v _ fits)
