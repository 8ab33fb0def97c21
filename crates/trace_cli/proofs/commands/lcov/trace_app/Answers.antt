use Rattle.std.proofs.Common.{List, map, subst, ap, ◌∙◌}
use Rattle.run_cover.specs.Tracefile.{Section, section_of}
use Rattle.command_files.specs.Answer.{Tells}
use Rattle.trace_cli.specs.Verdict.{traced}
use Rattle.trace_cli.proofs.commands.lcov.trace_app.Goals as goal

pub returns-in-Ok-clause-tells : goal.returns-in-Ok-clause-tells
returns-in-Ok-clause-tells g c = λ x st.
    let same = ap (λ v. map section_of v) c.deref.ensures.value ∙ c.in-Ok.ensures in
    subst (λ (secs : List Section). Tells (g.F.Files.seen c.args.files.now) (g.F.Files.seen c.trace_board.new.files) (g.S.Sink.seen c.args.out.now) (g.S.Sink.seen c.trace_board.new.out) (traced c.args.job.now.out.now c.args.job.now.steps secs x) c.trace_board.result) same (c.trace_board.ensures.tells x st)
