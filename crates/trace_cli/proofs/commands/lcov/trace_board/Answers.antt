use Rattle.std.proofs.Common.{◌∙◌, ℕ, List, Some, ap, length, map, refl, sym}
use Rattle.board_model.specs.Run.{Run}
use Rattle.board_model.specs.Script.{start_of}
use Rattle.board_model.specs.declared.outcomes.Level.TheVariants.{All}
use Rattle.run_cover.specs.Tracefile.{run_tracefile, section_of}
use Rattle.trace_cli.specs.Verdict.{traced}
use Rattle.command_files.specs.Verdict.{traced_line}
use Rattle.board_commands.proofs.Starting.{from_start}
use Rattle.trace_cli.proofs.commands.lcov.trace_board.Goals as goal

pub returns-clause-tells : goal.returns-clause-tells
returns-clause-tells g c = λ x st.
    let secs = map section_of c.args.sources.now in
    let text = c.in-Ok-write_tracefile.ensures.text x (start_of x) st ∙ ap (λ (r : Run). run_tracefile r secs) (from_start All x c.args.board.now c.args.job.now.steps st c.requires.fresh) in
    let bytes = c.as_bytes-bytes.ensures.value ∙ text in
    let size = ap (λ (bs : List ℕ). length bs) bytes in
    let line = c.as_bytes.ensures.value ∙ c.in-Ok-line_of_traced.ensures ∙ ap traced_line size in
    c.put_told.ensures.tells (traced c.args.job.now.out.now c.args.job.now.steps secs x) refl (sym line) (ap (λ (bs : List ℕ). Some (c.args.job.now.out.now, bs)) (sym bytes))
