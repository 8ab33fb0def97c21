use Rattle.std.proofs.Common.{◌∙◌, ℕ, List, Some, ap, length, map, refl, string_bytes, sym}
use Rattle.board_model.specs.Script.{start_of}
use Rattle.run_lanes.specs.Pictured.{picture_text}
use Rattle.trace_cli.specs.Verdict.{drawn}
use Rattle.command_files.specs.Verdict.{drawn_line}
use Rattle.trace_cli.proofs.Timing.{all_left}
use Rattle.trace_cli.proofs.commands.picture.draw_board.Goals as goal

pub returns-clause-tells : goal.returns-clause-tells
returns-clause-tells g c = λ x st.
    let left = all_left x c.args.board.now c.args.job.now.steps st c.requires.fresh in
    let text = c.in-Ok.ensures.text x (start_of x) st ∙ ap (λ (n : ℕ). picture_text c.args.job.now.image.now (map string_bytes c.args.names.now) x n (start_of x)) left in
    let bytes = c.deref.ensures.value ∙ text in
    let size = c.len.ensures ∙ c.in-Ok.bytes.ok.0 ∙ ap (λ (bs : List ℕ). length bs) text in
    let line = c.as_bytes.ensures.value ∙ c.in-Ok-line_of_drawn.ensures ∙ ap drawn_line size in
    c.put_told.ensures.tells (drawn c.args.job.now.out.now c.args.job.now.steps c.args.job.now.image.now (map string_bytes c.args.names.now) x) refl (sym line) (ap (λ (bs : List ℕ). Some (c.args.job.now.out.now, bs)) (sym bytes))
