use Rattle.std.proofs.Common.{◌∙◌, ℕ, List, Some, ap, length, refl, sym}
use Rattle.board_commands.specs.Verdict.{saved}
use Rattle.command_files.specs.Verdict.{saved_line}
use Rattle.board_commands.proofs.save.put_state.Goals as goal

pub returns-clause-tells : goal.returns-clause-tells
returns-clause-tells g c = λ n x is.
    let line = c.as_bytes.ensures.value ∙ c.in-Ok.ensures ∙ ap (λ (bs : List ℕ). saved_line (length bs)) is in
    c.put_told.ensures.tells (saved c.args.name.now n x) refl (sym line) (ap (λ (bs : List ℕ). Some (c.args.name.now, bs)) (sym is))
