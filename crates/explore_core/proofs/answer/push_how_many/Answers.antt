use Rattle.std.proofs.Common.{◌≡◌, ◌∙◌, ◌++◌, List, ℕ, ap, subst}
use Rattle.std.specs.Prelude.{codes, decimal}
use Rattle.outside_io.specs.Outside.{Pushes}
use Rattle.explore_core.proofs.answer.push_how_many.Goals as goal

pub returns-clause-bytes : goal.returns-clause-bytes
returns-clause-bytes g c =
    let bytes : c.push_str-2.new.self.bytes ≡ codes "# " ++ decimal c.args.count ++ codes " schedules\n" =
    c.push_str-2.ensures.bytes
    ∙ ap (λ (w : List ℕ). w ++ codes " schedules\n")
    (c.push_decimal.ensures.bytes ∙ ap (λ (w : List ℕ). w ++ decimal c.args.count) (c.push_str.ensures.bytes ∙ ap (λ (w : List ℕ). w ++ codes "# ") c.new-piece.ensures)) in
    subst (λ (w : List ℕ). Pushes (g.S.Sink.seen c.args.out.now).written (g.S.Sink.seen c.push_piece.new.out).written w c.push_piece.result) bytes c.push_piece.ensures.bytes
