use Rattle.std.proofs.Common.{List, Option, sym, ◌∙◌, ap}
use Rattle.std.specs.Prelude.{slice_get}
use Rattle.std.specs.Option.{option_map}
use Rattle.task_table.specs.declared.Line.{Line}
use Rattle.board_core.proofs.Loading.{rest_held}
use Rattle.board_core.proofs.board.Board.irq_line.Goals as goal

pub returns-in-Some : goal.returns-in-Some
returns-in-Some boxes c = λ x s st.
    let w = rest_held _ _ x.setup _ _ _ st.holds.machine in
    let line = sym c.in-Some.is ∙ c.line.ensures x.setup w.saved w.holds ∙ ap (λ (ls : List Line). slice_get ls c.args.k) (sym w.rest.lines) in
    ap (λ (o : Option Line). option_map (λ (l : Line). (l.enabled, l.pending)) o) line

pub returns-in-None : goal.returns-in-None
returns-in-None boxes c = λ x s st.
    let w = rest_held _ _ x.setup _ _ _ st.holds.machine in
    let line = sym c.in-None.is ∙ c.line.ensures x.setup w.saved w.holds ∙ ap (λ (ls : List Line). slice_get ls c.args.k) (sym w.rest.lines) in
    ap (λ (o : Option Line). option_map (λ (l : Line). (l.enabled, l.pending)) o) line
