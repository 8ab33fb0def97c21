use Rattle.std.proofs.Common.{◌∙◌, ap}
use Rattle.board_core.specs.Changes.{runner_of}
use Rattle.board_core.proofs.Changing.{change_told}
use Rattle.board_core.proofs.board.Board.turn_watching.Goals as goal

pub returns-clause-changed : goal.returns-clause-changed
returns-clause-changed boxes c = λ x s st.
    let turn = c.turn_at-turned.ensures in
    c.change_by.ensures ∙ change_told x c.args.at s _ _ _ (c.runner_of.ensures ∙ ap runner_of (turn.turned x s st)) (c.byte-before.ensures x s st) (c.byte-after.ensures x _ (turn.model x s st))
