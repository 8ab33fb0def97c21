use Rattle.board_core.proofs.Loading.{rest_held}
use Rattle.board_core.proofs.board.Board.entry.Goals as goal

pub returns : goal.returns
returns boxes c = λ x s st.
    let w = rest_held _ _ x.setup _ _ _ st.holds.machine in
    c.entry.ensures x.setup w.saved w.holds
