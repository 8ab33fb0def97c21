use Rattle.std.proofs.Common.{sym, ◌∙◌}
use Rattle.board_core.proofs.Loading.{rest_held}
use Rattle.board_core.proofs.board.Board.task_count.Goals as goal

pub returns-clause-tasks : goal.returns-clause-tasks
returns-clause-tasks boxes c = λ x s st.
    let w = rest_held _ _ x.setup _ _ _ st.holds.machine in
    c.task_count.ensures.holds x.setup w.saved w.holds ∙ sym w.rest.count
