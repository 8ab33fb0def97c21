use Rattle.board_core.proofs.board.Board.task.Goals as goal

pub returns-clause-view : goal.returns-clause-view
returns-clause-view boxes c = λ x s st. c.view.ensures x.setup _ st.holds.machine
