use Rattle.std.proofs.Common.{sym, ◌∙◌}
use Rattle.board_core.proofs.Turning.{noted_in}
use Rattle.board_core.proofs.Loading.{unloaded_by}
use Rattle.board_core.proofs.board.Board.renew.Goals as goal

pub returns-else-notes-noted-clause-choice : goal.returns-else-notes-noted-clause-choice
returns-else-notes-noted-clause-choice boxes c = λ g t st was f.
    let noted = c.notes.ensures ∙ noted_in _ g c.args.self.now.machine t st.holds in
    f (rw (sym noted) c.if-notes-noted.false)

pub returns-then-notes-noted-clause-choice : goal.returns-then-notes-noted-clause-choice
returns-then-notes-noted-clause-choice boxes c = λ g t st was f. c.renew_choice.ensures g t (c.save_context.ensures.holds g t st.holds).kernel was

pub returns-then-notes-noted-clause-holds : goal.returns-then-notes-noted-clause-holds
returns-then-notes-noted-clause-holds boxes c = λ g t h. unloaded_by _ _ g _ _ t c.save_context.ensures.unloaded (c.save_context.ensures.holds g t h)
