use Rattle.board_model.proofs.Outside.{nothing_due, due_later, no_event}
use Rattle.board_model.proofs.laws.turns_without_events_begin_at_once.Goals as goal

pub returns-clause-none : goal.returns-clause-none
returns-clause-none c = λ script turn due small h ne. nothing_due script turn due small h ne

pub returns-clause-later : goal.returns-clause-later
returns-clause-later c = λ script turn due h ne. due_later script turn due h ne

pub returns-clause-begun : goal.returns-clause-begun
returns-clause-begun c = λ x s none. no_event x s none
