use Rattle.board_model.proofs.TurnChains.{sane-after_events}
use Rattle.board_model.proofs.Quiet.{quiet-turn}
use Rattle.board_model.proofs.laws.turns_without_notes_keep_the_choice.Goals as goal

pub returns-clause-next : goal.returns-clause-next
returns-clause-next c = λ level x s h few. (quiet-turn level x s (sane-after_events x s h) few).next

pub returns-clause-down : goal.returns-clause-down
returns-clause-down c = λ level x s h few. (quiet-turn level x s (sane-after_events x s h) few).down
