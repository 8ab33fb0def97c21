use Rattle.board_model.proofs.TurnChains.{sane-after_events, sane-stepped, sane-after}
use Rattle.board_model.proofs.laws.turns_keep_sane.Goals as goal

pub returns-clause-events : goal.returns-clause-events
returns-clause-events c = λ x s h. sane-after_events x s h

pub returns-clause-stepped : goal.returns-clause-stepped
returns-clause-stepped c = λ level g i t h inside ready. sane-stepped level i t h inside ready

pub returns-clause-turn : goal.returns-clause-turn
returns-clause-turn c = λ level x s h. sane-after level x s h
