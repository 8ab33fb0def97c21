use Rattle.board_model.proofs.AnsweredTurns.{answered-start, answered-turn, answered-turns}
use Rattle.board_model.proofs.lines.enabled_lines_ask_for_nothing.Goals as goal

pub returns-clause-start : goal.returns-clause-start
returns-clause-start c = λ x. answered-start x

pub returns-clause-turn : goal.returns-clause-turn
returns-clause-turn c = λ level x s up h answered. answered-turn level x s up h answered

pub returns-clause-run : goal.returns-clause-run
returns-clause-run c = λ level x n up h. answered-turns level x n up h
