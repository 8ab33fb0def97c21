use Rattle.board_model.proofs.LonerBirths.{birth-start, birth-turn}
use Rattle.board_model.proofs.BirthTurns.{begins_at_birth}
use Rattle.board_model.proofs.loners.births_begin_alike.Goals as goal

pub returns-clause-first : goal.returns-clause-first
returns-clause-first c = λ g i inside. birth-start g i inside

pub returns-clause-later : goal.returns-clause-later
returns-clause-later c = λ level x s caller i h other. birth-turn level x s i caller h.values h.run h.before h.own h.does h.there other

pub returns-clause-each : goal.returns-clause-each
returns-clause-each c = λ level x s i h changes. begins_at_birth level x s h i changes
