use Rattle.run_script.proofs.Each.{each_turn}
use Rattle.board_model.proofs.Counts.{turn_more, later-events, counted_turn}
use Rattle.board_model.proofs.laws.turns_keep_counts_in_order.Goals as goal

pub returns-clause-turn : goal.returns-clause-turn
returns-clause-turn c = λ level x s sane. turn_more level x s sane

pub returns-clause-now : goal.returns-clause-now
returns-clause-now c = λ g events t. (later-events g events t).now

pub returns-clause-counted : goal.returns-clause-counted
returns-clause-counted c = λ level x s sane few h. counted_turn level x s sane few h

pub returns-clause-of_scripts : goal.returns-clause-of_scripts
returns-clause-of_scripts c = λ level x s sane facts h. counted_turn level x s sane (each_turn x.script facts s.turn).few h
