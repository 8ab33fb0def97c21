use Rattle.board_model.proofs.LonerFrame.{untouched-after_events, alone-turn, bytes-turn}
use Rattle.board_model.proofs.loners.others_leave_loners_alone.Goals as goal

pub returns-clause-events : goal.returns-clause-events
returns-clause-events c = λ x s i idle. untouched-after_events s i x idle

pub returns-clause-turn : goal.returns-clause-turn
returns-clause-turn c = λ level x s h i idle other. (alone-turn s i level x h idle other, λ loner a own. bytes-turn s i level x h idle other loner a own)
