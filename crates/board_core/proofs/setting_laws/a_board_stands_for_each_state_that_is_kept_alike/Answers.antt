use Rattle.board_core.proofs.KeptAlike.{stands_alike}
use Rattle.board_core.proofs.setting_laws.a_board_stands_for_each_state_that_is_kept_alike.Goals as goal

pub returns : goal.returns
returns boxes c = λ x s u. stands_alike _ x c.args.board.now s u
