use Rattle.std.proofs.Common.{◌∙◌}
use Rattle.board_commands.proofs.save.save_board.Goals as goal

pub returns-in-Ok-clause-tells : goal.returns-in-Ok-clause-tells
returns-in-Ok-clause-tells g c = λ x st. c.put_state.ensures.tells c.args.job.now.steps x (c.deref.ensures.value ∙ c.in-Ok.ensures x st)
