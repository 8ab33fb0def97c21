use Rattle.task_table.specs.kept.Holds.{order_of}
use Rattle.board_core.proofs.choice.choice_of.Goals as goal

pub returns : goal.returns
returns c = λ g t h. record { next = c.choose.ensures g t h; order = order_of c.args.kernel.now; ready = c.ready.ensures.holds g t h; down = c.is_down.ensures g t h }
