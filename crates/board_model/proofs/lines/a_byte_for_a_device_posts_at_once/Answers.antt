use Rattle.std.proofs.Common.{◌%◌, ◌∙◌, ap}
use Rattle.task_table.specs.declared.Line.{Line}
use Rattle.task_table.specs.model.Events.{fed}
use Rattle.board_model.proofs.Answered.{driven_answers, driven_posts, line-fed}
use Rattle.board_model.proofs.lines.a_byte_for_a_device_posts_at_once.Goals as goal

pub returns-clause-answered : goal.returns-clause-answered
returns-clause-answered c = λ g device byte t. driven_answers g (fed device (byte % 256) t)

pub returns-clause-posted : goal.returns-clause-posted
returns-clause-posted c = λ g device byte t o here on asks.
    driven_posts g (fed device (byte % 256) t) o here (ap (λ (l : Line). l.enabled) (line-fed device (byte % 256) o.line t) ∙ on) asks
