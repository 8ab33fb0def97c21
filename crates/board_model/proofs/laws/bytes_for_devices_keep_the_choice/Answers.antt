use Rattle.std.proofs.Common.{◌%◌}
use Rattle.task_table.specs.model.Events.{fed}
use Rattle.board_model.proofs.Quiet.{ready-fed, next-fed, down-fed}
use Rattle.board_model.proofs.Answered.{driven_unasked}
use Rattle.board_model.proofs.laws.bytes_for_devices_keep_the_choice.Goals as goal

pub returns-clause-ready : goal.returns-clause-ready
returns-clause-ready c = λ device byte i t. (ready-fed device byte t).ready i

pub returns-clause-next : goal.returns-clause-next
returns-clause-next c = λ g device byte t. next-fed g device byte t

pub returns-clause-down : goal.returns-clause-down
returns-clause-down c = λ device byte t. down-fed device byte t

pub returns-clause-unasked : goal.returns-clause-unasked
returns-clause-unasked c = λ g device byte t h. driven_unasked g (fed device (byte % 256) t) h
