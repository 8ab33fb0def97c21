-- What is so of a task, as a board shows it.
use Rattle.std.specs.Prelude.{◌==◌, ◌&&◌, Bool, true, false, not, bit_and}
use Rattle.task_table.specs.declared.slot.Wait.{Wait}
use Rattle.task_table.specs.declared.slot.Wait.TheVariants as wait
use Rattle.task_table.specs.model.Reading.{is_well}
use Rattle.board_core.specs.declared.views.TaskView.{TaskView}
use Rattle.run_question.specs.declared.asked.TaskFact.{TaskFact}
use Rattle.run_question.specs.declared.asked.TaskFact.TheVariants as task_fact

abbrev pub is_call : Wait → Bool
is_call wait.Nothing = false
is_call (wait.Call call) = true
is_call (wait.Listen listening) = false

abbrev pub is_listen : Wait → Bool
is_listen wait.Nothing = false
is_listen (wait.Call call) = false
is_listen (wait.Listen listening) = true

abbrev pub is_nothing : Wait → Bool
is_nothing wait.Nothing = true
is_nothing (wait.Call call) = false
is_nothing (wait.Listen listening) = false

abbrev pub is_shown : TaskFact → TaskView → Bool
is_shown task_fact.Well v = is_well v.health
is_shown task_fact.Ready v = is_well v.health && is_nothing v.wait
is_shown task_fact.Calling v = is_call v.wait
is_shown task_fact.Listening v = is_listen v.wait
is_shown (task_fact.Posted bits) v = not (bit_and v.posted bits == 0)
