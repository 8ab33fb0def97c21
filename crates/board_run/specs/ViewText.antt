-- The text of a task, from a board's view of it.
use Rattle.std.specs.Prelude.{ℕ, List, ◌++◌, Option, codes}
use Rattle.std.specs.Option.{option_map}
use Rattle.kernel_abi.specs.declared.Timer.{Timer}
use Rattle.task_table.specs.declared.slot.Wait.{Wait}
use Rattle.task_table.specs.declared.slot.Wait.TheVariants as wait
use Rattle.board_core.specs.declared.views.TaskView.{TaskView}
use Rattle.board_run.specs.Text.{call_text, low_text, high_text}
use Rattle.trace_text.specs.Lines.{task_line}

-- what the task waits for
abbrev pub wait_words : Wait → List ℕ
wait_words wait.Nothing = codes "-"
wait_words (wait.Call call) = call_text call.phase call.number
wait_words (wait.Listen listening) = codes "listen"

-- the timer with this deadline and these bits
abbrev pub timer_of : Option (ℕ × ℕ) → Option Timer
timer_of timer = option_map (λ x. record { deadline = x.0; bits = x.1 }) timer

unfoldable pub view_text : ℕ → TaskView → List ℕ
view_text i v = task_line i v.generation v.health (wait_words v.wait) v.posted (timer_of v.timer) ++ low_text v.regs ++ high_text v.regs v.flags
