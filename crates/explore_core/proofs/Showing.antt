-- What is so of a task, as a board shows it, is so of the state's.
use Rattle.std.proofs.Common.{◌≡◌, ◌∙◌, ℕ, Option, Some, None, refl, ap}
use Rattle.std.specs.Prelude.{◌&&◌, ◌==◌, not, bit_and, is_some, is_none}
use Rattle.kernel_abi.specs.declared.Health.{Health}
use Rattle.kernel_abi.specs.declared.Health.TheVariants.{Well, Stopped, Faulted}
use Rattle.task_table.specs.model.State as kernel
use Rattle.task_table.specs.model.State.{State, Listen}
use Rattle.task_table.specs.kept.Holds.{wait_of}
use Rattle.task_table.specs.model.Reading.{task_at, call_of, listen_of, is_ready, is_well}
use Rattle.board_core.specs.declared.views.TaskView.{TaskView}
use Rattle.board_core.specs.Views.{IsTask}
use Rattle.run_question.specs.declared.asked.TaskFact.{TaskFact}
use Rattle.run_question.specs.declared.asked.TaskFact.TheVariants as task_fact
use Rattle.explore_core.specs.Asked.{is_so_of_task}
use Rattle.explore_core.specs.Views.{is_call, is_listen, is_nothing, is_shown}

calls : (c : Option kernel.Call) (l : Option Listen) → is_call (wait_of c l) ≡ is_some c
calls (Some c) l = refl
calls None (Some l) = refl
calls None None = refl

listens : (c : Option kernel.Call) (l : Option Listen) → is_listen (wait_of c l) ≡ (is_none c && is_some l)
listens (Some c) l = refl
listens None (Some l) = refl
listens None None = refl

nothings : (h : Health) (c : Option kernel.Call) (l : Option Listen) → (is_well h && is_nothing (wait_of c l)) ≡ (is_well h && is_none c && is_none l)
nothings Well (Some c) l = refl
nothings Well None (Some l) = refl
nothings Well None None = refl
nothings Stopped c l = refl
nothings (Faulted f) c l = refl

pub shown_is_so : (f : TaskFact) (s : State) (i : ℕ) (v : TaskView) → IsTask s i v → is_shown f v ≡ is_so_of_task f s i
unfolding is_ready
shown_is_so task_fact.Well s i v t = ap is_well t.health
shown_is_so task_fact.Ready s i v t = rw (t.health, t.wait) (nothings (task_at s i).health (call_of s i) (listen_of s i))
shown_is_so task_fact.Calling s i v t = ap is_call t.wait ∙ calls (call_of s i) (listen_of s i)
shown_is_so task_fact.Listening s i v t = ap is_listen t.wait ∙ listens (call_of s i) (listen_of s i)
shown_is_so (task_fact.Posted bits) s i v t = ap (λ n. not (bit_and n bits == 0)) t.posted
