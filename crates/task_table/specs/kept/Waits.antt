-- What the wait of a slot says of the task that it waits for.
use Rattle.std.specs.Prelude.{ℕ, ◌≡◌, ◌<◌, Bool, false, Contains, ◌==◌}
use Rattle.kernel_abi.specs.Ids.{index_of}
use Rattle.task_table.specs.model.State.{State, Call, Listen, Birth, One}
use Rattle.task_table.specs.declared.slot.FromId.{FromId}
use Rattle.task_table.specs.declared.slot.FromId.TheVariants as from_id
use Rattle.task_table.specs.declared.slot.Wait.{Wait}
use Rattle.task_table.specs.declared.slot.Wait.TheVariants as wait

-- a task listens only for the task with an index
abbrev pub is_one : FromId → ℕ → Bool
is_one from_id.Any i = false
is_one from_id.Kernel i = false
is_one (from_id.One id) i = index_of id.number == i

-- a task waits for the end of a call to the task with an index
abbrev pub is_to_in : Wait → ℕ → Bool
is_to_in (wait.Call c) i = index_of c.server.number == i
is_to_in (wait.Listen l) i = false
is_to_in wait.Nothing i = false

-- a task waits for a message of only the task with an index
abbrev pub awaits_in : Wait → ℕ → Bool
awaits_in (wait.Call c) i = false
awaits_in (wait.Listen l) i = is_one l.from i
awaits_in wait.Nothing i = false

-- the tasks that others wait for have indices of ten bits, so an id distinguishes them
pub record AreFew (s : State) : Type 0 where
  pub called : (c : Call) → Contains s.calls c → c.server.index < 1024
  pub heard : (l : Listen) (b : Birth) → Contains s.listens l → l.from ≡ One b → b.index < 1024
