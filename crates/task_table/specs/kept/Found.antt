-- What an id names, as the code answers it. (Hubris Reference, on task ids.)
use Rattle.std.specs.Prelude.{ℕ, ◌≡◌, ◌<◌, ◌%◌, true, false}
use Rattle.kernel_abi.specs.Ids.{index_of}
use Rattle.task_table.specs.model.State.{State}
use Rattle.task_table.specs.model.Reading.{task_at, is_out, is_dead}
use Rattle.task_table.specs.declared.slot.Found.{Found}
use Rattle.task_table.specs.declared.slot.Found.TheVariants.{Live, Dead, Out}

-- the task, if the id names its present birth; the task's present generation, if it names an earlier birth; or no task
abbrev pub IsFound : State → ℕ → Found → Type 0
IsFound s id (Live i) = (is_out s id ≡ false) × (is_dead s id ≡ false) × (i ≡ index_of id)
IsFound s id (Dead g) = (is_out s id ≡ false) × (is_dead s id ≡ true) × (g.number ≡ (task_at s (index_of id)).births % 64)
IsFound s id Out = is_out s id ≡ true

-- a live index is below n; a dead one's generation has six bits
abbrev pub IsInRange : ℕ → Found → Type 0
IsInRange n (Live i) = i < n
IsInRange n (Dead g) = g.number < 64
IsInRange n Out = Unit {0}
