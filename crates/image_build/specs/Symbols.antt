-- The symbols that a task's source may name, with their values. If two have the same name, the first one
-- counts.
use Rattle.std.specs.Prelude.{ℕ, List, [], ◌∷◌, ◌++◌, ◌+◌, ◌^◌, codes, map}
use Rattle.app_toml.specs.Apps.{AppData, DeviceData, RegionData, TaskData}
use Rattle.app_toml.specs.Places.{Text}
use Rattle.mem_plan.specs.Sizes.{rounded}
use Rattle.thumb_asm.specs.Meaning.{Names}
use Rattle.image_build.specs.Layout.{ram_base, region_base, task_at}

-- each notification with its bit, from bit k on
abbrev pub note_symbols : Text → ℕ → List Text → Names
note_symbols prefix k [] = []
note_symbols prefix k (n ∷ ns) = (prefix ++ n, 2 ^ k) ∷ note_symbols prefix (k + 1) ns

-- the task's own RAM, and where its stack ends
abbrev pub ram_symbols : AppData → ℕ → Names
ram_symbols app i = (codes "ram", ram_base app i)
    ∷ (codes "ram_size", rounded (task_at app i).ram)
    ∷ (codes "stack_top", ram_base app i + (task_at app i).stack) ∷ []

abbrev pub region_symbols : AppData → ℕ → List RegionData → Names
region_symbols app k [] = []
region_symbols app k (r ∷ rs) = (codes "region_" ++ r.name, region_base app k) ∷ region_symbols app (k + 1) rs

abbrev pub device_symbols : List DeviceData → Names
device_symbols = map (λ d. (codes "region_" ++ d.name, d.base))

-- the index and the notifications of every task
abbrev pub task_symbols : ℕ → List TaskData → Names
task_symbols k [] = []
task_symbols k (t ∷ ts) = (codes "task_" ++ t.name, k)
    ∷ (note_symbols (codes "note_" ++ t.name ++ codes "_") 0 t.notifications ++ task_symbols (k + 1) ts)

-- the i-th task's own ones
abbrev pub own_symbols : AppData → ℕ → Names
own_symbols app i = note_symbols (codes "note_") 0 (task_at app i).notifications ++ ram_symbols app i

-- those that the sources of all tasks share
abbrev pub shared_symbols : AppData → Names
shared_symbols app = region_symbols app 0 app.regions ++ device_symbols app.devices ++ task_symbols 0 app.tasks

-- its own ones count first
abbrev pub symbols : AppData → ℕ → Names
symbols app i = own_symbols app i ++ shared_symbols app
