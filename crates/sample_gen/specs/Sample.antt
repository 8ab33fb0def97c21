-- The sample of a seed: an application of a supervisor t0, the servers t1 to t7 and the clients t8 to
-- t31, their programs, and a script. Draws are taken in this order: one for each server, five for each
-- client, two for each event.
use Rattle.std.specs.Prelude.{ℕ, true, List, [], ◌∷◌, ◌++◌, ◌+◌, ◌-◌, ◌*◌, ◌==◌, nat_lt, if◌then◌else◌, map, codes, decimal, Some, None}
use Rattle.std.specs.List.{range_with_len}
use Rattle.app_toml.specs.Apps.{AppData, InterruptData, TaskData}
use Rattle.app_toml.specs.Places.{Text}
use Rattle.run_script.specs.declared.events.Event.TheVariants.{Irq}
use Rattle.run_script.specs.Scripts.{Listed, ScriptData}
use Rattle.sample_gen.specs.Sources.{text_of, supervisor_lines, server_lines, client_lines}
use Rattle.sample_gen.specs.Draws.{draw}

-- ---- what is drawn

-- the offset of server ti
abbrev pub offset : ℕ → ℕ → ℕ
offset seed i = draw seed i 40

-- the first draw of client ti
abbrev pub first_draw : ℕ → ℕ
first_draw i = 8 + 5 * (i - 8)

abbrev pub client_priority : ℕ → ℕ → ℕ
client_priority seed i = 2 + draw seed (first_draw i) 4

abbrev pub server : ℕ → ℕ → ℕ
server seed i = 1 + draw seed (first_draw i + 1) 7

abbrev pub operation : ℕ → ℕ → ℕ
operation seed i = draw seed (first_draw i + 2) 6

abbrev pub size : ℕ → ℕ → ℕ
size seed i = draw seed (first_draw i + 3) 33

abbrev pub period : ℕ → ℕ → ℕ
period seed i = 1 + draw seed (first_draw i + 4) 8

-- how many draws come before those of ti
abbrev pub draws_before : ℕ → ℕ
draws_before i = if nat_lt i 8 then i - 1 else 7 + 5 * (i - 8)

-- ---- the application

abbrev pub task_name : ℕ → Text
task_name i = codes "t" ++ decimal i

abbrev pub note_name : ℕ → Text
note_name i = if i == 0 then codes "fault" else codes "go"

-- ti, with this priority
abbrev pub task_with : ℕ → ℕ → TaskData
task_with i priority = record {
  name = task_name i;
  source = task_name i ++ codes ".s";
  priority = priority;
  start = true;
  flash = 256;
  ram = 256;
  stack = 64;
  notifications = note_name i ∷ [];
  uses = [];
  reads = [];
}

-- ti, if clients have these priorities
abbrev pub task_by : (ℕ → ℕ) → ℕ → TaskData
task_by priority i = task_with i (if i == 0 then 0 else if nat_lt i 8 then 1 else priority i)

-- line k is that of server t(k + 1), and no device drives it
abbrev pub line_of : ℕ → InterruptData
line_of k = record { line = k; task = task_name (k + 1); notification = codes "go"; device = None }

abbrev pub app_by : (ℕ → ℕ) → AppData
app_by priority = record {
  flash = 8192;
  ram = 8192;
  fault = codes "fault";
  tasks = map (task_by priority) (range_with_len 0 32);
  regions = [];
  devices = [];
  interrupts = map line_of (range_with_len 0 7);
}

abbrev pub sample_app : ℕ → AppData
sample_app seed = app_by (client_priority seed)

-- ---- the programs

abbrev pub source_of : ℕ → ℕ → Text
source_of seed i =
    if i == 0 then text_of supervisor_lines
    else if nat_lt i 8 then text_of (server_lines (offset seed i))
    else text_of (client_lines (server seed i) (operation seed i) (size seed i) (period seed i))

abbrev pub sample_sources : ℕ → List Text
sample_sources seed = map (source_of seed) (range_with_len 0 32)

-- ---- the script

-- event k, from 1
abbrev pub event : ℕ → ℕ → Listed
event seed k = (16 * k + draw seed (126 + 2 * k) 16, Irq (draw seed (127 + 2 * k) 8))

-- this many events, from event 1 on
unfoldable pub events_to : ℕ → ℕ → List Listed
events_to seed n = map (event seed) (range_with_len 1 n)

abbrev pub sample_script : ℕ → ScriptData
sample_script seed = record { every = Some 64; events = events_to seed 4096 }
