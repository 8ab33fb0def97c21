-- The image that is built of an application and of its tasks' sources.
use Rattle.std.specs.Prelude.{ℕ, List, [], ◌∷◌, ◌+◌, ◌-◌, ◌^◌, ◌≤◌, ◌<◌, ◌≡◌, ◌==◌, Option, Some, None, filter, length, map, slice_index, slice_index_or}
use Rattle.std.specs.List.{flat_map, range_with_len}
use Rattle.app_toml.specs.Apps.{AppData, InterruptData, TaskData}
use Rattle.app_toml.specs.Crossed.{areas_of, notifications_of}
use Rattle.app_toml.specs.Places.{Text}
use Rattle.image_format.specs.ImageData.{ImageLine, ImageData, ImageTask}
use Rattle.mem_plan.specs.Sizes.{rounded}
use Rattle.text_lines.specs.Text.{lines_of}
use Rattle.thumb_asm.specs.Chars.{entry_at}
use Rattle.thumb_asm.specs.Assembly.{Assembles}
use Rattle.thumb_asm.specs.Meaning.{Env}
use Rattle.image_build.specs.Layout.{flash_base, flash_needed, index_of, ram_base, ram_needed, task_at, task_regions}
use Rattle.image_build.specs.Symbols.{symbols}

-- notification k of a list is bit k
abbrev pub bit_of : Text → List Text → ℕ
bit_of name notifications = 2 ^ index_of name notifications

-- the stack is at the bottom of the task's RAM and grows down from its end
abbrev pub task_built : AppData → ℕ → TaskData → ImageTask
task_built app i t = record {
  priority = t.priority;
  started = t.start;
  entry = flash_base app i + 1;
  sp = ram_base app i + t.stack;
  regions = task_regions app i t;
  names = t.notifications;
}

abbrev pub tasks_from : AppData → ℕ → List TaskData → List ImageTask
tasks_from app i [] = []
tasks_from app i (t ∷ ts) = task_built app i t ∷ tasks_from app (i + 1) ts

-- The number of a device's region among those of the task that uses or reads it, counted from one; 0 for none. The
-- task's flash and its RAM come first.
abbrev pub device_number : List Text → Option Text → ℕ
device_number areas None = 0
device_number areas (Some name) = 3 + index_of name areas

abbrev pub line_built : AppData → InterruptData → ImageLine
line_built app i = record {
  line = i.line;
  task = index_of i.task (map (λ t. t.name) app.tasks);
  bits = bit_of i.notification (notifications_of i.task app.tasks);
  device = device_number (areas_of i.task app.tasks) i.device;
}

-- the interrupts of one line, of which there is at most one
abbrev pub lines_at : AppData → ℕ → List ImageLine
lines_at app line = map (line_built app) (filter (λ i. i.line == line) app.interrupts)

-- the interrupts, ascending by line
abbrev pub lines_built : AppData → List ImageLine
lines_built app = flat_map (lines_at app) (range_with_len 0 64)

-- the image with these bytes of flash
abbrev pub image_data_built : AppData → List ℕ → ImageData
image_data_built app flash = record {
  fault_bits = bit_of app.fault (task_at app 0).notifications;
  ram = ram_needed app;
  tasks = tasks_from app 0 app.tasks;
  lines = lines_built app;
  flash = flash;
}

-- the values of the symbols that the i-th task's source may name
abbrev pub given : AppData → ℕ → Env
given app i = entry_at (symbols app i)

-- the byte k of the i-th task's flash
abbrev pub flash_byte : AppData → ℕ → List ℕ → ℕ → ℕ
flash_byte app i flash k = slice_index flash (flash_base app i - 0x08000000 + k)

-- The source of the i-th task assembles, with its symbols, to these bytes at the task's flash; they are
-- no longer than the task's flash, and what follows them there is zero.
pub record HasProgram (app : AppData) (i : ℕ) (source flash : List ℕ) : Type 0 where
  pub code : List ℕ
  pub labels : Env
  pub assembled : Assembles (lines_of source) (flash_base app i) (given app i) code labels
  pub fits : length code ≤ (task_at app i).flash
  pub stands : (k : ℕ) → k < rounded (task_at app i).flash → flash_byte app i flash k ≡ slice_index code k

abbrev pub source_at : List (List ℕ) → ℕ → List ℕ
source_at sources i = slice_index_or sources i []

pub record Built (app : AppData) (sources : List (List ℕ)) (image : ImageData) : Type 0 where
  pub parts : image ≡ image_data_built app image.flash
  pub length_of_flash : length image.flash ≡ flash_needed app
  pub programs : (i : ℕ) → i < length app.tasks → HasProgram app i (source_at sources i) image.flash
