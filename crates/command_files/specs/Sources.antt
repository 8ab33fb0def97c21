-- The files of a command, in the order in which they are accepted.
use Rattle.std.specs.Prelude.{◌≡◌, ℕ, ◌+◌, List, [], ◌∷◌, length, drop, take, slice_get, slice_index_or, Option, Some, None}
use Rattle.kernel_abi.specs.Devices.{DeviceData}
use Rattle.outside_io.specs.Outside.{WhereSeen}
use Rattle.app_toml.specs.Apps.{AppData, TaskData}
use Rattle.image_format.specs.ImageData.{ImageData, Sound}
use Rattle.image_build.specs.Built.{Built}
use Rattle.board_model.specs.Script.{Scenario}
use Rattle.command_line.specs.CommandLine.{run}
use Rattle.command_files.specs.Contents.{Why, file_limit, trace_limit, image_refusal, script_refusal, app_refusal, source_refusal, trace_refusal, names_refusal, image_data_of, application_of, scenario_of}

-- a file, the most bytes that it may have, and why its contents are refused
pub record File : Type 0 where
  pub name : List ℕ
  pub limit : ℕ
  pub refusal : List ℕ → Option Why

abbrev pub image_file : List ℕ → File
image_file name = record { name = name; limit = file_limit; refusal = image_refusal }

abbrev pub script_file : List ℕ → File
script_file name = record { name = name; limit = file_limit; refusal = script_refusal }

abbrev pub app_file : List ℕ → File
app_file name = record { name = name; limit = file_limit; refusal = app_refusal }

-- the source of the i-th task, under the name that the task's key `source` has
abbrev pub source_file : AppData → ℕ → TaskData → File
source_file app i t = record { name = t.source; limit = file_limit; refusal = source_refusal app i }

abbrev pub trace_file : List ℕ → File
trace_file name = record { name = name; limit = trace_limit; refusal = trace_refusal }

-- the application that names this many tasks
abbrev pub names_file : ℕ → List ℕ → File
names_file tasks name = record { name = name; limit = file_limit; refusal = names_refusal tasks }

-- the same, if an application is named
abbrev pub names_files : ℕ → Option (List ℕ) → List File
names_files tasks None = []
names_files tasks (Some name) = names_file tasks name ∷ []

-- the sources of these tasks in order; the first is the i-th task's
abbrev pub sources_from : AppData → ℕ → List TaskData → List File
sources_from app i [] = []
sources_from app i (t ∷ ts) = source_file app i t ∷ sources_from app (i + 1) ts

abbrev pub source_files : AppData → List File
source_files app = sources_from app 0 app.tasks

-- the files from which an application is built, if its own has these bytes: that file, and then the source of
-- each task
abbrev pub files_to_build : List ℕ → List ℕ → List File
files_to_build app first = app_file app ∷ source_files (application_of first)

-- this file alone, and no file at all
abbrev pub only : File → List ℕ → List File
only f first = f ∷ []

abbrev pub no_files : List ℕ → List File
no_files first = []

-- how many tasks the image in these bytes has
abbrev pub image_tasks : List ℕ → ℕ
image_tasks bytes = length (image_data_of bytes).tasks

abbrev pub first_of : List (List ℕ) → List ℕ
first_of contents = slice_index_or contents 0 []

-- ## contents, as far as they are seen

-- these may be the contents under the name: if those are seen, they are these
abbrev pub MayBe : (List ℕ → Option (List ℕ)) → List ℕ → List ℕ → Type 0
MayBe seen name bytes = WhereSeen (seen name) (λ all. bytes ≡ all)

-- these are seen to be the contents under the name
abbrev pub Are : (List ℕ → Option (List ℕ)) → List ℕ → List ℕ → Type 0
Are seen name bytes = seen name ≡ Some bytes

-- there are contents that may be the file's, and they are refused for this reason
pub record MayBeRefused (seen : List ℕ → Option (List ℕ)) (f : File) (why : Why) : Type 0 where
  pub bytes : List ℕ
  pub held : MayBe seen f.name bytes
  pub refused : f.refusal bytes ≡ Some why

-- these are the contents of the first files, and each of them is accepted
abbrev pub Takes : (List ℕ → List ℕ → Type 0) → List File → List (List ℕ) → Type 0
Takes Held files contents = (k : ℕ) (bytes : List ℕ) → slice_get contents k ≡ Some bytes
    → (f : File) × (slice_get files k ≡ Some f) × Held f.name bytes × (f.refusal bytes ≡ None)

-- A command takes the files that `files_of` makes of the bytes of the first one. Files with these contents come
-- first, and then this file.
pub record Reaches (Held : List ℕ → List ℕ → Type 0) (files_of : List ℕ → List File) (contents : List (List ℕ)) (f : File) : Type 0 where
  pub takes : Takes Held (files_of (first_of contents)) contents
  pub next : slice_get (files_of (first_of contents)) (length contents) ≡ Some f

-- files with these contents come, and then no more
pub record TakesAll (Held : List ℕ → List ℕ → Type 0) (files_of : List ℕ → List File) (contents : List (List ℕ)) : Type 0 where
  pub takes : Takes Held (files_of (first_of contents)) contents
  pub all : length (files_of (first_of contents)) ≡ length contents

-- ## what a command works on, if its files have these contents

-- the application that the first file describes, and how many tasks it has
abbrev pub described : List (List ℕ) → AppData
described contents = application_of (first_of contents)

abbrev pub task_count : List (List ℕ) → ℕ
task_count contents = length (described contents).tasks

-- the sources of its tasks, and the script, which comes after them
abbrev pub sources_in : List (List ℕ) → List (List ℕ)
sources_in contents = take (task_count contents) (drop 1 contents)

abbrev pub script_in : List (List ℕ) → List ℕ
script_in contents = slice_index_or (drop 1 contents) (task_count contents) []

-- the image that is built from them
pub record IsBuilt (contents : List (List ℕ)) (image : ImageData) : Type 0 where
  pub built : Built (described contents) (sources_in contents) image
  pub sound : Sound image

-- the run of the image in the first file with the script in the second one
abbrev pub scenario_in : List DeviceData → List (List ℕ) → Scenario
scenario_in devices contents = scenario_of (image_data_of (first_of contents)) (slice_index_or contents 1 []) devices
