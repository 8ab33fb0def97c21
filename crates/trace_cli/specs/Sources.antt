-- The files of a job, in the order in which they are accepted.
use Rattle.std.specs.Prelude.{ℕ, ◌+◌, false, true, List, [], ◌∷◌, ◌++◌, None}
use Rattle.kernel_abi.specs.Devices.{DeviceData}
use Rattle.debug_core.specs.Live.{live_limit}
use Rattle.command_line.specs.CommandLine.{Asked, build, run, go, list, sample, migrate, audit, save, resume, debug, cover, sweep, timeline, live, picture, lcov, help}
use Rattle.command_files.specs.Contents.{file_limit, image_data_of}
use Rattle.trace_cli.specs.Contents.{commands_refusal, arrival_refusal}
use Rattle.command_files.specs.Sources.{File, image_file, script_file, trace_file, names_files, files_to_build, image_tasks, first_of}
use Rattle.board_commands.specs.Sources.{state_file}

abbrev pub commands_file : List ℕ → File
commands_file name = record { name = name; limit = file_limit; refusal = commands_refusal }

abbrev pub arrival_file : List ℕ → File
arrival_file name = record { name = name; limit = file_limit; refusal = arrival_refusal }

-- lines that are carried out as they come; none of them makes the file refused
abbrev pub lines_file : List ℕ → File
lines_file name = record { name = name; limit = live_limit; refusal = λ _. None }

-- The files of a job whose first file has these bytes. `build` takes the files of its application. `go`,
-- `lcov` and `cover` with labels take them too, and then their script. `run`, `save`, `cover` without labels,
-- `timeline` and `picture` take their image and then their script; the last two then take the application
-- that names the tasks, if one is named. `resume` takes its image, its script and its state, `debug` and
-- `live` their image, their script and their commands, `sweep` its image, its script and its arrival. `list`
-- and `migrate` take their image, `audit` its trace, `sample` and `help` nothing. The devices are those of a
-- run.
abbrev pub files_of : List DeviceData → Asked → List ℕ → List File
files_of devices (build app out) first = files_to_build app first
files_of devices (run image script steps detail) first = image_file image ∷ script_file script ∷ []
files_of devices (go app script steps detail) first = files_to_build app first ++ script_file script ∷ []
files_of devices (list image) first = image_file image ∷ []
files_of devices (sample seed steps) first = []
files_of devices (migrate image out) first = image_file image ∷ []
files_of devices (audit trace) first = trace_file trace ∷ []
files_of devices (save image script out steps) first = image_file image ∷ script_file script ∷ []
files_of devices (resume image script state steps detail) first = image_file image ∷ script_file script ∷ state_file devices (image_data_of first) steps state ∷ []
files_of devices (debug image script commands) first = image_file image ∷ script_file script ∷ commands_file commands ∷ []
files_of devices (cover image script steps false) first = image_file image ∷ script_file script ∷ []
files_of devices (cover app script steps true) first = files_to_build app first ++ script_file script ∷ []
files_of devices (sweep image script arrival from to steps memory) first = image_file image ∷ script_file script ∷ arrival_file arrival ∷ []
files_of devices (timeline image script steps names) first = image_file image ∷ script_file script ∷ names_files (image_tasks first) names
files_of devices (live image script commands) first = image_file image ∷ script_file script ∷ lines_file commands ∷ []
files_of devices (picture image script out steps names) first = image_file image ∷ script_file script ∷ names_files (image_tasks first) names
files_of devices (lcov app script out steps) first = files_to_build app first ++ script_file script ∷ []
files_of devices (help about) first = []

-- the files of a job whose first files have these contents
abbrev pub files_by : List DeviceData → Asked → List (List ℕ) → List File
files_by devices job contents = files_of devices job (first_of contents)
