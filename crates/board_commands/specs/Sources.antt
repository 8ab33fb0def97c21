-- The files of each command, in the order in which they are accepted.
use Rattle.std.specs.Prelude.{ℕ, ◌+◌, List, [], ◌∷◌, ◌++◌, slice_index_or}
use Rattle.kernel_abi.specs.Devices.{DeviceData}
use Rattle.image_format.specs.ImageData.{ImageData}
use Rattle.task_table.specs.model.State.{State}
use Rattle.snapshot.specs.Restored.{state_in}
use Rattle.command_files.specs.Contents.{file_limit, image_data_of}
use Rattle.board_commands.specs.Contents.{state_refusal}
use Rattle.command_files.specs.Sources.{File, image_file, script_file, files_to_build, scenario_in}

-- a state from which a run of this image with these devices is to go on up to a bound
abbrev pub state_file : List DeviceData → ImageData → ℕ → List ℕ → File
state_file devices image bound name = record { name = name; limit = file_limit; refusal = state_refusal devices image bound }

-- an image, and then a script
abbrev pub image_and_script : List ℕ → List ℕ → List ℕ → List File
image_and_script image script first = image_file image ∷ script_file script ∷ []

-- the files of an application, and then a script
abbrev pub app_and_script : List ℕ → List ℕ → List ℕ → List File
app_and_script app script first = files_to_build app first ++ script_file script ∷ []

-- an image, a script, and then a state from which their run is to go on up to a bound
abbrev pub state_files : List DeviceData → List ℕ → List ℕ → List ℕ → ℕ → List ℕ → List File
state_files devices image script state bound first = image_file image ∷ script_file script ∷ state_file devices (image_data_of first) bound state ∷ []

-- the state of that run that the third file spells
abbrev pub state_by : List DeviceData → List (List ℕ) → State
state_by devices contents = state_in (scenario_in devices contents).setup devices (slice_index_or contents 2 [])
