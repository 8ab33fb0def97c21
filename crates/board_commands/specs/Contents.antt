-- The contents of a saved state: why they are refused; and the run of a sample.
use Rattle.std.specs.Prelude.{ℕ, nat_lt, if◌then◌else◌, List, [], Option, Some, None, option_map}
use Rattle.kernel_abi.specs.Devices.{DeviceData}
use Rattle.image_format.specs.ImageData.{ImageData}
use Rattle.board_model.specs.Script.{Scenario}
use Rattle.sample_gen.specs.Sample.{sample_script}
use Rattle.snapshot.specs.Records.{header_at}
use Rattle.snapshot.specs.Saved.{expected_of}
use Rattle.snapshot.specs.Waits.{state_fault}
use Rattle.command_files.specs.Contents.{Why, or_later, at_number, file_limit, unless_long, setup_of_image}

-- a saved state is of a turn after the bound
abbrev pub turn_refusal : ℕ → List ℕ → Option Why
turn_refusal bound bytes = if nat_lt bound (header_at bytes).turn then Some (at_number (8, 4)) else None

-- Why a saved state is refused, if it is. It is one of a run of this image with these devices, which is to go
-- on from it up to a bound (docs/FORMATS.md, Saved state).
unfoldable pub state_refusal : List DeviceData → ImageData → ℕ → List ℕ → Option Why
state_refusal devices image bound bytes =
    unless_long file_limit bytes (or_later (option_map at_number (state_fault (expected_of (setup_of_image image) devices) bytes)) (turn_refusal bound bytes))

-- the run of the sample of a seed, which has this image and no devices
abbrev pub sample_scenario : ℕ → ImageData → Scenario
sample_scenario seed image = record { setup = setup_of_image image; script = sample_script seed; devices = [] }
