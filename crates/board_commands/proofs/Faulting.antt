-- A saved state that is too long.
use Rattle.std.proofs.Common.{◌≡◌, ℕ, ◌<◌, List, length}
use Rattle.command_files.specs.Contents.{file_limit}
use Rattle.board_commands.specs.Contents.{state_refusal}
use Rattle.kernel_abi.specs.Devices.{DeviceData}
use Rattle.image_format.specs.ImageData.{ImageData}
use Rattle.command_files.proofs.Faulting.{too_long, long_refused}

pub long_state : (devices : List DeviceData) (image : ImageData) (bound : ℕ) (bytes : List ℕ) → file_limit < length bytes → state_refusal devices image bound bytes ≡ too_long file_limit
unfolding state_refusal
long_state devices image bound bytes lt = long_refused file_limit bytes _ lt
