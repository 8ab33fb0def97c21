use Rattle.std.proofs.Common.{List, length, ◌∙◌, ap}
use Rattle.kernel_abi.specs.Devices.{DeviceData}
use Rattle.board_core.proofs.Loading.{devices_held}
use Rattle.board_core.proofs.board.Board.device_count.Goals as goal

pub returns : goal.returns
returns boxes c = λ x s st. c.len.ensures ∙ ap (λ (ds : List DeviceData). length ds) (devices_held _ _ x.setup _ _ _ st.holds.machine)
