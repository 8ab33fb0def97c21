use Rattle.std.proofs.Common.{List, ◌∙◌, ap}
use Rattle.kernel_abi.specs.Devices.{DeviceData}
use Rattle.task_table.specs.model.Asking.{asks_at}
use Rattle.board_core.proofs.Loading.{devices_held}
use Rattle.board_core.proofs.board.Board.asks_at.Goals as goal

pub returns : goal.returns
returns boxes c = λ x s st.
    let m = c.args.self.now.machine in
    c.asks_at.ensures ∙ ap (λ (ds : List DeviceData). asks_at ds c.args.addr) (devices_held _ m.loaded x.setup m.space m.glider.runner.processor _ st.holds.machine)
