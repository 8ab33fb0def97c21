use Rattle.std.proofs.Common.{List, map, sym, ◌∙◌, ap}
use Rattle.std.proofs.lemmas.Simd.{map-map}
use Rattle.kernel_abi.specs.Devices.{DeviceData}
use Rattle.task_table.specs.model.State.{LineSetup}
use Rattle.task_table.specs.model.Asking.{asks_at}
use Rattle.task_table.specs.kept.Parts.{line_setup}
use Rattle.board_core.proofs.asking.asked.Goals as goal

pub returns : goal.returns
returns boxes c = λ g t h devices.
    let of : List DeviceData → LineSetup → _ = λ ds o. asks_at ds o.device in
    c.asked_by.ensures
    ∙ sym (map-map (of _) line_setup c.owners.result.now)
    ∙ ap (map (of _)) (c.owners.ensures.holds g t h)
    ∙ ap (λ (ds : List DeviceData). map (of ds) g.lines) devices
