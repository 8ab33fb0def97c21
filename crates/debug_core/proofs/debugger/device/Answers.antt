use Rattle.std.proofs.Common.{◌∙◌, ap}
use Rattle.std.specs.Prelude.{slice_get}
use Rattle.debug_core.proofs.Seen.{its_device}
use Rattle.debug_core.proofs.debugger.device.Goals as goal

pub returns-in-Some : goal.returns-in-Some
returns-in-Some boxes c = λ x s st.
    its_device s c.args.device c.in-Some.view st.sane.steady.devices (c.in-Some.ensures x s st ∙ ap (slice_get s.devices) c.from.ensures)
