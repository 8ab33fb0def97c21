use Rattle.std.proofs.Common.{arith}
use Rattle.snapshot.proofs.StandsForSome.{spelling_long}
use Rattle.snapshot.proofs.saving.saved_len.Goals as goal

pub returns : goal.returns
returns g c = λ x s st.
    let long = spelling_long x.setup s st.sane in
    let tasks = c.task_count.ensures.tasks x s st in
    let ram = c.ram_len.ensures.len x s st in
    let devices = c.device_count.ensures x s st in
    let few = st.sane.steady.devices.few in
    omega (arith, long, tasks, ram, devices, few)
