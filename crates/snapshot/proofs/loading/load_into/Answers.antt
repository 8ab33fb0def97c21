use Rattle.std.proofs.Common.{arith}
use Rattle.snapshot.proofs.Boards.{accepted_by, stands_each, stands_in}
use Rattle.snapshot.proofs.loading.load_into.Goals as goal

pub set_parts-requires : goal.set_parts-requires
set_parts-requires g c =
    let x = c.requires.0 in
    let u = c.requires.1 in
    (x, u, c.requires.2, c.task_count-tasks.ensures.tasks x u c.requires.2, c.device_count-devices.ensures x u c.requires.2, c.requires.3)

pub returns-clause-stands : goal.returns-clause-stands
returns-clause-stands g c = λ x u st.
    let b = c.args.board.now in
    let bytes = c.args.bytes.now in
    let holds = c.set_parts.ensures x u (c.task_count-tasks.ensures.tasks x u st) (c.device_count-devices.ensures x u st) st.holds in
    let a = accepted_by _ x c.requires.0 b u c.requires.1 bytes st.holds c.requires.2.holds c.requires.3 in
    stands_in _ bytes b _ x u st a holds (λ i. omega (arith, c.type_inv.bytes i))

pub returns-clause-each : goal.returns-clause-each
returns-clause-each g c = λ x u s st.
    let b = c.args.board.now in
    let bytes = c.args.bytes.now in
    let holds = c.set_parts.ensures x u (c.task_count-tasks.ensures.tasks x u st) (c.device_count-devices.ensures x u st) st.holds in
    let a = accepted_by _ x c.requires.0 b u c.requires.1 bytes st.holds c.requires.2.holds c.requires.3 in
    stands_each _ bytes b _ x u st a holds s
