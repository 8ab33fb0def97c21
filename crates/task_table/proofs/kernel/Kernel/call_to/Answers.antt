use Rattle.std.proofs.Common.{◌≡◌, refl}
use Rattle.task_table.specs.model.Reading.{present, present_id}
use Rattle.task_table.specs.kept.Holds.{id_at}
use Rattle.task_table.proofs.kept.Delivery.{id_is}
use Rattle.task_table.proofs.kernel.Kernel.call_to.Goals as goal

pub returns : goal.returns
unfolding present_id
returns c = λ g t h.
    let client : c.id.result ≡ id_at (present t.state c.args.client) = id_is c.id.result (present t.state c.args.client) (c.id.ensures g t h) in
    let server : c.id-2.result ≡ id_at (present t.state c.args.server) = id_is c.id-2.result (present t.state c.args.server) (c.id-2.ensures g t h) in
    rw (c.next_call.ensures g t h, client, server) refl
