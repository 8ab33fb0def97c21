use Rattle.std.proofs.Math.Nat.{min-le_left, min-le_right}
use Rattle.task_table.specs.model.State.{Read, MessageFront}
use Rattle.task_table.specs.model.Effects.{looked, handed}
use Rattle.task_table.specs.kept.Holds.{kept_of}
use Rattle.task_table.proofs.kept.Messages.{within-front, holds_looked}
use Rattle.task_table.proofs.model.Ranges.{within_ram-front}
use Rattle.task_table.proofs.kernel.Kernel.hand_over.Goals as goal

pub copy-requires-clause-source : goal.copy-requires-clause-source
copy-requires-clause-source c =
    let message = c.args.call.now.message in
    rw c.min-copied.ensures (within-front c.args.self.now.memory.bytes message.base _ message.len (min-le_left message.len c.args.buffer.len) c.requires.source)

pub copy-requires-clause-target : goal.copy-requires-clause-target
copy-requires-clause-target c =
    let buffer = c.args.buffer in
    rw c.min-copied.ensures (within_ram-front c.args.self.now.memory.bytes buffer.base buffer.len _ c.requires.target (min-le_right c.args.call.now.message.len buffer.len))

pub returns-clause-holds : goal.returns-clause-holds
unfolding handed
returns-clause-holds c = λ g t on k h same client server.
    let call = c.args.call.now in
    let look : Read = record { call = call.number; part = MessageFront; base = call.message.base; len = c.min-copied.result } in
    let h0 = holds_looked g (kept_of c.args.self.now) t look h in
    let h1 = c.copy.ensures.holds g (looked look t) on h0 in
    let h2 = c.take.ensures.holds g _ h1 in
    let h3 = c.note.ensures.holds g _ h2 in
    let h4 = c.stop_listening.ensures.holds g _ h3 in
    let h5 = c.give.ensures.holds g _ h4 in
    rw (server, client) (rw (c.from.ensures, c.from-2.ensures, c.min-copied.ensures, ← same, client) at h5)
