use Rattle.std.proofs.Common.{◌≡◌, ap}
use Rattle.task_table.specs.model.State.{Birth, Reply}
use Rattle.task_table.specs.model.Reading.{taken_by}
use Rattle.task_table.specs.model.Sends.{reply_of}
use Rattle.task_table.specs.kept.Holds.{kept_call}
use Rattle.task_table.specs.declared.slot.OpenCall.{OpenCall}
use Rattle.region_check.specs.declared.Right.TheVariants.{Read}
use Rattle.task_table.proofs.model.Clients.{taken_call}
use Rattle.task_table.proofs.model.Ranges.{within-good, within_ram-front}
use Rattle.task_table.proofs.kept.Steps.{some_mapped}
use Rattle.task_table.proofs.kernel.Kernel.hand_reply.Goals as goal

pub copy-requires-clause-source : goal.copy-requires-clause-source
copy-requires-clause-source c =
    let r = c.requires.replying in
    rw r.stands.holds.memory (within-good r.setup r.turn.state.memory c.args.caller Read (reply_of c.args.args.now) r.stands.sane.steady.placed r.readable)

pub copy-requires-clause-target : goal.copy-requires-clause-target
copy-requires-clause-target c =
    let r = c.requires.replying in
    let k = some_mapped kept_call (taken_by r.turn.state c.args.client c.args.caller) _ r.taken in
    let o = taken_call r.setup r.turn.state c.args.client c.args.caller k.0 r.stands.sane k.1 in
    let room = ap (λ (x : OpenCall). x.reply) k.2 in
    rw r.stands.holds.memory (within_ram-front r.turn.state.memory c.args.call.now.reply.base c.args.call.now.reply.len c.args.args.now.reply_length (rw room at o.writable) r.fits)

pub returns-clause-holds : goal.returns-clause-holds
returns-clause-holds c = λ g t k h taken same.
    let o = taken_call g t.state c.args.client c.args.caller k h.sane taken in
    let client : k.client.index ≡ c.args.client = ap (λ (b : Birth). b.index) o.client in
    let base : k.reply.base ≡ c.args.call.now.reply.base = ap (λ (x : OpenCall). x.reply.base) same in
    let h1 = c.copy.ensures.holds g t (Reply k.number) h.holds in
    let h2 = c.close.ensures.holds g _ h1 in
    let h3 = c.give.ensures.holds g _ h2 in
    let h4 = c.note_return.ensures.holds g _ h3 in
    rw (client, base) (c.go_on.ensures.holds g _ h4)
