use Rattle.std.proofs.Common.{◌<◌, length, arith}
use Rattle.task_table.specs.model.Effects.{posted}
use Rattle.task_table.proofs.model.Posting.{sane-posted}
use Rattle.task_table.proofs.kernel.Kernel.post.Goals as goal

pub returns-clause-holds : goal.returns-clause-holds
unfolding posted
returns-clause-holds c = λ g t h. c.wake.ensures.holds g _ (c.add_bits.ensures.holds g t h)

pub returns-clause-stands : goal.returns-clause-stands
unfolding posted
returns-clause-stands c = λ g t h.
    let inside : c.args.task < length t.state.tasks = omega (arith, c.requires.there, h.holds.count) in
    record { holds = c.wake.ensures.holds g _ (c.add_bits.ensures.holds g t h.holds); sane = sane-posted c.args.task c.args.bits t h.sane inside }
