use Rattle.std.proofs.Common.{refl, arith, ◌-◌, ◌*◌, ◌^◌, ◌%◌}
use Rattle.std.proofs.lemmas.Nat.{and_le_l}
use Rattle.task_table.proofs.kept.Summaries.{first_bit, no_bit, low_bit}
use Rattle.task_table.proofs.task_set.first_bit_from.Goals as goal

pub returns-then-later-eq0-clause-first : goal.returns-then-later-eq0-clause-first
returns-then-later-eq0-clause-first c = no_bit c.args.bits c.args.from _ c.requires refl c.if-later-eq0.true

pub returns-else-later-eq0 : goal.returns-else-later-eq0
returns-else-later-eq0 c =
    let first = first_bit c.args.bits c.args.from _ c.requires refl (omega (arith, c.if-later-eq0.false)) (omega (arith, and_le_l c.args.bits ((2 ^ 32 - 1) * 2 ^ c.args.from % 2 ^ 32), c.ranges.bits.fits)) in
    record { first = first; within = low_bit c.args.bits _ first.1 }
