use Rattle.task_table.proofs.kept.Summaries.{lowest, low_bit}
use Rattle.task_table.proofs.task_set.lowest_bit.Goals as goal

pub returns : goal.returns
returns c =
    let first = lowest c.args.bits c.requires c.ranges.bits.fits in
    record { first = first; within = low_bit c.args.bits _ first.1 }
