use Rattle.task_table.proofs.kept.KeptEntries.{none_met}
use Rattle.task_table.proofs.kernel.Kernel.touched.Goals as goal

pub returns-else-catches-clause-apart : goal.returns-else-catches-clause-apart
returns-else-catches-clause-apart c = λ i x kept.
    let k = c.args.self.now in
    none_met k.memory.bytes k.watch.low k.watch.span k.entries.items c.args.base c.args.len k.fresh (c.catches.ensures c.if-catches.false) i x kept
