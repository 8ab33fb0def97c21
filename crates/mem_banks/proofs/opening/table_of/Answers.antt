use Rattle.std.proofs.Common.{length}
use Rattle.mem_banks.proofs.Opens.{table_zero}
use Rattle.mem_banks.proofs.opening.table_of.Goals as goal

pub mark_all-requires : goal.mark_all-requires
mark_all-requires c =
    let z = table_zero c.in_ok-table.table.items 8192 (length c.args.banks.now) c.in_ok-table.ensures c.requires in
    record { pages = rw c.deref_mut.ensures.value z.0; hints = rw c.deref_mut.ensures.value z.1 }
