use Rattle.mem_banks.proofs.Within.{held_is}
use Rattle.mem_banks.proofs.Memory.holds.Goals as goal

pub returns : goal.returns
returns c =
    let found = rw c.deref.ensures.value at c.find.ensures.found in
    let none = rw c.deref.ensures.value at c.find.ensures.none in
    rw (← c.self.view_is, c.is_some.ensures) (held_is c.self.inside.table.items c.self.inside.banks.items c.args.addr c.find.result c.self.invariant.0 found none)
