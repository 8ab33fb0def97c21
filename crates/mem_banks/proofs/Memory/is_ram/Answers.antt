use Rattle.std.proofs.Common.{◌∙◌}
use Rattle.mem_banks.proofs.Parting.{ram_length}
use Rattle.mem_banks.proofs.Within.{ram_range}
use Rattle.mem_banks.proofs.Memory.is_ram.Goals as goal

pub returns-then-addr-ge-RAM : goal.returns-then-addr-ge-RAM
returns-then-addr-ge-RAM c =
    let size = c.self.invariant.2 ∙ ram_length c.self.inside.banks.items in
    rw (← c.self.view_is, c.from.ensures, c.from-then-addr-ge-RAM.ensures, c.from-then-addr-ge-RAM-2.ensures, size) (ram_range c.args.addr c.args.count _ c.if-addr-ge-RAM.true)
