use Rattle.std.proofs.Common.{◌∙◌, arith}
use Rattle.mem_banks.proofs.Parting.{ram_length}
use Rattle.mem_banks.proofs.Memory.ram_len.Goals as goal

pub returns-clause-len : goal.returns-clause-len
returns-clause-len c = rw (← c.self.view_is) (c.self.invariant.2 ∙ ram_length c.self.inside.banks.items)

pub returns-clause-few : goal.returns-clause-few
returns-clause-few c = omega (arith, c.self.invariant.2 ∙ ram_length c.self.inside.banks.items, c.self.invariant.0.ram)
