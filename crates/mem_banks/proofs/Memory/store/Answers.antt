use Rattle.std.proofs.Common.{◌≡◌, length, arith, ap}
use Rattle.std.proofs.lemmas.List.{take_at}
use Rattle.mem_banks.proofs.Opens.{beside}
use Rattle.mem_banks.proofs.Memory.store.Goals as goal

pub returns : goal.returns
returns c =
    let e : length c.store_at.new.banks ≡ c.self.inside.banks.len = omega (arith, c.store_at.auto.banks, c.deref_mut.ensures.len) in
    rw (← c.self.view_is, take_at c.store_at.new.banks _ c.self.inside.banks.len e) (ap (beside c.self.inside.regions.items) (rw c.deref_mut.ensures.value at c.store_at.ensures.value))
