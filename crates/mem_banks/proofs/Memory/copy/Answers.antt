use Rattle.std.proofs.Common.{◌≡◌, length, arith, ap}
use Rattle.std.proofs.lemmas.List.{take_at}
use Rattle.mem_banks.specs.Kept.{seen}
use Rattle.mem_banks.proofs.Opens.{beside}
use Rattle.mem_banks.proofs.Pieces.{copied_done}
use Rattle.mem_banks.proofs.Memory.copy.Goals as goal

pub returns-then-from-to : goal.returns-then-from-to
returns-then-from-to c =
    let e : length c.copy_from_end.new.banks ≡ c.self.inside.banks.len = omega (arith, c.copy_from_end.auto.banks, c.deref_mut.ensures.len) in
    rw (← c.self.view_is, take_at c.copy_from_end.new.banks _ c.self.inside.banks.len e) (ap (beside c.self.inside.regions.items) (copied_done (seen c.self.inside.banks.items) (seen c.copy_from_end.new.banks) c.args.from c.args.to c.args.count (rw c.deref_mut.ensures.value at c.copy_from_end.ensures.value)))

pub returns-else-from-to : goal.returns-else-from-to
returns-else-from-to c =
    let e : length c.copy_from_start.new.banks ≡ c.self.inside.banks.len = omega (arith, c.copy_from_start.auto.banks, c.deref_mut-else-from-to.ensures.len) in
    rw (← c.self.view_is, take_at c.copy_from_start.new.banks _ c.self.inside.banks.len e) (ap (beside c.self.inside.regions.items) (copied_done (seen c.self.inside.banks.items) (seen c.copy_from_start.new.banks) c.args.from c.args.to c.args.count (rw c.deref_mut-else-from-to.ensures.value at c.copy_from_start.ensures.value)))
