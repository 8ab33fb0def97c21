use Rattle.std.proofs.Common.{◌≡◌, length, arith, ap, ◌∙◌}
use Rattle.std.proofs.lemmas.List.{take_at}
use Rattle.mem_banks.specs.Kept.{seen}
use Rattle.mem_banks.proofs.Opens.{beside}
use Rattle.mem_banks.proofs.ReadPieces.{all_written}
use Rattle.mem_banks.proofs.Memory.set_ram.Goals as goal

pub returns : goal.returns
returns c =
    let e : length c.store_at.new.banks ≡ c.self.inside.banks.len = omega (arith, c.store_at.auto.banks, c.deref_mut.ensures.len) in
    let long = rw (← c.self.view_is) at c.requires in
    let stored = rw c.deref_mut.ensures.value at c.store_at.ensures.value in
    rw (← c.self.view_is, take_at c.store_at.new.banks _ c.self.inside.banks.len e) (ap (beside c.self.inside.regions.items) (stored ∙ all_written (seen c.self.inside.banks.items) c.args.bytes.now long))
