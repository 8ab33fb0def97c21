use Rattle.std.proofs.Common.{◌∙◌}
use Rattle.mem_banks.specs.Kept.{seen}
use Rattle.mem_banks.proofs.ReadPieces.{all_read}
use Rattle.mem_banks.proofs.Memory.read_ram.Goals as goal

pub returns : goal.returns
returns c =
    let long = rw (← c.self.view_is) at c.requires in
    let read = rw c.deref.ensures.value at c.read_pieces.ensures in
    rw (← c.self.view_is) (read ∙ all_read (seen c.self.inside.banks.items) _ long)
