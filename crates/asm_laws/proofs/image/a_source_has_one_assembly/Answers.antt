use Rattle.asm_laws.proofs.Single.{one_bytes, one_labels}
use Rattle.asm_laws.proofs.image.a_source_has_one_assembly.Goals as goal

pub returns : goal.returns
returns c = record { bytes = one_bytes; labels = one_labels }
