use Rattle.asm_laws.proofs.Sized.{lines_have_bytes}
use Rattle.asm_laws.proofs.image.each_line_has_its_bytes.Goals as goal

pub returns : goal.returns
returns c = lines_have_bytes
