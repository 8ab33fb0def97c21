use Rattle.asm_laws.proofs.Sized.{image_sized}
use Rattle.asm_laws.proofs.image.image_length.Goals as goal

pub returns : goal.returns
returns c = image_sized
