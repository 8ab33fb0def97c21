use Rattle.image_format.proofs.Spellings.{same_image}
use Rattle.image_format.proofs.laws.bytes_spell_one_image.Goals as goal

pub returns : goal.returns
returns c = same_image
