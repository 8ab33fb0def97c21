use Rattle.std.proofs.Common.{inr, refl}
use Rattle.image_format.specs.ImageData.{spelling}
use Rattle.image_format.proofs.Spellings.{same_image}
use Rattle.image_format.proofs.laws.one_spelling.Goals as goal

pub returns : goal.returns
returns c = λ p bytes f. (inr refl, λ q h. same_image q p (spelling p) h (inr refl))
