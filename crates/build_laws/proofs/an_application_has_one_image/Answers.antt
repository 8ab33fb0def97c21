use Rattle.build_laws.proofs.OneImageData.{one_picture}
use Rattle.build_laws.proofs.an_application_has_one_image.Goals as goal

pub returns : goal.returns
returns c = one_picture
