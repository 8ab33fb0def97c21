use Rattle.command_files.proofs.Taking.{image_in_app}
use Rattle.command_files.proofs.building.built_image.Goals as goal

pub returns-in-Ok-clause-image : goal.returns-in-Ok-clause-image
returns-in-Ok-clause-image g c = image_in_app c.in-Ok.ensures.built
