use Rattle.build_laws.proofs.Filling.{filled}
use Rattle.build_laws.proofs.regions_fill_the_room.Goals as goal

pub returns : goal.returns
returns c = filled
