use Rattle.image_format.specs.Images.{records_in}
use Rattle.image_format.proofs.Holds.{facts}
use Rattle.image_format.proofs.Shape.{sound_image_data}
use Rattle.image_format.proofs.image.Image.facts.Goals as goal

pub returns-clause-sound : goal.returns-clause-sound
returns-clause-sound c = sound_image_data (records_in c.args.self.now) c.args.self.now.second c.args.self.now.accepted

pub returns-clause-facts : goal.returns-clause-facts
returns-clause-facts c = facts (records_in c.args.self.now) c.args.self.now.accepted
