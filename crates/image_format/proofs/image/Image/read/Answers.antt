use Rattle.std.proofs.Common.{arith, subst, sym}
use Rattle.image_format.specs.Images.{records_in}
use Rattle.image_format.specs.ImageData.{Spells, image_data_of}
use Rattle.image_format.specs.Records.{Records}
use Rattle.image_format.proofs.Shape.{sound_image_data}
use Rattle.image_format.proofs.Spelled.{spelled}
use Rattle.image_format.proofs.Spellings.{read_only, spells}
use Rattle.image_format.proofs.image.Image.read.Goals as goal

pub returns-in-Ok-clause-spelled : goal.returns-in-Ok-clause-spelled
returns-in-Ok-clause-spelled c =
    let bytes = c.args.bytes.now in
    subst (λ (q : Records). Spells (image_data_of q) bytes) (sym c.kept.ensures)
    (spells bytes _ (spelled bytes _ (λ k. omega (arith, c.type_inv.bytes k)) c.in-Ok.ensures.ok) c.in-Ok.ensures.accepted c.in-Ok.ensures.plain)

pub returns-in-Ok-clause-sound : goal.returns-in-Ok-clause-sound
returns-in-Ok-clause-sound c = sound_image_data (records_in c.kept.result) c.kept.result.second c.kept.result.accepted

pub returns-in-Ok-clause-only : goal.returns-in-Ok-clause-only
returns-in-Ok-clause-only c p spelling sound = read_only p c.args.bytes.now spelling sound

pub returns-in-Err-clause-only : goal.returns-in-Err-clause-only
returns-in-Err-clause-only c p spelling sound = read_only p c.args.bytes.now spelling sound
