use Rattle.std.proofs.Common.{sym, subst, ℕ}
use Rattle.image_format.specs.Images.{image_data}
use Rattle.command_files.specs.FileFaults.{IsFaultFor}
use Rattle.command_files.proofs.Refusals.{image_taken, image_refused}
use Rattle.command_files.proofs.sources.image_in.Goals as goal

pub returns-in-Ok-clause-accepted : goal.returns-in-Ok-clause-accepted
returns-in-Ok-clause-accepted c = (image_taken c.args.bytes.now (image_data c.in-Ok.image) c.requires c.in-Ok.ensures.ok).0

pub returns-in-Ok-clause-image : goal.returns-in-Ok-clause-image
returns-in-Ok-clause-image c = (image_taken c.args.bytes.now (image_data c.in-Ok.image) c.requires c.in-Ok.ensures.ok).1

pub returns-in-Err-Refused-clause-file_fault : goal.returns-in-Err-Refused-clause-file_fault
returns-in-Err-Refused-clause-file_fault c =
    let why : ℕ × ℕ = (c.in-Err-Refused.cause, c.in-Err-Refused.place) in
    let refused = image_refused c.args.bytes.now why c.requires (rw c.in-Err-Refused.field-0-is at c.in-Err-Refused.ensures.refused) in
    subst (λ r. IsFaultFor r c.refused_at_number.result) (sym refused) c.refused_at_number.ensures
