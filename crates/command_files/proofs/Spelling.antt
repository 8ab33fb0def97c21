-- The bytes of a sound image are accepted, and say it.
use Rattle.std.proofs.Common.{◌≡◌, None, inr, refl}
use Rattle.image_format.specs.ImageData.{ImageData, Sound, spelling}
use Rattle.image_format.proofs.Spellings.{read_only, short_spelling}
use Rattle.command_files.specs.Contents.{image_refusal, image_data_of}
use Rattle.command_files.proofs.Refusals.{image_taken}

pub spelling_taken : (p : ImageData) → Sound p → (image_refusal (spelling p) ≡ None) × (p ≡ image_data_of (spelling p))
spelling_taken p s = image_taken (spelling p) p (short_spelling p s) (read_only p (spelling p) (inr refl) s)
