use Rattle.std.proofs.Common.{◌∙◌, ap, sym}
use Rattle.image_format.specs.declared.records.ImageForm.TheVariants.{Second}
use Rattle.image_format.specs.ImageData.{image_data_of}
use Rattle.image_format.proofs.Shape.{image_data_again}
use Rattle.image_format.proofs.image.Image.of_parts.Goals as goal

pub returns : goal.returns
returns c p is = ap image_data_of (sym is) ∙ image_data_again Second p
