use Rattle.std.proofs.Common.{◌∙◌, ℕ, List, Some, ap, length, refl, sym}
use Rattle.image_format.specs.Images.{image_data}
use Rattle.command_files.specs.Verdict.{built, built_line}
use Rattle.command_files.proofs.putting.put_image.Goals as goal

pub returns-clause-tells : goal.returns-clause-tells
returns-clause-tells g c =
    let bytes = c.deref.ensures.value ∙ c.in-Ok.ensures.exact in
    let size = c.len.ensures ∙ c.in-Ok.bytes.ok.0 ∙ ap (λ (bs : List ℕ). length bs) c.in-Ok.ensures.exact in
    let line = c.as_bytes.ensures.value ∙ c.in-Ok-line_of_built.ensures ∙ ap built_line size in
    c.put_told.ensures.tells (built c.args.name.now (image_data c.args.image.now)) refl (sym line) (ap (λ (bs : List ℕ). Some (c.args.name.now, bs)) (sym bytes))
