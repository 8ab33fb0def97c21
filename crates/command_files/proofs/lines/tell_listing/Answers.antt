use Rattle.std.proofs.Common.{refl, sym, ◌∙◌}
use Rattle.image_format.specs.Images.{image_data}
use Rattle.command_files.specs.Verdict.{listed}
use Rattle.command_files.specs.Pushed.{pushed}
use Rattle.command_files.proofs.lines.tell_listing.Goals as goal

pub returns-in-Ok : goal.returns-in-Ok
returns-in-Ok g c = pushed (c.tell.ensures (listed (image_data c.args.image.now)) refl (sym (c.as_bytes.ensures.value ∙ c.in-Ok.ensures)))
