use Rattle.image_format.proofs.Texts.{name_text}
use Rattle.image_format.proofs.views.text_of.Goals as goal

pub unreachable-requires : goal.unreachable-requires
unreachable-requires c = c.in-Err.ensures.cases.0 (name_text c.args.name.now c.requires)
