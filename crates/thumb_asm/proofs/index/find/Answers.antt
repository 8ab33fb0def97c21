use Rattle.thumb_asm.proofs.Labels.{name_text}
use Rattle.thumb_asm.proofs.index.find.Goals as goal

pub unreachable-requires : goal.unreachable-requires
unreachable-requires c = c.in-Err.ensures.cases.0 (name_text c.args.name.now c.requires)
