use Rattle.std.proofs.Common.{◌∙◌}
use Rattle.thumb_asm.proofs.Labels.{empty_index, nothing_at}
use Rattle.thumb_asm.proofs.index.Symbols.none.Goals as goal

pub returns : goal.returns
returns c = λ name. empty_index c.new-values.result c.new-values.ensures.empty name ∙ nothing_at name
