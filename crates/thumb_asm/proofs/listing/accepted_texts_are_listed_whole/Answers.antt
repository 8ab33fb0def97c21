use Rattle.std.proofs.Common.{◌∙◌, ap, add-zero}
use Rattle.thumb_asm.specs.Causes.{labels_from}
use Rattle.thumb_asm.proofs.Placing.{all_placed, all_listed, first_none}
use Rattle.thumb_asm.proofs.listing.accepted_texts_are_listed_whole.Goals as goal

pub returns-clause-lines : goal.returns-clause-lines
returns-clause-lines c = λ lines base given h. all_placed given base _ 0 1 1 lines (first_none lines base given h)

pub returns-clause-labels : goal.returns-clause-labels
returns-clause-labels c = λ lines base given h. all_listed given base _ 0 1 1 lines (first_none lines base given h) ∙ ap (λ n. labels_from n lines) (add-zero base)
