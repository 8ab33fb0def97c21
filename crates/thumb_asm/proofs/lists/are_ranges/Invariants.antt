use Rattle.std.proofs.Common.{◌≡◌, option_map, is_some}
use Rattle.thumb_asm.specs.Cuts.{left_length}
use Rattle.thumb_asm.specs.Operands.{ranges, stripped_by}
use Rattle.thumb_asm.specs.Kinds.{cuts_left}
use Rattle.thumb_asm.proofs.lists.are_ranges.Given as goal

abbrev pub invariant-pieces : goal.invariant-pieces
invariant-pieces l = is_some (ranges (stripped_by 44 l.text)) ≡ is_some (ranges (cuts_left 44 (option_map (λ r. r.now) l.left)))

abbrev pub decreases-pieces : goal.decreases-pieces
decreases-pieces l = left_length (option_map (λ r. r.now) l.left)
