use Rattle.std.proofs.Common.{◌≡◌, option_map}
use Rattle.std.specs.List.{list_all}
use Rattle.thumb_asm.specs.Parts.{pieces_left, operand_pieces}
use Rattle.thumb_asm.specs.Cuts.{left_length}
use Rattle.thumb_asm.specs.Kinds.{is_expression, are_expressions}
use Rattle.thumb_asm.proofs.syntax.are_expressions.Given as goal

abbrev pub invariant-pieces : goal.invariant-pieces
invariant-pieces l = are_expressions (operand_pieces l.rest) ≡ list_all is_expression (pieces_left (option_map (λ r. r.now) l.pieces.rest))

abbrev pub decreases-pieces : goal.decreases-pieces
decreases-pieces l = left_length (option_map (λ r. r.now) l.pieces.rest)
