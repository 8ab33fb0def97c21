use Rattle.std.proofs.Common.{◌≡◌, option_map}
use Rattle.std.specs.List.{list_any}
use Rattle.thumb_encode.specs.Codes.{scale}
use Rattle.thumb_asm.specs.Parts.{pieces_left, operand_pieces}
use Rattle.thumb_asm.specs.Cuts.{left_length}
use Rattle.thumb_asm.specs.Meaning.{value}
use Rattle.thumb_asm.specs.Causes.{is_beyond}
use Rattle.thumb_asm.specs.Passes.{env_in}
use Rattle.thumb_asm.proofs.data.has_beyond.Given as goal

abbrev pub invariant-pieces : goal.invariant-pieces
invariant-pieces l = list_any (λ e. is_beyond (scale l.size) (value (env_in l.names.labels.now l.names.symbols.now) e)) (operand_pieces l.pieces) ≡ list_any (λ e. is_beyond (scale l.size) (value (env_in l.names.labels.now l.names.symbols.now) e)) (pieces_left (option_map (λ r. r.now) l.left.rest))

abbrev pub decreases-pieces : goal.decreases-pieces
decreases-pieces l = left_length (option_map (λ r. r.now) l.left.rest)
