use Rattle.std.proofs.Common.{◌≡◌, ◌++◌, false, option_map}
use Rattle.std.specs.List.{list_any}
use Rattle.thumb_encode.specs.Codes.{scale}
use Rattle.thumb_asm.specs.Parts.{pieces_left, operand_pieces}
use Rattle.thumb_asm.specs.Cuts.{left_length}
use Rattle.thumb_asm.specs.Meaning.{value, data_bytes}
use Rattle.thumb_asm.specs.Causes.{is_unknown, is_beyond}
use Rattle.thumb_asm.specs.Passes.{env_in}
use Rattle.thumb_asm.proofs.data.push_all.Given as goal

abbrev pub invariant-pieces : goal.invariant-pieces
invariant-pieces l = record {
  so_far : l.out.items ++ data_bytes (env_in l.names.labels.now l.names.symbols.now) (scale l.size) (pieces_left (option_map (λ r. r.now) l.left.rest)) ≡ l.fn.out.items ++ data_bytes (env_in l.names.labels.now l.names.symbols.now) (scale l.size) (operand_pieces l.pieces);
  known : list_any (λ e. is_unknown (value (env_in l.names.labels.now l.names.symbols.now) e)) (pieces_left (option_map (λ r. r.now) l.left.rest)) ≡ false;
  within : list_any (λ e. is_beyond (scale l.size) (value (env_in l.names.labels.now l.names.symbols.now) e)) (pieces_left (option_map (λ r. r.now) l.left.rest)) ≡ false;
}

abbrev pub decreases-pieces : goal.decreases-pieces
decreases-pieces l = left_length (option_map (λ r. r.now) l.left.rest)
