use Rattle.std.proofs.Common.{◌∙◌, sym, false}
use Rattle.std.proofs.lemmas.Bool.{not-false}
use Rattle.thumb_encode.specs.Codes.{scale}
use Rattle.thumb_asm.specs.Parts.{operand_pieces}
use Rattle.thumb_asm.specs.Passes.{env_in}
use Rattle.thumb_asm.proofs.Values.{gave_data}
use Rattle.thumb_asm.proofs.data.emit.Goals as goal

pub returns-clause-ok : goal.returns-clause-ok
returns-clause-ok c = gave_data (env_in c.args.names.now.labels.now c.args.names.now.symbols.now) c.args.at (scale c.args.size) (operand_pieces c.args.pieces.now) c.args.out.now.items c.push_all.new.out.items c.push_all.result (not-false _ (sym c.is_misplaced.ensures ∙ c.if-is_misplaced.false)) (sym c.has_unknown.ensures ∙ c.if-has_unknown.false) (sym c.has_beyond.ensures ∙ c.if-has_beyond.false) c.push_all.ensures.ok
