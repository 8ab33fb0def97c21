use Rattle.thumb_encode.specs.Codes.{scale}
use Rattle.thumb_asm.specs.Meaning.{value}
use Rattle.thumb_asm.specs.Causes.{is_unknown, is_beyond}
use Rattle.thumb_asm.specs.Passes.{env_in}
use Rattle.thumb_asm.proofs.Values.{push_step, push_last, any_tail, any_head}
use Rattle.thumb_asm.proofs.data.push_all.Goals as goal

pub push_piece-requires-clause-known : goal.push_piece-requires-clause-known
push_piece-requires-clause-known c = any_head (λ e. is_unknown (value (env_in c.args.names.now.labels.now c.args.names.now.symbols.now) e)) c.in-Some.piece.now _ _ c.in-Some.ensures.piece c.pieces.invariant.known

pub push_piece-requires-clause-within : goal.push_piece-requires-clause-within
push_piece-requires-clause-within c = any_head (λ e. is_beyond (scale c.args.size) (value (env_in c.args.names.now.labels.now c.args.names.now.symbols.now) e)) c.in-Some.piece.now _ _ c.in-Some.ensures.piece c.pieces.invariant.within

pub pieces-preserved : goal.pieces-preserved
pieces-preserved c = record {
  so_far = push_step (env_in c.args.names.now.labels.now c.args.names.now.symbols.now) (scale c.args.size) c.in-Some.piece.now _ _ _ c.pieces.out.items c.push_piece.new.out.items c.in-Some.ensures.piece c.in-Ok.ensures.ok c.pieces.invariant.so_far;
  known = any_tail (λ e. is_unknown (value (env_in c.args.names.now.labels.now c.args.names.now.symbols.now) e)) c.in-Some.piece.now _ _ c.in-Some.ensures.piece c.pieces.invariant.known;
  within = any_tail (λ e. is_beyond (scale c.args.size) (value (env_in c.args.names.now.labels.now c.args.names.now.symbols.now) e)) c.in-Some.piece.now _ _ c.in-Some.ensures.piece c.pieces.invariant.within;
}

pub returns-clause-ok : goal.returns-clause-ok
returns-clause-ok c = push_last (env_in c.args.names.now.labels.now c.args.names.now.symbols.now) (scale c.args.size) _ _ c.pieces.out.items c.in_default.ensures.piece c.pieces.invariant.so_far
