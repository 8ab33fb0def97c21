use Rattle.thumb_asm.specs.Passes.{env_in}
use Rattle.thumb_asm.proofs.Coding.{gave_held, refused_held}
use Rattle.thumb_asm.proofs.shape.emit_code.Goals as goal

pub returns-clause-ok : goal.returns-clause-ok
returns-clause-ok c = gave_held (env_in c.args.names.now.labels.now c.args.names.now.symbols.now) c.args.at c.args.shape.now c.args.out.now.items c.emit_found.new.out.items c.emit_found.result c.requires (c.emit_found.ensures.ok _ c.insn_at.ensures)

pub returns-clause-err : goal.returns-clause-err
returns-clause-err c = refused_held (env_in c.args.names.now.labels.now c.args.names.now.symbols.now) c.args.at c.args.shape.now c.emit_found.result c.requires (c.emit_found.ensures.err _ c.insn_at.ensures)
