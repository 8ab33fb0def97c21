use Rattle.std.proofs.Common.{◌≡◌, ◌+◌, sym, arith, ap, subst, length, rules}
use Rattle.thumb_asm.specs.Parts.{parts}
use Rattle.thumb_asm.specs.Sizes.{statement_of}
use Rattle.thumb_asm.specs.Causes.{second_group}
use Rattle.text_lines.specs.Text.{lines_of}
use Rattle.thumb_asm.specs.Passes.{env_in, Emitted, Stops, Refuses}
use Rattle.thumb_asm.specs.Meaning.{Env}
use Rattle.thumb_asm.proofs.Passing.{Emitting, emit_start, emit_step, emit_stops, emit_ends}
use Rattle.thumb_asm.proofs.passes.emit.Goals as goal

pub lines-init : goal.lines-init
lines-init c = record {
  so_far = subst (λ t. Emitting (env_in c.args.names.now.labels.now c.args.names.now.symbols.now) c.args.base (lines_of c.args.text.now) (lines_of c.of-lines.result.rest.now) t 0) (sym c.new-out.ensures.items) (emit_start _ c.args.base (lines_of c.args.text.now) (lines_of c.of-lines.result.rest.now) (ap lines_of c.of-lines.ensures));
  few = omega (arith, ap length c.of-lines.ensures);
}

pub returns-in-Err-clause-err : goal.returns-in-Err-clause-err
returns-in-Err-clause-err c =
    let same : c.len.result ≡ length c.lines.out.items = search rules in
    let env : Env = env_in c.args.names.now.labels.now c.args.names.now.symbols.now in
    let e = emit_stops env c.args.base (lines_of c.args.text.now) (lines_of c.lines.lines.rest.now) (lines_of c.next.new.self.rest.now) c.lines.out.items c.lines.number c.in-Some.line.now c.in-Some.ensures.line c.lines.invariant.so_far in
    subst (Refuses c.fault_at.result) (sym e) (c.fault_at.ensures _ _ (subst (λ n. Stops c.in-Err.stop (second_group env (c.args.base + n) (statement_of (parts c.in-Some.line.now).statement))) same c.in-Err.ensures.err))

pub lines-preserved : goal.lines-preserved
lines-preserved c =
    let same : c.len.result ≡ length c.lines.out.items = search rules in
    record {
      so_far = emit_step _ c.args.base (lines_of c.args.text.now) (lines_of c.lines.lines.rest.now) (lines_of c.next.new.self.rest.now) c.lines.out.items c.emit_line.new.out.items c.lines.number c.in-Some.line.now c.in-Some.ensures.line (subst (λ n. Emitted (env_in c.args.names.now.labels.now c.args.names.now.symbols.now) (c.args.base + n) c.in-Some.line.now c.lines.out.items c.emit_line.new.out.items) same c.in-Ok.ensures.ok) c.lines.invariant.so_far;
      few = omega (arith, c.in-Some.ensures.shorter);
    }

pub returns-clause-ok : goal.returns-clause-ok
returns-clause-ok c = emit_ends _ c.args.base (lines_of c.args.text.now) (lines_of c.lines.lines.rest.now) c.lines.out.items c.lines.number c.in_default.ensures.end c.lines.invariant.so_far
