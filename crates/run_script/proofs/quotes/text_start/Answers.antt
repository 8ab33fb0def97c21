use Rattle.std.proofs.Common.{◌∙◌, arith, refl, sym, get_or}
use Rattle.run_script.proofs.Quoting.{found_here, found_all, none_here}
use Rattle.run_script.proofs.quotes.text_start.Goals as goal

pub returns-then-begins_text-clause-before : goal.returns-then-begins_text-clause-before
returns-then-begins_text-clause-before c =
    (found_here c.args.line.now c.loop-i.i (get_or c.args.line.now c.loop-i.i 0) c.loop-i.begins (omega arith) refl (sym c.begins_text.ensures ∙ c.if-begins_text.true) c.loop-i.invariant).0

pub returns-then-begins_text-clause-text : goal.returns-then-begins_text-clause-text
returns-then-begins_text-clause-text c =
    (found_here c.args.line.now c.loop-i.i (get_or c.args.line.now c.loop-i.i 0) c.loop-i.begins (omega arith) refl (sym c.begins_text.ensures ∙ c.if-begins_text.true) c.loop-i.invariant).1

pub loop-i-preserved : goal.loop-i-preserved
loop-i-preserved c =
    none_here c.args.line.now c.loop-i.i (get_or c.args.line.now c.loop-i.i 0) c.loop-i.begins c.is_blank-begins.result (omega arith) refl
    (sym c.begins_text.ensures ∙ c.if-begins_text.false) c.is_blank-begins.ensures c.loop-i.invariant

pub returns-clause-before : goal.returns-clause-before
returns-clause-before c = (found_all c.args.line.now c.loop-i.i c.loop-i.begins (omega arith) (omega arith) c.loop-i.invariant).0

pub returns-clause-text : goal.returns-clause-text
returns-clause-text c = (found_all c.args.line.now c.loop-i.i c.loop-i.begins (omega arith) (omega arith) c.loop-i.invariant).1
