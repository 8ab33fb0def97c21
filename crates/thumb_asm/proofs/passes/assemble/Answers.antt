use Rattle.std.proofs.Common.{◌≡◌, subst, IfOk, IfErr, None}
use Rattle.std.specs.BTreeMap.{get_by_text}
use Rattle.text_lines.specs.Text.{lines_of}
use Rattle.thumb_asm.specs.Assembly.{Assembles}
use Rattle.thumb_asm.specs.Meaning.{Env}
use Rattle.thumb_asm.specs.Causes.{first_cause}
use Rattle.thumb_asm.specs.Passes.{Refuses, over, symbol_values, values_of}
use Rattle.thumb_asm.proofs.Labels.{over_nothing}
use Rattle.thumb_asm.proofs.passes.assemble.Goals as goal

only_own : (c : goal.After-drop-none) → over (symbol_values c.args.symbols.now) (values_of c.none.result) ≡ symbol_values c.args.symbols.now
only_own c = over_nothing (symbol_values c.args.symbols.now) (values_of c.none.result) c.none.ensures

pub returns-clause-accepted : goal.returns-clause-accepted
returns-clause-accepted c = subst (λ (f : Env). IfOk c.assemble_with.result (λ o. first_cause (lines_of c.args.text.now) c.args.base f ≡ None)) (only_own c) c.assemble_with.ensures.accepted

pub returns-clause-assembled : goal.returns-clause-assembled
returns-clause-assembled c = subst (λ (f : Env). IfOk c.assemble_with.result (λ o. Assembles (lines_of c.args.text.now) c.args.base f o.bytes.items (get_by_text o.labels))) (only_own c) c.assemble_with.ensures.assembled

pub returns-clause-refused : goal.returns-clause-refused
returns-clause-refused c = subst (λ (f : Env). IfErr c.assemble_with.result (λ e. Refuses e (first_cause (lines_of c.args.text.now) c.args.base f))) (only_own c) c.assemble_with.ensures.refused
