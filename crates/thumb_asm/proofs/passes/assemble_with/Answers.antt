use Rattle.std.proofs.Common.{◌≡◌, subst, IfOk, IfErr, None}
use Rattle.std.specs.BTreeMap.{get_by_text}
use Rattle.text_lines.specs.Text.{lines_of}
use Rattle.thumb_asm.specs.Assembly.{Assembles}
use Rattle.thumb_asm.specs.Meaning.{Env}
use Rattle.thumb_asm.specs.Causes.{first_cause}
use Rattle.thumb_asm.specs.Passes.{Refuses, over, values_of}
use Rattle.thumb_asm.proofs.passes.assemble_with.Goals as goal

pub returns-in-Ok-clause-accepted : goal.returns-in-Ok-clause-accepted
returns-in-Ok-clause-accepted c = subst (λ (f : Env). IfOk c.assemble_given.result (λ o. first_cause (lines_of c.args.text.now) c.args.base (over f (values_of c.args.shared.now)) ≡ None)) c.in-Ok.ensures c.assemble_given.ensures.accepted

pub returns-in-Ok-clause-assembled : goal.returns-in-Ok-clause-assembled
returns-in-Ok-clause-assembled c = subst (λ (f : Env). IfOk c.assemble_given.result (λ o. Assembles (lines_of c.args.text.now) c.args.base (over f (values_of c.args.shared.now)) o.bytes.items (get_by_text o.labels))) c.in-Ok.ensures c.assemble_given.ensures.assembled

pub returns-in-Ok-clause-refused : goal.returns-in-Ok-clause-refused
returns-in-Ok-clause-refused c = subst (λ (f : Env). IfErr c.assemble_given.result (λ e. Refuses e (first_cause (lines_of c.args.text.now) c.args.base (over f (values_of c.args.shared.now))))) c.in-Ok.ensures c.assemble_given.ensures.refused
