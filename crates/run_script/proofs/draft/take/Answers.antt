use Rattle.std.proofs.Common.{◌∙◌, ℕ, ap, arith, map, subst, sym}
use Rattle.std.proofs.lemmas.Result.{IfErr-weaker, on_ok_weaker}
use Rattle.run_script.specs.declared.events.Event.{Event}
use Rattle.run_script.specs.declared.events.Event.TheVariants.{Feed}
use Rattle.run_script.specs.declared.statement.Statement.{Statement}
use Rattle.run_script.specs.Drafts.{Refuses, drafted, said}
use Rattle.run_script.specs.Events.{script_data}
use Rattle.run_script.specs.Scripts.{with_statement}
use Rattle.run_script.proofs.Series.{not_taken, taken}
use Rattle.run_script.proofs.draft.take.Goals as goal

pub returns-else-first-draft-2-clause-ok : goal.returns-else-first-draft-2-clause-ok
returns-else-first-draft-2-clause-ok c =
    let r = drafted c.args.draft.now in
    let f : ℕ → Event = λ byte. Feed c.in-Bytes.device byte in
    on_ok_weaker c.add_bytes.result
    (λ h. ap (λ (s : Statement). with_statement r (said s)) c.in-Bytes.is
    ∙ taken r c.in-Bytes.first c.in-Bytes.step (map f c.in-Bytes.bytes.items) (map f c.deref.result.now) (script_data c.add_bytes.new.script) (omega arith) (ap (map f) c.deref.ensures.value) h)
    c.add_bytes.ensures.ok

pub returns-else-first-draft-2-clause-err : goal.returns-else-first-draft-2-clause-err
returns-else-first-draft-2-clause-err c =
    let r = drafted c.args.draft.now in
    let f : ℕ → Event = λ byte. Feed c.in-Bytes.device byte in
    IfErr-weaker c.add_bytes.result _ (λ e. Refuses e c.args.line (with_statement r (said c.args.statement)))
    (λ e h. subst (λ (s : Statement). Refuses e c.args.line (with_statement r (said s))) (sym c.in-Bytes.is)
    (not_taken r c.in-Bytes.first c.in-Bytes.step c.args.line (map f c.in-Bytes.bytes.items) (map f c.deref.result.now) e (omega arith) (ap (map f) c.deref.ensures.value) h))
    c.add_bytes.ensures.err
