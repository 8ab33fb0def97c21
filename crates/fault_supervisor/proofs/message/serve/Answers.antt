use Rattle.std.proofs.Common.{◌≡◌, ◌&&◌, true, false, not, length, leb, eqb, sym, ◌∙◌, ap, arith, subst}
use Rattle.std.proofs.lemmas.Bool.{eq-eqb, ne_eqb, le-leb, lt-leb}
use Rattle.task_table.specs.kept.Holds.{Holds}
use Rattle.fault_supervisor.specs.Meanings.{meaning}
use Rattle.fault_supervisor.proofs.Rows.{served_row, and_false}
use Rattle.fault_supervisor.proofs.message.serve.Goals as goal
use Rattle.fault_supervisor.proofs.message.serve.Goals.{else-task-eq0-via-then-task-eq0+else-not-is_on_supervisor, else-task-eq0-via-else-task-eq0}

pub returns-clause-holds : goal.returns-clause-holds
returns-clause-holds c = λ g t h.
    let x = c.args.args.now in
    let o = meaning c.args.request in
    let i = c.number-task.result in
    let long : eqb x.message_length o.message ≡ true = eq-eqb _ _ (c.if-args-message_length.false ∙ c.message_length.ensures) in
    let room : leb o.reply x.reply_capacity ≡ true = rw (← c.reply_length.ensures) (le-leb _ _ c.if-args-reply_length.false) in
    let there : leb (length t.state.tasks) i ≡ false = lt-leb _ _ (omega (arith, c.if-task_count-task.false, c.task_count.ensures.value, h.holds.count)) in
    let whom : (eqb i 0 && not o.on_supervisor) ≡ false = elim c.else-task-eq0.branch [
      | else-task-eq0-via-then-task-eq0+else-not-is_on_supervisor w ↦ rw (← w.if-not-is_on_supervisor.ensures) (and_false (eqb i 0))
      | else-task-eq0-via-else-task-eq0 w ↦ ap (λ b. b && not o.on_supervisor) (ne_eqb _ _ w.if-task-eq0.false)
    ] in
    let row = served_row g c.args.caller x o t i (sym (c.number-task.ensures.holds g t h.holds)) long room there whom in
    let answered = rw c.reply_length-2.ensures at (c.answer.ensures.holds g _ (c.carry_out.ensures.holds g t h)) in
    subst (Holds g c.answer.new.self) (sym row) answered
