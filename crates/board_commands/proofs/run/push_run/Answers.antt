use Rattle.std.proofs.Common.{ap, subst, ◌∙◌}
use Rattle.std.proofs.lemmas.List.{append-nil}
use Rattle.std.proofs.lemmas.Result.{err_from_is_err_and}
use Rattle.std.specs.Io.KnownBytes.{Appends}
use Rattle.outside_io.specs.Outside.{AppendsFront}
use Rattle.board_model.specs.Run.{Run}
use Rattle.board_model.specs.Script.{start_of}
use Rattle.board_model.specs.declared.outcomes.Level.{Level}
use Rattle.board_core.specs.Data.{boxed}
use Rattle.board_core.specs.Stands.{Stands}
use Rattle.board_run.specs.Text.{trace_text}
use Rattle.board_run.specs.MemoryText.{memory_text}
use Rattle.board_commands.specs.Fit.{IsFitRun}
use Rattle.outside_io.proofs.Pushing.{appends_more, front_more, front_wider}
use Rattle.board_commands.specs.Verdict.{memory_if, run_from, level_of}
use Rattle.board_commands.proofs.Ending.{run_fits}
use Rattle.board_commands.proofs.run.push_run.Goals as goal

pub returns-in_err-end-clause-text : goal.returns-in_err-end-clause-text
returns-in_err-end-clause-text g c = λ x s st.
    let p = err_from_is_err_and c.from_residual.result c.from_residual.ensures.1 in
    let same = ap (λ (l : Level). run_from l c.args.steps x s) c.level_of.ensures in
    let whole = run_from (level_of c.args.detail) c.args.steps x s in
    let P : Run → Type 0 = λ r. AppendsFront (g.S.Sink.seen c.args.out.now).written (g.S.Sink.seen c.run.new.out).written (trace_text r) in
    rw (p.1) (front_wider _ _ (trace_text whole) (memory_if c.args.detail.memory x.setup whole.last) (subst P same (c.in_err-end.ensures.text x s st)))

pub returns-in_err-write_memory-clause-text : goal.returns-in_err-write_memory-clause-text
returns-in_err-write_memory-clause-text g c = λ x s st.
    let p = err_from_is_err_and c.from_residual-in_err-write_memory.result c.from_residual-in_err-write_memory.ensures.1 in
    let same = ap (λ (l : Level). run_from l c.args.steps x s) c.level_of.ensures in
    let whole = run_from (level_of c.args.detail) c.args.steps x s in
    let P : Run → Type 0 = λ r. Appends (g.S.Sink.seen c.args.out.now).written (g.S.Sink.seen c.run.new.out).written (trace_text r) in
    let shown = boxed (λ p. (goal.Device-dyn g p).shown p.1) in
    let L : Run → Type 0 = λ r. Stands shown x c.run.new.board r.last in
    let last = subst L same (c.in_ok-end.ensures.last x s st) in
    rw (p.1, c.if-detail.true) (front_more _ _ _ (trace_text whole) (memory_text x.setup whole.last) (subst P same (c.in_ok-end.ensures.text x s st)) (c.in_err-write_memory.ensures.text x whole.last last))

pub returns-in_ok-write_memory-clause-text : goal.returns-in_ok-write_memory-clause-text
returns-in_ok-write_memory-clause-text g c = λ x s st.
    let same = ap (λ (l : Level). run_from l c.args.steps x s) c.level_of.ensures in
    let whole = run_from (level_of c.args.detail) c.args.steps x s in
    let P : Run → Type 0 = λ r. Appends (g.S.Sink.seen c.args.out.now).written (g.S.Sink.seen c.run.new.out).written (trace_text r) in
    let shown = boxed (λ p. (goal.Device-dyn g p).shown p.1) in
    let L : Run → Type 0 = λ r. Stands shown x c.run.new.board r.last in
    let last = subst L same (c.in_ok-end.ensures.last x s st) in
    rw c.if-detail.true (appends_more _ _ _ (trace_text whole) (memory_text x.setup whole.last) (subst P same (c.in_ok-end.ensures.text x s st)) (c.in_ok-write_memory.ensures.text x whole.last last))

pub returns-in_ok-write_memory-clause-end : goal.returns-in_ok-write_memory-clause-end
returns-in_ok-write_memory-clause-end g c = λ x s st.
    c.in_ok-end.ensures.end x s st ∙ ap (λ (l : Level). (run_from l c.args.steps x s).end) c.level_of.ensures

pub returns-else-detail-clause-end : goal.returns-else-detail-clause-end
returns-else-detail-clause-end g c = λ x s st.
    c.in_ok-end.ensures.end x s st ∙ ap (λ (l : Level). (run_from l c.args.steps x s).end) c.level_of.ensures

pub returns-else-detail-clause-text : goal.returns-else-detail-clause-text
returns-else-detail-clause-text g c = λ x s st.
    let same = ap (λ (l : Level). run_from l c.args.steps x s) c.level_of.ensures in
    let P : Run → Type 0 = λ r. Appends (g.S.Sink.seen c.args.out.now).written (g.S.Sink.seen c.run.new.out).written (trace_text r) in
    rw (c.if-detail.false, append-nil (trace_text (run_from (level_of c.args.detail) c.args.steps x s))) (subst P same (c.in_ok-end.ensures.text x s st))

pub returns-in_ok-write_memory-clause-fits : goal.returns-in_ok-write_memory-clause-fits
returns-in_ok-write_memory-clause-fits g c = λ x st.
    let same = ap (λ (l : Level). run_from l c.args.steps x (start_of x)) c.level_of.ensures in
    let whole = run_from c.level_of.result c.args.steps x (start_of x) in
    let last = c.in_ok-end.ensures.last x (start_of x) st in
    subst (λ (r : Run). IsFitRun x r) same (run_fits x c.run.new.board whole c.args.steps st.sane c.requires.few c.in_ok-end.ensures.within last (c.in_ok-end.ensures.timers x (start_of x) st) (c.in_ok-end.ensures.fit x (start_of x) st))

pub returns-else-detail-clause-fits : goal.returns-else-detail-clause-fits
returns-else-detail-clause-fits g c = λ x st.
    let same = ap (λ (l : Level). run_from l c.args.steps x (start_of x)) c.level_of.ensures in
    let whole = run_from c.level_of.result c.args.steps x (start_of x) in
    let last = c.in_ok-end.ensures.last x (start_of x) st in
    subst (λ (r : Run). IsFitRun x r) same (run_fits x c.run.new.board whole c.args.steps st.sane c.requires.few c.in_ok-end.ensures.within last (c.in_ok-end.ensures.timers x (start_of x) st) (c.in_ok-end.ensures.fit x (start_of x) st))
