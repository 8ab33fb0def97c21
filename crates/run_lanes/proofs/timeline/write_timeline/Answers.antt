use Rattle.std.proofs.Common.{◌≡◌, ◌-◌, ◌∙◌, List, ℕ, map, length, sym, subst, ap, arith}
use Rattle.std.specs.Prelude.{string_bytes}
use Rattle.std.specs.Io.KnownBytes.{Appends}
use Rattle.std.proofs.lemmas.Result.{err_from_is_err_and}
use Rattle.board_core.specs.Data.{boxed}
use Rattle.board_run.proofs.Going.{turns_seen}
use Rattle.outside_io.specs.Outside.{AppendsFront}
use Rattle.run_lanes.specs.Kept.{kept_of}
use Rattle.run_lanes.specs.Timeline.{kept_none}
use Rattle.run_lanes.proofs.Told.{front_none, timeline_is}
use Rattle.run_lanes.proofs.timeline.write_timeline.Goals as goal

pub draw_whole-requires-clause-one_each : goal.draw_whole-requires-clause-one_each
draw_whole-requires-clause-one_each g c = λ x s st. omega (arith, c.deref_mut.ensures.len, c.in_ok-activities.ensures.len, c.task_count-tasks.ensures.tasks x s st, st.sane.steady.as_many)

-- ## no memory

pub returns-in_err-lines-clause-text : goal.returns-in_err-lines-clause-text
returns-in_err-lines-clause-text g c = λ x s st.
    let p = err_from_is_err_and c.from_residual.result c.from_residual.ensures.1 in rw (p.1) (front_none _ _)

pub returns-in_err-activities-clause-text : goal.returns-in_err-activities-clause-text
returns-in_err-activities-clause-text g c = λ x s st.
    let p = err_from_is_err_and c.from_residual-in_err-activities.result c.from_residual-in_err-activities.ensures.1 in rw (p.1) (front_none _ _)

pub returns-in_err-lanes-clause-text : goal.returns-in_err-lanes-clause-text
returns-in_err-lanes-clause-text g c = λ x s st.
    let p = err_from_is_err_and c.from_residual-in_err-lanes.result c.from_residual-in_err-lanes.ensures.1 in rw (p.1) (front_none _ _)

-- ## the text

pub returns-in_err-end-clause-text : goal.returns-in_err-end-clause-text
returns-in_err-end-clause-text g c =
    let shown = boxed (λ p. (goal.Device-dyn g p).shown p.1) in
    λ x s st.
    let p = err_from_is_err_and c.from_residual-in_err-end.result c.from_residual-in_err-end.ensures.1 in
    let many : c.task_count-tasks.result ≡ length c.args.names.now = c.task_count-tasks.ensures.count ∙ sym c.requires.named in
    let P : List ℕ → Type 0 = λ w. AppendsFront (g.S.Sink.seen c.args.out.now).written (g.S.Sink.seen c.draw_whole.new.out).written w in
    let is = timeline_is string_bytes string_bytes c.deref.result.now c.args.names.now (kept_of c.in_ok-lanes.lanes) x (c.args.limit - s.turn) c.turns.result s
    (ap (λ (l : List _). map string_bytes l) c.deref.ensures.value ∙ c.in_ok-lines.ensures) (c.in_ok-lanes.ensures ∙ ap (λ (n : ℕ). kept_none n c.turns.result) many) (c.turns.ensures ∙ sym (turns_seen shown x c.args.board.now s st)) in
    rw (p.1) (subst P is (c.in_err-end.ensures.text x s st))

pub returns-clause-text : goal.returns-clause-text
returns-clause-text g c =
    let shown = boxed (λ p. (goal.Device-dyn g p).shown p.1) in
    λ x s st.
    let many : c.task_count-tasks.result ≡ length c.args.names.now = c.task_count-tasks.ensures.count ∙ sym c.requires.named in
    let P : List ℕ → Type 0 = λ w. Appends (g.S.Sink.seen c.args.out.now).written (g.S.Sink.seen c.draw_whole.new.out).written w in
    let is = timeline_is string_bytes string_bytes c.deref.result.now c.args.names.now (kept_of c.in_ok-lanes.lanes) x (c.args.limit - s.turn) c.turns.result s
    (ap (λ (l : List _). map string_bytes l) c.deref.ensures.value ∙ c.in_ok-lines.ensures) (c.in_ok-lanes.ensures ∙ ap (λ (n : ℕ). kept_none n c.turns.result) many) (c.turns.ensures ∙ sym (turns_seen shown x c.args.board.now s st)) in
    subst P is (c.in_ok-end.ensures.text x s st)
