use Rattle.std.proofs.Common.{◌≡◌, ◌≤◌, ◌-◌, ◌∙◌, length, sym, arith}
use Rattle.board_model.specs.declared.outcomes.Level.TheVariants.{Calls}
use Rattle.board_model.specs.Run.{run}
use Rattle.board_core.specs.Data.{boxed}
use Rattle.board_run.proofs.Going.{turns_seen}
use Rattle.run_lanes.specs.Pictured.{picture_text}
use Rattle.run_lanes.specs.Activities.{sights}
use Rattle.run_lanes.proofs.Painting.{after_all}
use Rattle.run_lanes.proofs.picture.draw_run.Goals as goal

pub watch_all-end-requires-clause-one_each : goal.watch_all-end-requires-clause-one_each
watch_all-end-requires-clause-one_each g c = λ x s st. omega (arith, c.deref_mut.ensures.len, c.in_ok-activities.ensures.len, c.task_count-tasks.ensures.tasks x s st, st.sane.steady.as_many)

pub overflow_sub-turns : goal.overflow_sub-turns
overflow_sub-turns g c =
    let shown = boxed (λ p. (goal.Device-dyn g p).shown p.1) in
    let stood = c.requires.stood in
    omega (arith, c.turns.ensures, c.turns-from.ensures, c.watch_all-end.ensures.turns stood.0 stood.1 stood.2, turns_seen shown stood.0 c.args.board.now stood.1 stood.2)

pub paint-requires : goal.paint-requires
paint-requires g c =
    let stood = c.requires.stood in
    let x = stood.0 in
    let s = stood.1 in
    let st = stood.2 in
    let t = c.watch_all-end.ensures in
    let seen = sights x (c.args.limit - s.turn) s in
    let few : length seen ≤ 1000000000 = omega (arith, t.turns x s st, t.within, c.requires.few) in
    record {
      few = omega (arith, c.requires.named, c.task_count-tasks.ensures.count, c.task_count-tasks.ensures.few);
      painted = (seen, after_all (length c.args.names.now) c.task_count-tasks.result c.in_ok-canvas.canvas c.watch_all-end.new.canvas seen c.in_ok-canvas.ensures (c.task_count-tasks.ensures.count ∙ sym c.requires.named) few (t.paints x s st));
    }

pub returns-clause-text : goal.returns-clause-text
unfolding picture_text
returns-clause-text g c =
    let shown = boxed (λ p. (goal.Device-dyn g p).shown p.1) in
    λ x s st.
    let t = c.watch_all-end.ensures in
    let seen = sights x (c.args.limit - s.turn) s in
    let r = run Calls x (c.args.limit - s.turn) s in
    let few : length seen ≤ 1000000000 = omega (arith, t.turns x s st, t.within, c.requires.few) in
    let painted =
    after_all (length c.args.names.now) c.task_count-tasks.result c.in_ok-canvas.canvas c.watch_all-end.new.canvas seen c.in_ok-canvas.ensures (c.task_count-tasks.ensures.count ∙ sym c.requires.named) few (t.paints x s st) in
    let many : c.turns.result - c.turns-from.result ≡ length seen = omega (arith, c.turns.ensures, c.turns-from.ensures, t.turns x s st, turns_seen shown x c.args.board.now s st) in
    c.in_ok-bytes.ensures r seen painted many (c.now.ensures x r.last (t.last x s st)) (t.end x s st)
