use Rattle.std.proofs.Common.{◌-◌, ◌∙◌}
use Rattle.std.proofs.lemmas.Result.{err_from_is_err_and}
use Rattle.run_lanes.specs.Kept.{kept_of}
use Rattle.run_lanes.specs.Activities.{sights}
use Rattle.run_lanes.proofs.Told.{drawn_breaks, drawn_fails, drawn_whole}
use Rattle.run_lanes.proofs.timeline.draw.Goals as goal

pub returns-in_err-end-clause-text : goal.returns-in_err-end-clause-text
returns-in_err-end-clause-text g c = λ x s st.
    let p = err_from_is_err_and c.from_residual.result c.from_residual.ensures.1 in
    let h = c.in_err-end.ensures.broken x s st in
    rw (p.1) (drawn_breaks (kept_of c.args.lanes.now) _ _ s.turn (sights x (c.args.limit - s.turn) s) h.front h.rest h.whole h.broken)

pub returns-in_err-push_end-clause-text : goal.returns-in_err-push_end-clause-text
returns-in_err-push_end-clause-text g c = λ x s st.
    let p = err_from_is_err_and c.from_residual-in_err-push_end.result c.from_residual-in_err-push_end.ensures.1 in
    let h = c.in_ok-end.ensures in
    rw (p.1) (drawn_fails (kept_of c.args.lanes.now) (kept_of c.watch.new.watcher) _ (g.S.Sink.seen c.watch.new.out) _ s.turn c.turns.result (sights x (c.args.limit - s.turn) s) (h.told x s st) (c.turns.ensures ∙ h.turns x s st) c.in_err-push_end.ensures.bytes)

pub returns-clause-text : goal.returns-clause-text
returns-clause-text g c = λ x s st.
    let h = c.in_ok-end.ensures in
    drawn_whole (kept_of c.args.lanes.now) (kept_of c.watch.new.watcher) _ (g.S.Sink.seen c.watch.new.out) _ s.turn c.turns.result (sights x (c.args.limit - s.turn) s) (h.told x s st) (c.turns.ensures ∙ h.turns x s st) c.in_ok-push_end.ensures.bytes
