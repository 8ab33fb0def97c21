use Rattle.std.proofs.lemmas.Result.{err_from_is_err_and}
use Rattle.std.proofs.Common.{◌-◌}
use Rattle.outside_io.proofs.Pushing.{front_wider, pushes_more}
use Rattle.run_lanes.specs.Kept.{kept_of}
use Rattle.run_lanes.specs.Timeline.{drawn_text}
use Rattle.run_lanes.specs.Activities.{sights}
use Rattle.run_lanes.proofs.timeline.draw_whole.Goals as goal

pub returns-in_err-push_head-clause-text : goal.returns-in_err-push_head-clause-text
returns-in_err-push_head-clause-text g c = λ x s st.
    let p = err_from_is_err_and c.from_residual.result c.from_residual.ensures.1 in
    rw (p.1) (front_wider _ _ _ (drawn_text (kept_of c.args.lanes.now) s.turn (sights x (c.args.limit - s.turn) s)) c.in_err-push_head.ensures.bytes)

pub returns-clause-text : goal.returns-clause-text
returns-clause-text g c = λ x s st. pushes_more _ _ _ _ _ _ c.in_ok-push_head.ensures.bytes (c.draw.ensures.text x s st)
