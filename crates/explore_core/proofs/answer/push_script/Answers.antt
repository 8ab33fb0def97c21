use Rattle.std.specs.List.{flat_map}
use Rattle.std.proofs.lemmas.Result.{err_from_is_err_and}
use Rattle.outside_io.proofs.Pushing.{front_wider, pushes_more}
use Rattle.run_script.specs.Events.{script_data}
use Rattle.run_script.specs.Texts.{event_line, period_line, script_text}
use Rattle.explore_core.proofs.answer.push_script.Goals as goal

pub returns-in_err-push_every-clause-bytes : goal.returns-in_err-push_every-clause-bytes
unfolding script_text
returns-in_err-push_every-clause-bytes g c =
    let p = err_from_is_err_and c.from_residual.result c.from_residual.ensures.1 in
    let script = script_data c.args.script.now in
    rw (p.1) (front_wider _ _ (period_line script.every) (flat_map event_line script.events) c.in_err-push_every.ensures.bytes)

pub returns-clause-bytes : goal.returns-clause-bytes
unfolding script_text
returns-clause-bytes g c =
    let script = script_data c.args.script.now in
    pushes_more _ _ _ (period_line script.every) (flat_map event_line script.events) c.push_events.result c.in_ok-push_every.ensures.bytes c.push_events.ensures.bytes
