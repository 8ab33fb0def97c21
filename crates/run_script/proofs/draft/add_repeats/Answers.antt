use Rattle.std.proofs.Common.{◌+◌, ◌-◌, ◌∙◌, ap, arith, replicate}
use Rattle.run_script.specs.Events.{script_data}
use Rattle.run_script.specs.Scripts.{with_series}
use Rattle.run_script.proofs.Series.{further, goes_on, no_time_left, one_time_more, series_end, stops_at}
use Rattle.run_script.proofs.draft.add_repeats.Goals as goal

pub loop-k-preserved : goal.loop-k-preserved
loop-k-preserved c =
    let k = c.loop-k._k in
    record {
      turn = ap (λ n. n + c.args.step) c.loop-k.invariant.turn ∙ further c.args.first c.args.step k;
      same = c.loop-k.invariant.same ∙ goes_on (script_data c.loop-k.script) (script_data c.add_event.new.script) c.loop-k.turn c.args.step c.args.event
          (replicate (c.args.times - (k + 1)) c.args.event) (replicate (c.args.times - k) c.args.event) (one_time_more c.args.times k c.args.event (omega arith)) c.in-Ok.ensures.ok;
    }

pub returns-clause-ok : goal.returns-clause-ok
returns-clause-ok c =
    c.loop-k.invariant.same ∙ ap (with_series (script_data c.loop-k.script) c.loop-k.turn c.args.step) (no_time_left c.args.times c.loop-k._k c.args.event (omega arith))
    ∙ series_end (script_data c.loop-k.script) c.loop-k.turn c.args.step

pub returns-in-Err-clause-err : goal.returns-in-Err-clause-err
returns-in-Err-clause-err c =
    let k = c.loop-k._k in
    stops_at (script_data c.loop-k.script) c.loop-k.turn c.args.step c.args.line c.args.event (replicate (c.args.times - (k + 1)) c.args.event) (replicate (c.args.times - k) c.args.event)
    (with_series (script_data c.args.script.now) c.args.first c.args.step (replicate c.args.times c.args.event)) c.in-Err.fault c.loop-k.invariant.same (one_time_more c.args.times k c.args.event (omega arith)) c.in-Err.ensures.err
