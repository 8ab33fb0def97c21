use Rattle.std.proofs.Common.{◌<◌, ◌≤◌, arith, length}
use Rattle.std.proofs.lemmas.Result.{err_from_is_err_and}
use Rattle.run_script.specs.Events.{script_data}
use Rattle.explore_core.proofs.Leaving.{left_fails, less_left, none_left}
use Rattle.explore_core.proofs.Telling.{event_more, events_end, one_there}
use Rattle.explore_core.proofs.answer.push_events.Goals as goal
use Rattle.explore_core.proofs.answer.push_events.Goals.{in-Some+in_ok-push_piece, in_default}

pub returns-in_err-push_piece-clause-bytes : goal.returns-in_err-push_piece-clause-bytes
returns-in_err-push_piece-clause-bytes g c =
    let p = err_from_is_err_and c.from_residual.result c.from_residual.ensures.1 in
    let events = (script_data c.args.script.now).events in
    let i = c.loop-place in
    let more = event_more events i.place c.in-Some.listed c.event_line.result.bytes c.in-Some.ensures.event c.event_line.ensures in
    left_fails _ _ _ _ _ _ _ c.from_residual.result p.0 p.1 i.invariant.left more c.in_err-push_piece.ensures.bytes

pub loop-place-preserved : goal.loop-place-preserved
loop-place-preserved g c = elim c.match-listed_event.branch [
  | in-Some+in_ok-push_piece w ↦
      let events = (script_data c.args.script.now).events in
      let i = c.loop-place in
      let more = event_more events i.place w.in-Some.listed w.event_line.result.bytes w.in-Some.ensures.event w.event_line.ensures in
      let left = less_left _ _ _ _ _ _ _ i.invariant.left more w.in_ok-push_piece.ensures.bytes in
      let later : (g.S.Sink.seen c.args.out.now).faults ≤ (g.S.Sink.seen w.push_piece.new.out).faults = omega (arith, i.invariant.later, w.in_ok-push_piece.ensures.cause.later) in
      rw (w.out-is) (record { left = left; later = later })
  | in_default w ↦
      let lt : c.loop-place.place < length (script_data c.args.script.now).events = omega (arith, c.loop-place-test.true, c.count-place-end.ensures) in
      absurd (one_there (script_data c.args.script.now).events c.loop-place.place c.listed_event.result lt c.listed_event.ensures.event w.in_default.not-Some)
]

pub returns-clause-bytes : goal.returns-clause-bytes
returns-clause-bytes g c =
    let events = (script_data c.args.script.now).events in
    let end : length events ≤ c.loop-place.place = omega (arith, c.loop-place-test.false, c.count-place-end.ensures) in
    none_left _ _ _ _ c.loop-place.invariant.left (events_end events c.loop-place.place end)
