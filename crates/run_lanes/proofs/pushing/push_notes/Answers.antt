use Rattle.std.proofs.Common.{◌<◌, length, arith, rules}
use Rattle.std.proofs.lemmas.Result.{err_from_is_err_and}
use Rattle.run_lanes.specs.Timeline.{notes_text, offers_at_end}
use Rattle.run_lanes.proofs.Noted.{note_fails, note_pushed, offers_more}
use Rattle.run_lanes.proofs.pushing.push_notes.Goals as goal

pub loop-note-init : goal.loop-note-init
unfolding notes_text offers_at_end
loop-note-init g c = search rules

pub loop-note-preserved : goal.loop-note-preserved
loop-note-preserved g c =
    let i = c.loop-note.note-index in
    let within : i < length c.args.notes.now = omega (arith, c.loop-note-test.true) in
    record {
      pushed = note_pushed _ _ _ c.args.offers.now c.loop-note.offers c.args.turn c.args.notes.now i _ within c.loop-note.invariant.offers c.loop-note.invariant.pushed c.in_ok-push_note.ensures.bytes;
      offers = offers_more c.args.offers.now c.loop-note.offers c.hear.new.offers c.args.notes.now i _ within c.loop-note.invariant.offers c.hear.ensures;
      later = omega (arith, c.loop-note.invariant.later, c.in_ok-push_note.ensures.cause.later);
    }

pub returns-in_err-push_note-clause-bytes : goal.returns-in_err-push_note-clause-bytes
returns-in_err-push_note-clause-bytes g c =
    let p = err_from_is_err_and c.from_residual.result c.from_residual.ensures.1 in
    let i = c.loop-note.note-index in
    let within : i < length c.args.notes.now = omega (arith, c.loop-note-test.true) in
    note_fails _ _ _ c.args.offers.now c.loop-note.offers c.args.turn c.args.notes.now i _ c.from_residual.result p.0 p.1 within c.loop-note.invariant.offers c.loop-note.invariant.pushed c.in_err-push_note.ensures.bytes
