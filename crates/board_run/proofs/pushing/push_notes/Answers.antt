use Rattle.std.proofs.Common.{◌∙◌, ◌+◌, arith, sym, subst, ℕ, List, ◌<◌, length, take}
use Rattle.std.proofs.lemmas.Result.{err_from_is_err_and}
use Rattle.std.specs.Io.KnownBytes.{Appends}
use Rattle.board_model.specs.Run.{at_turn}
use Rattle.trace_text.specs.Lines.{notes_text}
use Rattle.outside_io.proofs.Pushing.{appends_more, part_fails}
use Rattle.board_run.proofs.Appending.{notes_at, notes_more}
use Rattle.trace_text.specs.Fit.{IsFit}
use Rattle.board_run.proofs.Fitted.{fit_next}
use Rattle.board_run.proofs.pushing.push_notes.Goals as goal

pub loop-note-preserved : goal.loop-note-preserved
loop-note-preserved g c =
    let i = c.loop-note.note-index in
    let within : i < length c.args.notes.now = omega arith in
    let P : List ℕ → Type 0 = λ w. Appends (g.S.Sink.seen c.args.out.now).written (g.S.Sink.seen c.push_note.new.out).written w in
    let Q : ℕ → Type 0 = λ n. P (notes_text (at_turn n (take (i + 1) c.args.notes.now))) in
    let pushed : Q c.loop-note.lines.number = subst P (sym (notes_more c.loop-note.lines.number c.args.notes.now i _ within)) (appends_more _ _ _ _ _ c.loop-note.invariant.pushed c.in_ok-push_note.ensures.bytes) in
    record {
      number = c.push_note.ensures.number ∙ c.loop-note.invariant.number;
      pushed = subst Q (sym c.push_note.ensures.number) pushed;
      fit = fit_next c.args.turn c.args.notes.now i _ within (subst IsFit c.loop-note.invariant.number c.push_note.ensures.fit.0) c.push_note.ensures.fit.1 c.loop-note.invariant.fit;
      later = omega (arith, c.loop-note.invariant.later, c.in_ok-push_note.ensures.cause.later);
    }

pub returns-in_err-push_note-clause-bytes : goal.returns-in_err-push_note-clause-bytes
returns-in_err-push_note-clause-bytes g c =
    let p = err_from_is_err_and c.from_residual.result c.from_residual.ensures.1 in
    let i = c.loop-note.note-index in
    let within : i < length c.args.notes.now = omega arith in
    rw (sym c.loop-note.invariant.number) (part_fails _ _ _ _ _ _ _ c.from_residual.result p.0 p.1 (notes_at c.loop-note.lines.number c.args.notes.now i _ within) c.loop-note.invariant.pushed c.in_err-push_note.ensures.bytes)
