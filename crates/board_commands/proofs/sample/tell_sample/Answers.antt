use Rattle.std.proofs.Common.{◌∙◌, ap, refl, subst}
use Rattle.board_model.specs.Run.{Run}
use Rattle.board_model.specs.Script.{start_of}
use Rattle.board_model.specs.declared.outcomes.Level.TheVariants.{Calls}
use Rattle.board_run.specs.Counts.{summary_text}
use Rattle.outside_io.specs.Outside.{AppendsFront}
use Rattle.std.specs.Io.KnownBytes.{Appends}
use Rattle.command_files.specs.Pushed.{whole, cut}
use Rattle.command_files.specs.Verdict.{status_of}
use Rattle.board_commands.proofs.Starting.{from_start}
use Rattle.board_commands.proofs.sample.tell_sample.Goals as goal

pub returns-in-Ok : goal.returns-in-Ok
returns-in-Ok g c = λ x st.
    let same = from_start Calls x c.args.board.now c.args.steps st c.requires.fresh in
    let P : Run → Type 0 = λ r. Appends (g.S.Sink.seen c.args.out.now).written (g.S.Sink.seen c.summarize.new.out).written (summary_text r) in
    whole (c.status_by.ensures ∙ ap status_of (c.in-Ok.ensures.end x (start_of x) st ∙ ap (λ (r : Run). r.end) same)) (subst P same (c.in-Ok.ensures.text x (start_of x) st))

pub returns-in-Err : goal.returns-in-Err
returns-in-Err g c = λ x st.
    let same = from_start Calls x c.args.board.now c.args.steps st c.requires.fresh in
    let P : Run → Type 0 = λ r. AppendsFront (g.S.Sink.seen c.args.out.now).written (g.S.Sink.seen c.summarize.new.out).written (summary_text r) in
    cut refl c.in-Err.ensures.cause.failed (subst P same (c.in-Err.ensures.text x (start_of x) st))
