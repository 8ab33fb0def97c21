use Rattle.std.proofs.Common.{◌∙◌, ℕ, Bool, ap, refl, subst}
use Rattle.board_model.specs.Run.{Run}
use Rattle.board_model.specs.Script.{start_of}
use Rattle.board_model.specs.declared.outcomes.Level.TheVariants.{All}
use Rattle.run_cover.specs.Known.{IsKnownOf}
use Rattle.run_cover.specs.Text.{cover_text}
use Rattle.thumb_asm.specs.Listed.{labels_in}
use Rattle.outside_io.specs.Outside.{AppendsFront}
use Rattle.std.specs.Io.KnownBytes.{Appends}
use Rattle.command_files.specs.Pushed.{whole, cut}
use Rattle.trace_cli.specs.Pushed.{told, nothing}
use Rattle.command_files.specs.Verdict.{status_of}
use Rattle.board_commands.proofs.Starting.{from_start}
use Rattle.trace_cli.proofs.commands.cover.cover_board.Goals as goal

pub returns-in-Ok-write_cover : goal.returns-in-Ok-write_cover
returns-in-Ok-write_cover g c = λ x st.
    let same = from_start All x c.args.board.now c.args.steps st c.requires.fresh in
    let P : Run → Type 0 = λ r. (k : ℕ → Bool) × IsKnownOf x.setup r k × Appends (g.S.Sink.seen c.args.out.now).written (g.S.Sink.seen c.write_cover.new.out).written (cover_text x.setup r k (labels_in c.args.labels.now)) in
    let t = subst P same (c.in-Ok-write_cover.ensures.text x (start_of x) st) in
    told t.0 t.1 (whole (c.status_by.ensures ∙ ap status_of (c.in-Ok-write_cover.ensures.end x (start_of x) st ∙ ap (λ (r : Run). r.end) same)) t.2)

pub returns : goal.returns
returns g c = λ x st.
    let same = from_start All x c.args.board.now c.args.steps st c.requires.fresh in
    let P : Run → Type 0 = λ r. (k : ℕ → Bool) × IsKnownOf x.setup r k × AppendsFront (g.S.Sink.seen c.args.out.now).written (g.S.Sink.seen c.write_cover.new.out).written (cover_text x.setup r k (labels_in c.args.labels.now)) in
    let t = subst P same (c.in-Err-write_cover.ensures.text x (start_of x) st) in
    told t.0 t.1 (cut refl c.in-Err-write_cover.ensures.cause.failed t.2)

pub returns-in-Err : goal.returns-in-Err
returns-in-Err g c = λ x st. nothing (record { status = refl; written = refl; faults = refl })
