use Rattle.std.proofs.Common.{◌∙◌, ℕ, ap, map, refl, string_bytes, subst}
use Rattle.std.specs.Io.KnownBytes.{Appends}
use Rattle.outside_io.specs.Outside.{AppendsFront}
use Rattle.board_model.specs.declared.outcomes.Level.TheVariants.{Calls}
use Rattle.board_model.specs.Run.{Run}
use Rattle.board_model.specs.Script.{start_of}
use Rattle.run_lanes.specs.Timeline.{timeline_text}
use Rattle.command_files.specs.Pushed.{whole, cut, pushed}
use Rattle.command_files.specs.Verdict.{status_of}
use Rattle.board_commands.proofs.Starting.{from_start}
use Rattle.trace_cli.proofs.Timing.{all_left}
use Rattle.trace_cli.proofs.commands.timeline.time_board.Goals as goal

pub returns-in-Ok : goal.returns-in-Ok
returns-in-Ok g c = λ x st.
    let same = from_start Calls x c.args.board.now c.args.steps st c.requires.fresh in
    let P : ℕ → Type 0 = λ n. Appends (g.S.Sink.seen c.args.out.now).written (g.S.Sink.seen c.write_timeline.new.out).written (timeline_text (map string_bytes c.args.names.now) x n (start_of x)) in
    pushed (whole (c.status_by.ensures ∙ ap status_of (c.in-Ok.ensures.end x (start_of x) st ∙ ap (λ (r : Run). r.end) same)) (subst P (all_left x c.args.board.now c.args.steps st c.requires.fresh) (c.in-Ok.ensures.text x (start_of x) st)))

pub returns-in-Err-Failed : goal.returns-in-Err-Failed
returns-in-Err-Failed g c = λ x st.
    let P : ℕ → Type 0 = λ n. AppendsFront (g.S.Sink.seen c.args.out.now).written (g.S.Sink.seen c.write_timeline.new.out).written (timeline_text (map string_bytes c.args.names.now) x n (start_of x)) in
    pushed (cut refl (c.in-Err-Failed.ensures.cause c.in-Err-Failed.field-0-is) (subst P (all_left x c.args.board.now c.args.steps st c.requires.fresh) (c.in-Err-Failed.ensures.text x (start_of x) st)))
