use Rattle.std.proofs.Common.{Err, ap, refl, sym, ◌∙◌}
use Rattle.debug_core.specs.Session.{opened}
use Rattle.trace_cli.specs.Pushed.{unsaid}
use Rattle.command_files.specs.Verdict.{line_alone, unread_line}
use Rattle.trace_cli.proofs.Living.{says_broken, says_cut, says_ended}
use Rattle.outside_io.proofs.OnlyReading.{none_read}
use Rattle.trace_cli.proofs.commands.live.carry_out.Goals as goal

pub carry_out_live-requires : goal.carry_out_live-requires
carry_out_live-requires g c = let started = c.requires.started in (started.0, opened, c.in-Ok-open.ensures started.0 started.1)

pub returns-in-Ok-carry_out_live-clause-says : goal.returns-in-Ok-carry_out_live-clause-says
returns-in-Ok-carry_out_live-clause-says g c = λ x st.
    says_ended x c.args.commands.now (g.F.Files.seen c.args.files.now) (g.F.Files.seen c.carry_out_live.new.files) (g.S.Sink.seen c.args.out.now) (g.S.Sink.seen c.carry_out_live.new.out) (c.in-Ok-carry_out_live.ensures.told x opened (c.in-Ok-open.ensures x st))

pub returns-in-Err-clause-says : goal.returns-in-Err-clause-says
returns-in-Err-clause-says g c = λ x st. unsaid (record { status = refl; written = refl; faults = refl })

pub returns-in-Err-open-clause-says : goal.returns-in-Err-open-clause-says
returns-in-Err-open-clause-says g c = λ x st. unsaid (record { status = refl; written = refl; faults = refl })

pub returns-in-Err-Unread-clause-says : goal.returns-in-Err-Unread-clause-says
returns-in-Err-Unread-clause-says g c = λ x st.
    let name = c.args.commands.now in
    let fault = ap Err c.in-Err-Unread.field-0-is in
    let line = c.tell.ensures (line_alone 3 (unread_line name)) refl (sym (c.as_bytes.ensures.value ∙ c.in-Ok.ensures)) in
    says_broken x name (g.F.Files.seen c.args.files.now) (g.F.Files.seen c.carry_out_live.new.files) (g.S.Sink.seen c.args.out.now) (g.S.Sink.seen c.carry_out_live.new.out) (g.S.Sink.seen c.tell.new.out) c.tell.result
    (record { rose = c.in-Err-Unread.ensures.rose fault; named = c.in-Err-Unread.ensures.named fault }) c.in-Err-Unread.ensures.later (c.in-Err-Unread.ensures.unread x opened (c.in-Ok-open.ensures x st) fault) line

pub returns-clause-says : goal.returns-clause-says
returns-clause-says g c = λ x st.
    let fault = ap Err c.in-Err-Failed.field-0-is in
    says_cut x c.args.commands.now (g.F.Files.seen c.args.files.now) (g.F.Files.seen c.carry_out_live.new.files) (g.S.Sink.seen c.args.out.now) (g.S.Sink.seen c.carry_out_live.new.out)
    (c.in-Err-Failed.ensures.fault fault) (c.in-Err-Failed.ensures.failed x opened (c.in-Ok-open.ensures x st) fault)

pub returns-in-Ok-carry_out_live-clause-only_reads : goal.returns-in-Ok-carry_out_live-clause-only_reads
returns-in-Ok-carry_out_live-clause-only_reads g c = c.in-Ok-carry_out_live.ensures.only_reads

pub returns-in-Err-Unread-clause-only_reads : goal.returns-in-Err-Unread-clause-only_reads
returns-in-Err-Unread-clause-only_reads g c = c.in-Err-Unread.ensures.only_reads

pub returns-clause-only_reads : goal.returns-clause-only_reads
returns-clause-only_reads g c = c.in-Err-Failed.ensures.only_reads

pub returns-in-Err-clause-only_reads : goal.returns-in-Err-clause-only_reads
returns-in-Err-clause-only_reads g c = none_read (g.F.Files.seen c.args.files.now)

pub returns-in-Err-open-clause-only_reads : goal.returns-in-Err-open-clause-only_reads
returns-in-Err-open-clause-only_reads g c = none_read (g.F.Files.seen c.args.files.now)
