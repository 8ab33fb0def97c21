use Rattle.command_line.specs.Asking.{asked_live}
use Rattle.command_files.specs.Contents.{scenario_of}
use Rattle.trace_cli.proofs.Living.{answers_live, takes_lines}
use Rattle.outside_io.proofs.OnlyReading.{reads_more}
use Rattle.trace_cli.proofs.Readying.{answers_named_fault}
use Rattle.trace_cli.proofs.commands.live.live_files.Goals as goal

pub carry_out-requires : goal.carry_out-requires
carry_out-requires g c = let ready = c.in-Ok.ensures.set in record { started = (scenario_of ready.image_data ready.set.script _, ready.set.stands) }

pub returns-in-Ok-clause-answer : goal.returns-in-Ok-clause-answer
returns-in-Ok-clause-answer g c =
    let a = g.F.Files.seen c.args.files.now in
    let b = g.F.Files.seen c.prepare_run.new.files in
    let d = g.F.Files.seen c.carry_out.new.files in
    let w = g.S.Sink.seen c.args.out.now in
    let w' = g.S.Sink.seen c.carry_out.new.out in
    answers_live c.args.job.now.image.now c.args.job.now.script.now c.args.job.now.commands.now a b d w w' c.in-Ok.board c.carry_out.result c.in-Ok.ensures.only_reads.contents c.carry_out.ensures.only_reads.contents c.in-Ok.ensures.only_reads.later c.in-Ok.ensures.set c.carry_out.ensures.says

pub returns-in-Err-clause-answer : goal.returns-in-Err-clause-answer
returns-in-Err-clause-answer g c =
    let a = g.F.Files.seen c.args.files.now in
    let b = g.F.Files.seen c.prepare_run.new.files in
    let w = g.S.Sink.seen c.args.out.now in
    let w' = g.S.Sink.seen c.tell_named_fault.new.out in
    answers_named_fault (asked_live c.args.job.now) a b w w' c.in-Err.named_fault c.tell_named_fault.result (λ v. tt) c.in-Err.ensures.only_reads.contents (c.in-Err.ensures.named_fault _ (takes_lines c.requires.fresh c.args.job.now.image.now c.args.job.now.script.now c.args.job.now.commands.now)) c.tell_named_fault.ensures

pub returns-in-Ok-clause-only_reads : goal.returns-in-Ok-clause-only_reads
returns-in-Ok-clause-only_reads g c = reads_more c.in-Ok.ensures.only_reads c.carry_out.ensures.only_reads
