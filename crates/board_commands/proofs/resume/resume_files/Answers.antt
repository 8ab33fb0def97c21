use Rattle.command_files.proofs.Answering.{named_fault_by}
use Rattle.board_commands.proofs.Answering.{answers_resumed}
use Rattle.board_commands.proofs.Readying.{resumable_stood}
use Rattle.board_commands.proofs.EachState.{told_each, fault_each}
use Rattle.board_commands.proofs.resume.resume_files.Goals as goal

pub tell_run-requires : goal.tell_run-requires
tell_run-requires g c =
    let stood = resumable_stood c.args.job.now.image.now c.args.job.now.script.now c.args.job.now.state.now (g.F.Files.seen c.args.files.now).contents c.args.job.now.steps c.in-Ok.board c.in-Ok.ensures.ready in
    record { stood = stood.0; from = stood.1; few = c.requires.few }

pub returns-in-Ok-clause-answer : goal.returns-in-Ok-clause-answer
returns-in-Ok-clause-answer g c =
    let a = g.F.Files.seen c.args.files.now in
    let b = g.F.Files.seen c.prepare_resume.new.files in
    let w = g.S.Sink.seen c.args.out.now in
    let w' = g.S.Sink.seen c.tell_run.new.out in
    answers_resumed c.args.job.now.image.now c.args.job.now.script.now c.args.job.now.state.now a b w w' c.args.job.now.steps c.args.job.now.detail c.in-Ok.board c.tell_run.result c.in-Ok.ensures.only_reads.contents c.in-Ok.ensures.ready c.tell_run.ensures.pushed

pub returns-in-Ok-clause-each : goal.returns-in-Ok-clause-each
returns-in-Ok-clause-each g c =
    let a = g.F.Files.seen c.args.files.now in
    let b = g.F.Files.seen c.prepare_resume.new.files in
    let w = g.S.Sink.seen c.args.out.now in
    let w' = g.S.Sink.seen c.tell_run.new.out in
    told_each c.args.job.now.image.now c.args.job.now.script.now c.args.job.now.state.now a b w w' c.args.job.now.steps c.args.job.now.detail c.in-Ok.board c.tell_run.result c.in-Ok.ensures.only_reads.contents c.in-Ok.ensures.ready c.tell_run.ensures.pushed c.requires.few c.in-Ok.ensures.starts

pub returns-in-Err-clause-answer : goal.returns-in-Err-clause-answer
returns-in-Err-clause-answer g c =
    let a = g.F.Files.seen c.args.files.now in
    let b = g.F.Files.seen c.prepare_resume.new.files in
    let w = g.S.Sink.seen c.args.out.now in
    let w' = g.S.Sink.seen c.tell_named_fault.new.out in
    named_fault_by a b w w' c.in-Err.named_fault c.tell_named_fault.result c.in-Err.ensures.only_reads.contents c.in-Err.ensures.named_fault c.tell_named_fault.ensures

pub returns-in-Err-clause-each : goal.returns-in-Err-clause-each
returns-in-Err-clause-each g c =
    let a = g.F.Files.seen c.args.files.now in
    let b = g.F.Files.seen c.prepare_resume.new.files in
    let w = g.S.Sink.seen c.args.out.now in
    let w' = g.S.Sink.seen c.tell_named_fault.new.out in
    fault_each c.args.job.now.image.now c.args.job.now.script.now c.args.job.now.state.now c.args.job.now.steps c.args.job.now.detail a b w w' c.in-Err.named_fault c.tell_named_fault.result c.in-Err.ensures.only_reads.contents c.requires.few c.in-Err.ensures.named_fault c.in-Err.ensures.unless c.tell_named_fault.ensures
