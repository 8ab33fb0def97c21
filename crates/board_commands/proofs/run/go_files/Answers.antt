use Rattle.std.proofs.Common.{arith}
use Rattle.command_files.proofs.Readying.{ready_stood, go_ready}
use Rattle.board_commands.proofs.Answering.{answers_run, run_named_fault}
use Rattle.board_commands.proofs.Readying.{goes, takes_built}
use Rattle.board_commands.proofs.run.go_files.Goals as goal

pub tell_run-requires : goal.tell_run-requires
tell_run-requires g c =
    let stood = ready_stood c.in-Ok.board (go_ready (goes _ c.args.job.now.app.now c.args.job.now.script.now c.args.job.now.steps c.args.job.now.detail) c.in-Ok.ensures.set) in
    record { stood = stood.0; from = omega (arith, stood.1); few = c.requires.few }

pub returns-in-Ok-clause-answer : goal.returns-in-Ok-clause-answer
returns-in-Ok-clause-answer g c =
    let a = g.F.Files.seen c.args.files.now in
    let b = g.F.Files.seen c.prepare_go.new.files in
    let w = g.S.Sink.seen c.args.out.now in
    let w' = g.S.Sink.seen c.tell_run.new.out in
    answers_run a b w w' c.args.job.now.steps c.args.job.now.detail c.in-Ok.board c.tell_run.result c.in-Ok.ensures.only_reads.contents
    (go_ready (goes _ c.args.job.now.app.now c.args.job.now.script.now c.args.job.now.steps c.args.job.now.detail) c.in-Ok.ensures.set) c.tell_run.ensures.pushed c.tell_run.ensures.fits

pub returns-in-Err-clause-answer : goal.returns-in-Err-clause-answer
returns-in-Err-clause-answer g c =
    let a = g.F.Files.seen c.args.files.now in
    let b = g.F.Files.seen c.prepare_go.new.files in
    let w = g.S.Sink.seen c.args.out.now in
    let w' = g.S.Sink.seen c.tell_named_fault.new.out in
    run_named_fault c.args.job.now.steps c.args.job.now.detail a b w w' c.in-Err.named_fault c.tell_named_fault.result c.in-Err.ensures.only_reads.contents (c.in-Err.ensures.named_fault _ (takes_built c.args.job.now.app.now c.args.job.now.script.now)) c.tell_named_fault.ensures
