use Rattle.command_files.proofs.Answering.{named_fault_by}
use Rattle.command_files.proofs.Readying.{ready_stood, run_ready}
use Rattle.board_commands.proofs.Answering.{answers_saved}
use Rattle.board_commands.proofs.Readying.{saves, takes_both}
use Rattle.board_commands.proofs.save.save_file.Goals as goal

pub save_board-requires : goal.save_board-requires
save_board-requires g c =
    let stood = ready_stood c.in-Ok.board (run_ready (saves _ c.args.job.now.image.now c.args.job.now.script.now c.args.job.now.out.now c.args.job.now.steps) c.in-Ok.ensures.set) in
    record { stood = stood.0; fresh = stood.1; few = c.requires.few }

pub returns-in-Ok-clause-answer : goal.returns-in-Ok-clause-answer
returns-in-Ok-clause-answer g c =
    let a = g.F.Files.seen c.args.files.now in
    let b = g.F.Files.seen c.prepare_run.new.files in
    let e = g.F.Files.seen c.save_board.new.files in
    let w = g.S.Sink.seen c.args.out.now in
    let w' = g.S.Sink.seen c.save_board.new.out in
    answers_saved c.args.job.now.out.now a b e w w' c.args.job.now.steps c.in-Ok.board c.save_board.result c.in-Ok.ensures.only_reads.contents c.in-Ok.ensures.only_reads.puts
    (run_ready (saves _ c.args.job.now.image.now c.args.job.now.script.now c.args.job.now.out.now c.args.job.now.steps) c.in-Ok.ensures.set) c.save_board.ensures.tells

pub returns-in-Err-clause-answer : goal.returns-in-Err-clause-answer
returns-in-Err-clause-answer g c =
    let a = g.F.Files.seen c.args.files.now in
    let b = g.F.Files.seen c.prepare_run.new.files in
    let w = g.S.Sink.seen c.args.out.now in
    let w' = g.S.Sink.seen c.tell_named_fault.new.out in
    named_fault_by a b w w' c.in-Err.named_fault c.tell_named_fault.result c.in-Err.ensures.only_reads.contents (c.in-Err.ensures.named_fault _ (takes_both c.args.job.now.image.now c.args.job.now.script.now)) c.tell_named_fault.ensures
