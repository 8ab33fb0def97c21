use Rattle.std.proofs.Common.{false}
use Rattle.command_line.specs.CommandLine.{cover}
use Rattle.trace_cli.proofs.Reaching.{answers_covered, covers}
use Rattle.command_files.proofs.Readying.{set_stood}
use Rattle.trace_cli.proofs.Readying.{answers_named_fault}
use Rattle.trace_cli.proofs.commands.cover.cover_image.Goals as goal

pub cover_board-requires : goal.cover_board-requires
cover_board-requires g c =
    record { stood = set_stood c.args.job.now.image.now c.args.job.now.script.now (g.F.Files.seen c.args.files.now).contents c.in-Ok.board c.in-Ok.ensures.set; fresh = c.in-Ok.ensures.set.set.turns; few = c.requires.few }

pub returns-in-Ok-clause-answer : goal.returns-in-Ok-clause-answer
returns-in-Ok-clause-answer g c =
    let a = g.F.Files.seen c.args.files.now in
    let b = g.F.Files.seen c.prepare_run.new.files in
    let w = g.S.Sink.seen c.args.out.now in
    let w' = g.S.Sink.seen c.cover_board.new.out in
    answers_covered c.args.job.now.image.now c.args.job.now.script.now a b w w' c.args.job.now.steps c.in-Ok.board c.cover_board.result c.in-Ok.ensures.only_reads.contents c.in-Ok.ensures.set c.cover_board.ensures

pub returns-in-Err-clause-answer : goal.returns-in-Err-clause-answer
returns-in-Err-clause-answer g c =
    let a = g.F.Files.seen c.args.files.now in
    let b = g.F.Files.seen c.prepare_run.new.files in
    let w = g.S.Sink.seen c.args.out.now in
    let w' = g.S.Sink.seen c.tell_named_fault.new.out in
    answers_named_fault (cover c.args.job.now.image.now c.args.job.now.script.now c.args.job.now.steps false) a b w w' c.in-Err.named_fault c.tell_named_fault.result (λ v. tt) c.in-Err.ensures.only_reads.contents
    (c.in-Err.ensures.named_fault _ (covers c.requires.fresh c.args.job.now.image.now c.args.job.now.script.now c.args.job.now.steps)) c.tell_named_fault.ensures
