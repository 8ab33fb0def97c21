use Rattle.debug_core.specs.Listed.{listed}
use Rattle.command_line.specs.Asking.{asked_debug}
use Rattle.trace_cli.proofs.Readying.{answers_named_fault, answers_debugged}
use Rattle.trace_cli.proofs.commands.debug.debug_files.Goals as goal

pub carry_out-requires : goal.carry_out-requires
carry_out-requires g c = let ready = c.in-Ok.ensures.ready in record { started = (ready.scenario, ready.stands) }

pub returns-in-Ok-clause-answer : goal.returns-in-Ok-clause-answer
returns-in-Ok-clause-answer g c =
    let a = g.F.Files.seen c.args.files.now in
    let b = g.F.Files.seen c.prepare_debug.new.files in
    let w = g.S.Sink.seen c.args.out.now in
    let w' = g.S.Sink.seen c.carry_out.new.out in
    answers_debugged c.args.job.now.image.now c.args.job.now.script.now c.args.job.now.commands.now a b w w' (listed c.in-Ok.commands) c.in-Ok.board c.carry_out.result c.in-Ok.ensures.only_reads.contents c.in-Ok.ensures.ready c.carry_out.ensures

pub returns-in-Err-clause-answer : goal.returns-in-Err-clause-answer
returns-in-Err-clause-answer g c =
    let a = g.F.Files.seen c.args.files.now in
    let b = g.F.Files.seen c.prepare_debug.new.files in
    let w = g.S.Sink.seen c.args.out.now in
    let w' = g.S.Sink.seen c.tell_named_fault.new.out in
    answers_named_fault (asked_debug c.args.job.now) a b w w' c.in-Err.named_fault c.tell_named_fault.result (λ v. tt) c.in-Err.ensures.only_reads.contents c.in-Err.ensures.named_fault c.tell_named_fault.ensures
