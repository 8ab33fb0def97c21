use Rattle.command_line.specs.Asking.{asked_sweep}
use Rattle.trace_cli.proofs.Readying.{answers_named_fault, answers_swept}
use Rattle.trace_cli.proofs.commands.sweep.sweep_files.Goals as goal

pub tell_sweep-requires : goal.tell_sweep-requires
tell_sweep-requires g c =
    let ready = c.in-Ok.ensures.ready in
    record { ready = (ready.scenario, ready.arrival, ready.ready); range = c.requires.range; few = c.requires.few }

pub returns-in-Ok-clause-answer : goal.returns-in-Ok-clause-answer
returns-in-Ok-clause-answer g c =
    let a = g.F.Files.seen c.args.files.now in
    let b = g.F.Files.seen c.prepare_sweep.new.files in
    let w = g.S.Sink.seen c.args.out.now in
    let w' = g.S.Sink.seen c.tell_sweep.new.out in
    answers_swept c.args.job.now.image.now c.args.job.now.script.now c.args.job.now.arrival.now a b w w' c.args.job.now.from c.args.job.now.to c.args.job.now.steps c.args.job.now.memory c.in-Ok.sweeper c.tell_sweep.result c.in-Ok.ensures.only_reads.contents c.in-Ok.ensures.ready c.tell_sweep.ensures

pub returns-in-Err-clause-answer : goal.returns-in-Err-clause-answer
returns-in-Err-clause-answer g c =
    let a = g.F.Files.seen c.args.files.now in
    let b = g.F.Files.seen c.prepare_sweep.new.files in
    let w = g.S.Sink.seen c.args.out.now in
    let w' = g.S.Sink.seen c.tell_named_fault.new.out in
    answers_named_fault (asked_sweep c.args.job.now) a b w w' c.in-Err.named_fault c.tell_named_fault.result (λ v. tt) c.in-Err.ensures.only_reads.contents c.in-Err.ensures.named_fault c.tell_named_fault.ensures
