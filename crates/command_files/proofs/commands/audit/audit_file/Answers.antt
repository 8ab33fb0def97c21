use Rattle.command_files.proofs.Answering.{named_fault_by, audited_by, audit_faults}
use Rattle.command_files.proofs.commands.audit.audit_file.Goals as goal

pub returns-in-Ok-clause-answer : goal.returns-in-Ok-clause-answer
returns-in-Ok-clause-answer g c =
    let a = g.F.Files.seen c.args.files.now in
    let b = g.F.Files.seen c.audit_under.new.files in
    let w = g.S.Sink.seen c.args.out.now in
    let w' = g.S.Sink.seen c.tell_audit.new.out in
    audited_by a b w w' c.args.trace.now c.in-Ok.verdict c.tell_audit.result c.in-Ok.ensures.only_reads.contents c.in-Ok.ensures.audit c.tell_audit.ensures

pub returns-in-Err-clause-answer : goal.returns-in-Err-clause-answer
returns-in-Err-clause-answer g c =
    let a = g.F.Files.seen c.args.files.now in
    let b = g.F.Files.seen c.audit_under.new.files in
    let w = g.S.Sink.seen c.args.out.now in
    let w' = g.S.Sink.seen c.tell_named_fault.new.out in
    named_fault_by a b w w' c.in-Err.named_fault c.tell_named_fault.result c.in-Err.ensures.only_reads.contents (audit_faults a b c.args.trace.now c.in-Err.named_fault c.in-Err.ensures.named_fault) c.tell_named_fault.ensures
