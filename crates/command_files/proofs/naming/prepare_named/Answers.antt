use Rattle.std.proofs.Common.{◌∙◌}
use Rattle.command_files.proofs.Named.{as_many, named_faults, named_set, takes_two}
use Rattle.outside_io.proofs.OnlyReading.{reads_more}
use Rattle.command_files.proofs.naming.prepare_named.Goals as goal

pub returns-in-Err-clause-named_fault : goal.returns-in-Err-clause-named_fault
returns-in-Err-clause-named_fault g c = λ files_of takes. c.in-Err.ensures.named_fault files_of (takes_two takes)

pub returns-in-Ok-read_names-clause-set : goal.returns-in-Ok-read_names-clause-set
returns-in-Ok-read_names-clause-set g c = named_set c.in-Ok.ensures.set (as_many c.in-Ok.ensures.set c.task_count-tasks.ensures.tasks) c.in-Ok.ensures.only_reads.contents c.in-Ok-read_names.ensures.names

pub returns-in-Ok-read_names-clause-count : goal.returns-in-Ok-read_names-clause-count
returns-in-Ok-read_names-clause-count g c = c.in-Ok-read_names.ensures.count ∙ c.task_count-tasks.ensures.count

pub returns-in-Err-read_names-clause-named_fault : goal.returns-in-Err-read_names-clause-named_fault
returns-in-Err-read_names-clause-named_fault g c = λ files_of takes.
    let a = g.F.Files.seen c.args.files.now in
    let b = g.F.Files.seen c.prepare_run.new.files in
    let e = g.F.Files.seen c.read_names.new.files in
    named_faults a b e c.in-Ok.board c.task_count-tasks.result c.in-Err-read_names.named_fault takes c.in-Ok.ensures.set (as_many c.in-Ok.ensures.set c.task_count-tasks.ensures.tasks) c.in-Ok.ensures.only_reads.contents c.in-Ok.ensures.only_reads.later c.in-Err-read_names.ensures.named_fault

pub returns-in-Ok-read_names-clause-only_reads : goal.returns-in-Ok-read_names-clause-only_reads
returns-in-Ok-read_names-clause-only_reads g c = reads_more c.in-Ok.ensures.only_reads c.in-Ok-read_names.ensures.only_reads

pub returns-in-Err-read_names-clause-only_reads : goal.returns-in-Err-read_names-clause-only_reads
returns-in-Err-read_names-clause-only_reads g c = reads_more c.in-Ok.ensures.only_reads c.in-Err-read_names.ensures.only_reads
