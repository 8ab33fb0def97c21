use Rattle.command_files.proofs.Taking.{taken_last}
use Rattle.command_files.proofs.Refusals.{source_taken}
use Rattle.command_files.proofs.building.take_bytes.Goals as goal

pub returns-in-Ok-clause-accepted : goal.returns-in-Ok-clause-accepted
returns-in-Ok-clause-accepted c = λ sources h.
    source_taken _ _ c.args.bytes.now c.requires.few (taken_last c.args.builder.now c.source.new.self sources c.args.bytes.now c.source.ensures.described h (c.in-Ok.ensures.accepted sources h))

pub returns-in-Err-clause-file_fault : goal.returns-in-Err-clause-file_fault
returns-in-Err-clause-file_fault c = c.fault_by_source.ensures _ _ c.args.bytes.now c.requires.few c.in-Err.ensures.refused
