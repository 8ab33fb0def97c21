use Rattle.std.proofs.Common.{refl}
use Rattle.command_files.proofs.Faulting.{by_length}
use Rattle.command_files.proofs.sources.read_contents.Goals as goal

pub returns-in-Err-TooLong-clause-file_fault : goal.returns-in-Err-TooLong-clause-file_fault
returns-in-Err-TooLong-clause-file_fault g c =
    let seen = rw c.in-Err-TooLong.field-0-is at c.in-Err-TooLong.ensures.long_seen in
    by_length _ _ c.args.name.now c.args.limit c.refused_at_number.result c.refused_at_number.ensures (seen refl)

pub returns-in-Ok-clause-only_reads : goal.returns-in-Ok-clause-only_reads
returns-in-Ok-clause-only_reads g c = record { later = c.read_all.ensures.later; grown = c.read_all.ensures.grown; contents = c.read_all.ensures.contents; puts = c.read_all.ensures.puts }

pub returns-in-Err-Failed-clause-only_reads : goal.returns-in-Err-Failed-clause-only_reads
returns-in-Err-Failed-clause-only_reads g c = record { later = c.read_all.ensures.later; grown = c.read_all.ensures.grown; contents = c.read_all.ensures.contents; puts = c.read_all.ensures.puts }

pub returns-in-Err-TooLong-clause-only_reads : goal.returns-in-Err-TooLong-clause-only_reads
returns-in-Err-TooLong-clause-only_reads g c = record { later = c.read_all.ensures.later; grown = c.read_all.ensures.grown; contents = c.read_all.ensures.contents; puts = c.read_all.ensures.puts }

pub returns-in-Err-Memory-clause-only_reads : goal.returns-in-Err-Memory-clause-only_reads
returns-in-Err-Memory-clause-only_reads g c = record { later = c.read_all.ensures.later; grown = c.read_all.ensures.grown; contents = c.read_all.ensures.contents; puts = c.read_all.ensures.puts }
