use Rattle.std.proofs.Common.{ap}
use Rattle.command_files.specs.Contents.{fault_in}
use Rattle.command_files.proofs.sources.app_in.Goals as goal

pub returns-in-Err-Refused-clause-file_fault : goal.returns-in-Err-Refused-clause-file_fault
returns-in-Err-Refused-clause-file_fault c = ap fault_in (rw c.in-Err-Refused.field-0-is at c.in-Err-Refused.ensures.refused)
