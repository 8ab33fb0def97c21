use Rattle.audit_laws.proofs.Ended.{end_read, task_read, last_low_read, last_high_read, mem_read, row_read}
use Rattle.audit_laws.proofs.last_lines.last_lines_are_read.Goals as goal

pub returns-clause-ends : goal.returns-clause-ends
returns-clause-ends c = end_read

pub returns-clause-tasks : goal.returns-clause-tasks
returns-clause-tasks c = task_read

pub returns-clause-lows : goal.returns-clause-lows
returns-clause-lows c = last_low_read

pub returns-clause-highs : goal.returns-clause-highs
returns-clause-highs c = last_high_read

pub returns-clause-mems : goal.returns-clause-mems
returns-clause-mems c = mem_read

pub returns-clause-rows : goal.returns-clause-rows
returns-clause-rows c = row_read
