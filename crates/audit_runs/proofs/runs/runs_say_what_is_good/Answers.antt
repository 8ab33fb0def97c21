use Rattle.std.proofs.Common.{arith}
use Rattle.board_model.specs.Script.{start_of}
use Rattle.audit_runs.proofs.Right.{run_right}
use Rattle.audit_runs.proofs.Running.{run_spoken, run_in_order}
use Rattle.audit_runs.proofs.runs.runs_say_what_is_good.Goals as goal

pub returns-clause-spoken : goal.returns-clause-spoken
returns-clause-spoken c = λ level x n h. run_spoken level x n h

pub returns-clause-order : goal.returns-clause-order
returns-clause-order c = λ level x n h. run_in_order level x n 0 (start_of x) h (omega arith)

pub returns-clause-right : goal.returns-clause-right
returns-clause-right c = λ level x n h. run_right level x n (start_of x) h
