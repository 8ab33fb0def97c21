use Rattle.std.proofs.Common.{refl}
use Rattle.task_table.specs.model.Reading.{call_of}
use Rattle.audit_runs.proofs.Waiting.{spoken_waits}
use Rattle.audit_runs.proofs.calls.clients_wait_as_notes_say.Goals as goal

pub returns : goal.returns
returns c = λ notes s i h. spoken_waits notes s i h (call_of s i) refl
