use Rattle.audit_runs.proofs.Memories.{shown_none, memory_shown}
use Rattle.audit_runs.proofs.texts.memories_are_shown.Goals as goal

pub returns-clause-none : goal.returns-clause-none
returns-clause-none c = shown_none

pub returns-clause-memories : goal.returns-clause-memories
returns-clause-memories c = memory_shown
