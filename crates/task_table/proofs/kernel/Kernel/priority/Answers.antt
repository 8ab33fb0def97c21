use Rattle.std.proofs.Common.{◌<◌, ap, sym, ◌∙◌, false, arith, length, []}
use Rattle.std.proofs.lemmas.List.{get_or-map}
use Rattle.task_table.specs.model.State.{TaskSetup}
use Rattle.task_table.specs.kept.Parts.{task_setup}
use Rattle.task_table.specs.declared.start.TaskStart.{TaskStart}
use Rattle.task_table.proofs.kernel.Kernel.priority.Goals as goal

-- a task that does not exist
abbrev no_setup : TaskSetup
no_setup = record { priority = 0; entry = 0; stack = 0; regions = []; start = false }

pub returns : goal.returns
returns c = λ g t h.
    let starts = c.args.self.now.tasks.items in
    let there : c.args.task < length starts = omega (arith, c.requires, c.args.self.now.many) in
    rw (← h.setup) (ap (λ (p : TaskStart). p.priority) c.index.ensures ∙ sym (ap (λ (s : TaskSetup). s.priority) (get_or-map task_setup starts c.args.task c.index.result.now no_setup there)))
