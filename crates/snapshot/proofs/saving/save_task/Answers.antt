use Rattle.std.proofs.Common.{◌∙◌, ◌++◌, ap, take}
use Rattle.snapshot.specs.declared.records.TaskRecord.{TaskRecord}
use Rattle.snapshot.specs.Records.{task_bytes}
use Rattle.snapshot.proofs.Viewed.{record_viewed}
use Rattle.snapshot.proofs.saving.save_task.Goals as goal

pub returns-clause-front : goal.returns-clause-front
returns-clause-front g c = λ x s st.
    let is = c.record_of.ensures ∙ record_viewed s c.args.i c.in-Some.view (c.in-Some.ensures.view x s st) in
    c.put_task.ensures.front ∙ ap (λ (r : TaskRecord). take c.args.at c.args.out.now ++ task_bytes r) is
