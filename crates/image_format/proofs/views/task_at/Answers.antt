use Rattle.std.proofs.Common.{◌∙◌, ◌<◌, length, arith, ap, sym, ◌==◌}
use Rattle.std.proofs.lemmas.List.{get_or_default}
use Rattle.image_format.specs.declared.records.TaskRecord.{TaskRecord}
use Rattle.image_format.specs.ImageData.{ImageTask}
use Rattle.image_format.proofs.Chunks.{blank}
use Rattle.image_format.proofs.Lookups.{task_looked}
use Rattle.image_format.proofs.Shape.{tasks_length}
use Rattle.image_format.proofs.views.task_at.Goals as goal

pub returns : goal.returns
returns c =
    let tasks = c.args.image.now.tasks.items in
    let regions = c.args.image.now.regions.items in
    let names = c.args.image.now.names.items in
    let lt : c.args.i < length tasks = omega (arith, tasks_length tasks regions names) in
    let e = c.index.ensures ∙ get_or_default tasks c.args.i c.index.result.now blank lt in
    let t = sym (task_looked tasks regions names c.args.i lt) in
    record {
      priority = ap (λ (r : TaskRecord). r.priority) e ∙ ap (λ (p : ImageTask). p.priority) t;
      started = ap (λ (r : TaskRecord). r.flags == 1) e ∙ ap (λ (p : ImageTask). p.started) t;
      entry = ap (λ (r : TaskRecord). r.entry) e ∙ ap (λ (p : ImageTask). p.entry) t;
      sp = ap (λ (r : TaskRecord). r.sp) e ∙ ap (λ (p : ImageTask). p.sp) t;
    }
