use Rattle.std.proofs.Common.{◌≡◌, ◌+◌, ap, length, rules}
use Rattle.app_toml.specs.Held.{app_of}
use Rattle.image_format.specs.ImageData.{bit}
use Rattle.image_build.proofs.Finding.{same_record}
use Rattle.image_build.proofs.tasks.task_record.Goals as goal

pub returns : goal.returns
returns c =
    let t = c.task-task.result.now in
    let flags : c.from.result ≡ bit t.start 1 = search rules in
    let regions : 2 + c.len.result + c.len-2.result ≡ 2 + length t.uses.items + length t.reads.items = search rules in
    let names : c.len-3.result ≡ length t.notifications.items = search rules in
    same_record (app_of c.args.app.now) c.args.i t c.from.result _ _ _ _ c.task-task.ensures.task flags regions names (ap (λ n. n + 1) c.flash_base.ensures.base) (ap (λ n. n + t.stack) c.ram_base.ensures.base)
