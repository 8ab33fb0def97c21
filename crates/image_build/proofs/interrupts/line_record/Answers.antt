use Rattle.std.proofs.Common.{◌≡◌, arith, ap, length, map, rules, string_bytes}
use Rattle.std.proofs.lemmas.List.{length-map}
use Rattle.app_toml.specs.Crossed.{notifications_of}
use Rattle.app_toml.specs.Held.{app_of}
use Rattle.image_build.specs.Layout.{index_from}
use Rattle.image_build.proofs.Finding.{owner_notes, task_below}
use Rattle.image_build.proofs.Known.{few_tasks}
use Rattle.image_build.proofs.interrupts.line_record.Goals as goal

pub overflow_cast-result : goal.overflow_cast-result
overflow_cast-result c =
    let app = app_of c.args.app.now in
    let name = string_bytes c.args.interrupt.now.task in
    let is : c.task_place.result ≡ index_from 0 name (map (λ t. t.name) app.tasks) = search rules in
    omega (arith, is, task_below 0 name app.tasks c.requires.owner, few_tasks app c.facts.ensures)

pub bit_of-requires-clause-few : goal.bit_of-requires-clause-few
bit_of-requires-clause-few c =
    let app = app_of c.args.app.now in
    let name = string_bytes c.args.interrupt.now.task in
    let is : map string_bytes c.notifications_of.result.now ≡ notifications_of name app.tasks = search rules in
    omega (arith, length-map c.notifications_of.result.now string_bytes, ap length is, owner_notes app c.facts.ensures name)
