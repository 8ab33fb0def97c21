use Rattle.std.proofs.Common.{◌≡◌, ◌∙◌, ◌+◌, ap, arith, rules}
use Rattle.app_toml.specs.Held.{app_of}
use Rattle.app_toml.specs.Sites.{region_of, task_of}
use Rattle.image_build.specs.Layout.{ram_base, region_base}
use Rattle.image_build.proofs.Finding.{region_more, same_count}
use Rattle.image_build.proofs.symbols.push_regions.Goals as goal

pub ram_base-requires-clause-below : goal.ram_base-requires-clause-below
ram_base-requires-clause-below c =
    let app = app_of c.args.app.now in
    omega (arith, c.loop-k-test.true, same_count region_of c.regions-regions.result.now app.regions c.regions-regions.ensures, same_count task_of c.tasks-first.result.now app.tasks c.tasks-first.ensures)

pub loop-k-preserved : goal.loop-k-preserved
loop-k-preserved c =
    let app = app_of c.args.app.now in
    let first = same_count task_of c.tasks-first.result.now app.tasks c.tasks-first.ensures in
    let at : c.ram_base.result ≡ region_base app c.loop-k.k = c.ram_base.ensures.base ∙ ap (λ n. ram_base app (n + c.loop-k.k)) first in
    region_more app _ _ _ c.regions-regions.result.now c.loop-k.k c.ram_base.result c.index-regions-k.result c.loop-k-test.true c.index-regions-k.is at (search rules) c.loop-k.invariant
