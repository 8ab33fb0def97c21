use Rattle.std.proofs.Common.{◌≡◌, ◌<◌, arith, length}
use Rattle.std.proofs.lemmas.Grind.{common_steps}
use Rattle.app_toml.specs.Held.{app_of}
use Rattle.image_build.specs.Layout.{ram_base, ram_sizes}
use Rattle.image_build.proofs.Naming.{ram_count}
use Rattle.image_build.proofs.Spots.{ram_most}
use Rattle.image_build.proofs.reading.ram_base.Goals as goal

pub index-requires : goal.index-requires
index-requires c = omega (arith, c.requires.laid.ram.count, ram_count (app_of c.args.app.now))

pub returns-clause-base : goal.returns-clause-base
returns-clause-base c = grind (arith, common_steps)

pub returns-clause-most : goal.returns-clause-most
returns-clause-most c =
    let app = app_of c.args.app.now in
    let inside : c.args.i < length (ram_sizes app) = omega (arith, ram_count app) in
    let base : c.index.result.now ≡ ram_base app c.args.i = grind (arith, common_steps) in
    omega (arith, base, c.requires.laid.ram.high c.args.i inside, ram_most app c.args.layout.now c.requires.laid c.facts.ensures)
