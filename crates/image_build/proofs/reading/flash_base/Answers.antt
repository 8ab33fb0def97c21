use Rattle.std.proofs.Common.{arith}
use Rattle.app_toml.specs.Held.{app_of}
use Rattle.image_build.proofs.Planning.{flash_end, flash_most}
use Rattle.image_build.proofs.reading.flash_base.Goals as goal

pub returns-clause-high : goal.returns-clause-high
returns-clause-high c = omega (arith, c.flash_at.ensures, flash_end (app_of c.args.app.now) c.args.layout.now c.args.i c.requires.laid c.requires.task)

pub returns-clause-most : goal.returns-clause-most
returns-clause-most c =
    let app = app_of c.args.app.now in
    omega (
      arith,
      c.flash_at.ensures,
      flash_end app c.args.layout.now c.args.i c.requires.laid c.requires.task,
      flash_most app c.args.layout.now c.requires.laid c.facts.ensures,
    )
