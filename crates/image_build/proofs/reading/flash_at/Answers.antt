use Rattle.std.proofs.Common.{arith}
use Rattle.std.proofs.lemmas.Grind.{common_steps}
use Rattle.app_toml.specs.Held.{app_of}
use Rattle.image_build.proofs.Planning.{flash_count}
use Rattle.image_build.proofs.reading.flash_at.Goals as goal

pub index-requires : goal.index-requires
index-requires c = omega (arith, c.requires.laid.flash.count, flash_count (app_of c.args.app.now))

pub returns : goal.returns
returns c = grind (arith, common_steps)
