use Rattle.std.proofs.Common.{◌≡◌, arith, refl, replicate, rules}
use Rattle.app_toml.specs.Held.{app_of}
use Rattle.image_build.specs.Layout.{flash_needed}
use Rattle.image_build.proofs.Opening.{no_source}
use Rattle.image_build.proofs.builder.Builder.open.Goals as goal

pub returns-clause-none : goal.returns-clause-none
returns-clause-none c =
    let zeros : c.in_ok-flash.flash.items ≡ replicate c.in_ok-layout.layout.flash_length 0 = search rules in
    let count : c.in_ok-layout.layout.flash_length ≡ flash_needed (app_of c.args.app.now) = search rules in
    record { next = refl; most = omega arith; holds = no_source (app_of c.args.app.now) _ _ zeros count }
