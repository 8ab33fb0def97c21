use Rattle.std.proofs.Common.{◌∙◌, ap, arith, rules}
use Rattle.std.proofs.lemmas.Grind.{common_steps}
use Rattle.app_toml.specs.Held.{app_of}
use Rattle.app_toml.specs.Places.{Text}
use Rattle.image_format.specs.ImageData.{region_record}
use Rattle.image_build.specs.Layout.{named}
use Rattle.image_build.proofs.Recorded.{named_more}
use Rattle.image_build.proofs.regions.push_named.Goals as goal

pub loop-name-preserved : goal.loop-name-preserved
loop-name-preserved c =
    let app = app_of c.args.app.now in
    let is_written = c.args.is_written in
    named_more app is_written _ _ _ c.args.names.now c.loop-name.name-index c.name-item.result c.named.result c.loop-name-test.true c.name-item.is
    (c.named.ensures ∙ ap (λ (n : Text). region_record (named app is_written n)) c.as_str.ensures.value) (search rules) c.loop-name.invariant

pub returns : goal.returns
returns c = grind (arith, common_steps)
