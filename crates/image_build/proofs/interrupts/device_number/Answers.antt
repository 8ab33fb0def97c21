use Rattle.app_toml.specs.Held.{app_of}
use Rattle.image_build.proofs.Finding.{few_in_two}
use Rattle.image_build.proofs.interrupts.device_number.Goals as goal

pub place_in_two-place-requires : goal.place_in_two-place-requires
place_in_two-place-requires c =
    few_in_two (app_of c.args.app.now) c.facts.ensures c.as_str.result.now _ _ _ c.tasks.ensures c.areas_of.ensures
