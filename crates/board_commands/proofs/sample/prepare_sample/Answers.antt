use Rattle.std.proofs.Common.{◌≡◌, ◌∙◌, ap, map, sym, string_bytes}
use Rattle.std.proofs.lemmas.List.{length-map}
use Rattle.app_toml.specs.Held.{app_of}
use Rattle.image_format.specs.Images.{image_data}
use Rattle.run_script.specs.Events.{script_data}
use Rattle.sample_gen.specs.Sample.{sample_sources}
use Rattle.devices.proofs.Fresh.{none_fresh}
use Rattle.board_commands.proofs.Seeding.{no_devices}
use Rattle.board_commands.proofs.Seeding.{a_source_each, refused_as_sample, sample_ready}
use Rattle.board_commands.proofs.sample.prepare_sample.Goals as goal

pub image_by-requires : goal.image_by-requires
image_by-requires boxes c =
    let are : map string_bytes c.deref.result.now ≡ sample_sources c.args.seed = ap (map string_bytes) c.deref.ensures.value ∙ c.in_ok-app.ensures.sources in
    sym (length-map c.deref.result.now string_bytes) ∙ a_source_each c.args.seed (app_of c.in_ok-app.app) (map string_bytes c.deref.result.now) c.in_ok-app.ensures.app are

pub returns-in-Err-clause-memory : goal.returns-in-Err-clause-memory
returns-in-Err-clause-memory boxes c =
    let are : map string_bytes c.deref.result.now ≡ sample_sources c.args.seed = ap (map string_bytes) c.deref.ensures.value ∙ c.in_ok-app.ensures.sources in
    refused_as_sample c.args.seed (app_of c.in_ok-app.app) (map string_bytes c.deref.result.now) c.in-Err.fault c.in_ok-app.ensures.app are c.build_is_not_refused.ensures c.in-Err.ensures.refused

pub returns-in-Ok-open-clause-ready : goal.returns-in-Ok-open-clause-ready
returns-in-Ok-open-clause-ready boxes c =
    let are : map string_bytes c.deref.result.now ≡ sample_sources c.args.seed = ap (map string_bytes) c.deref.ensures.value ∙ c.in_ok-app.ensures.sources in
    sample_ready c.args.seed (app_of c.in_ok-app.app) (map string_bytes c.deref.result.now) (script_data c.in_ok-app.script) _ (image_data c.in-Ok.image) c.in-Ok-open.board (no_devices _ _ c.new.ensures.items) c.in_ok-app.ensures.app are c.in_ok-app.ensures.script c.in-Ok.ensures.built c.in-Ok-open.ensures.stands c.in-Ok-open.ensures.turns

pub open-requires : goal.open-requires
open-requires boxes c = none_fresh _ (no_devices _ _ c.new.ensures.items)
