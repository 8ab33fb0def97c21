use Rattle.std.proofs.Common.{◌∙◌}
use Rattle.app_toml.specs.Held.{app_of}
use Rattle.image_format.specs.Images.{image_data}
use Rattle.command_files.proofs.Taking.{all_next, image_of_all}
use Rattle.command_files.proofs.building.image_of.Goals as goal

pub finish-requires : goal.finish-requires
finish-requires g c = all_next (g.F.Files.seen c.args.files.now).contents (app_of c.args.app.now) c.take_sources.new.builder c.take_sources.new.lines (c.in-Ok.ensures.described ∙ c.requires.described) c.in-Ok.ensures.accepted_sources

pub returns-in-Ok-finish-clause-image : goal.returns-in-Ok-finish-clause-image
returns-in-Ok-finish-clause-image g c = image_of_all (g.F.Files.seen c.args.files.now).contents (app_of c.args.app.now) c.take_sources.new.builder (image_data c.in-Ok-finish.image) c.take_sources.new.lines
    (c.in-Ok.ensures.described ∙ c.requires.described) c.in-Ok.ensures.accepted_sources c.in-Ok-finish.ensures.built c.in-Ok-finish.ensures.sound
