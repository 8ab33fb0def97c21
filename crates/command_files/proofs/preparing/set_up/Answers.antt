use Rattle.image_format.specs.Images.{image_data}
use Rattle.run_script.specs.Events.{script_data}
use Rattle.command_files.proofs.Readying.{set_by_script}
use Rattle.command_files.proofs.preparing.set_up.Goals as goal

pub returns-in-Ok-open-clause-set : goal.returns-in-Ok-open-clause-set
returns-in-Ok-open-clause-set g c =
    set_by_script (g.F.Files.seen c.args.files.now).contents (image_data c.args.image.now) c.args.script.now (script_data c.in-Ok.script) c.in-Ok-open.board c.in-Ok.ensures.script c.in-Ok-open.ensures.stands c.in-Ok-open.ensures.turns
