use Rattle.std.proofs.Common.{◌<◌, length, ap, arith}
use Rattle.std.proofs.lemmas.List.{length-map}
use Rattle.image_format.specs.declared.records.LineRecord.{LineRecord}
use Rattle.image_format.specs.Images.{records_in}
use Rattle.image_format.specs.ImageData.{line_of}
use Rattle.image_format.proofs.Shape.{each_line, tasks_length}
use Rattle.image_format.proofs.image.Image.line_device_region.Goals as goal

pub regions_in-requires : goal.regions_in-requires
regions_in-requires c =
    let image = c.args.self.now in
    let tasks = tasks_length image.tasks.items image.regions.items image.names.items in
    let there : c.args.k < length image.lines.items = omega (arith, c.requires, length-map image.lines.items line_of) in
    let line = each_line (records_in image) image.accepted c.args.k c.index-line.result.now there in
    omega (arith, c.from.ensures, ap (λ (l : LineRecord). l.task) c.index-line.ensures, line.owner, image.accepted.tasks, tasks)
