use Rattle.std.proofs.Common.{◌<◌, length, ap, arith}
use Rattle.std.proofs.lemmas.List.{length-map}
use Rattle.image_format.specs.declared.records.LineRecord.{LineRecord}
use Rattle.image_format.specs.Images.{records_in}
use Rattle.image_format.specs.ImageData.{line_of}
use Rattle.image_format.proofs.Shape.{each_line}
use Rattle.image_format.proofs.image.Image.line_device.Goals as goal

pub overflow_cast-result : goal.overflow_cast-result
overflow_cast-result c =
    let image = c.args.self.now in
    let there : c.args.k < length image.lines.items = omega (arith, c.requires, length-map image.lines.items line_of) in
    let line = each_line (records_in image) image.accepted c.args.k c.index.result.now there in
    omega (arith, ap (λ (l : LineRecord). l.device) c.index.ensures, line.device)
