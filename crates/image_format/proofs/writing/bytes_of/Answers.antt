use Rattle.std.proofs.Common.{◌≤◌, List, All, subst, sym}
use Rattle.image_format.specs.declared.records.LineRecord.{LineRecord}
use Rattle.image_format.specs.Images.{records_in}
use Rattle.image_format.proofs.Shape.{each_line}
use Rattle.image_format.proofs.writing.bytes_of.Goals as goal

pub push_lines-requires : goal.push_lines-requires
push_lines-requires c =
    let image = c.args.image.now in
    subst (λ (ls : List LineRecord). All (λ l. l.device ≤ 8) ls) (sym c.as_slice-3.ensures.value)
    (λ k d lt. (each_line (records_in image) image.accepted k d lt).device)
