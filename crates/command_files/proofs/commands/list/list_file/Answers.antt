use Rattle.std.proofs.Common.{refl}
use Rattle.image_format.specs.Images.{image_data}
use Rattle.command_files.specs.Verdict.{listed}
use Rattle.command_files.proofs.Answering.{said_by, named_fault_by, list_reason, image_alone_faults}
use Rattle.command_files.proofs.commands.list.list_file.Goals as goal

pub returns-in-Ok-clause-answer : goal.returns-in-Ok-clause-answer
returns-in-Ok-clause-answer g c =
    let a = g.F.Files.seen c.args.files.now in
    let b = g.F.Files.seen c.read_image.new.files in
    let w = g.S.Sink.seen c.args.out.now in
    let w' = g.S.Sink.seen c.tell_listing.new.out in
    let image = image_data c.in-Ok.image_data in
    said_by a b w w' (listed image) c.tell_listing.result c.in-Ok.ensures.only_reads.contents refl (list_reason a b c.args.image.now image c.in-Ok.ensures.image) c.tell_listing.ensures

pub returns-in-Err-clause-answer : goal.returns-in-Err-clause-answer
returns-in-Err-clause-answer g c =
    let a = g.F.Files.seen c.args.files.now in
    let b = g.F.Files.seen c.read_image.new.files in
    let w = g.S.Sink.seen c.args.out.now in
    let w' = g.S.Sink.seen c.tell_named_fault.new.out in
    named_fault_by a b w w' c.in-Err.named_fault c.tell_named_fault.result c.in-Err.ensures.only_reads.contents (image_alone_faults a b c.args.image.now c.in-Err.named_fault c.in-Err.ensures.named_fault) c.tell_named_fault.ensures
