use Rattle.image_format.specs.Images.{image_data}
use Rattle.command_files.specs.Verdict.{built}
use Rattle.command_files.proofs.Answering.{named_fault_by, put_by, build_reason, build_faults}
use Rattle.command_files.proofs.commands.build.build_file.Goals as goal

pub returns-in-Ok-clause-answer : goal.returns-in-Ok-clause-answer
returns-in-Ok-clause-answer g c =
    let a = g.F.Files.seen c.args.files.now in
    let b = g.F.Files.seen c.built_image.new.files in
    let e = g.F.Files.seen c.put_image.new.files in
    let w = g.S.Sink.seen c.args.out.now in
    let w' = g.S.Sink.seen c.put_image.new.out in
    let image = image_data c.in-Ok.image in
    put_by a b e w w' (built c.args.name.now image) c.put_image.result c.in-Ok.ensures.only_reads.contents c.in-Ok.ensures.only_reads.puts (build_reason a e c.args.app.now c.args.name.now image c.in-Ok.ensures.image) c.put_image.ensures.tells

pub returns-in-Err-clause-answer : goal.returns-in-Err-clause-answer
returns-in-Err-clause-answer g c =
    let a = g.F.Files.seen c.args.files.now in
    let b = g.F.Files.seen c.built_image.new.files in
    let w = g.S.Sink.seen c.args.out.now in
    let w' = g.S.Sink.seen c.tell_named_fault.new.out in
    named_fault_by a b w w' c.in-Err.named_fault c.tell_named_fault.result c.in-Err.ensures.only_reads.contents (build_faults a b c.args.app.now c.in-Err.named_fault c.in-Err.ensures.named_fault) c.tell_named_fault.ensures
