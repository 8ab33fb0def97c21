use Rattle.std.proofs.lemmas.Result.{IfOk-weaker, IfErr-weaker}
use Rattle.image_format.specs.Images.{image_data}
use Rattle.command_files.proofs.Readying.{set_there, script_faults, image_faults}
use Rattle.outside_io.proofs.OnlyReading.{reads_more}
use Rattle.command_files.proofs.preparing.prepare_run.Goals as goal

pub returns-in-Ok-clause-set : goal.returns-in-Ok-clause-set
returns-in-Ok-clause-set g c =
    IfOk-weaker c.set_up.result _ _ (λ b h. record { image_data = image_data c.in-Ok.image_data; of_image = c.in-Ok.ensures.image; set = set_there c.in-Ok.ensures.only_reads.contents h }) c.set_up.ensures.set

pub returns-in-Ok-clause-named_fault : goal.returns-in-Ok-clause-named_fault
returns-in-Ok-clause-named_fault g c = λ files_of takes.
    let a = g.F.Files.seen c.args.files.now in
    let b = g.F.Files.seen c.read_image.new.files in
    let e = g.F.Files.seen c.set_up.new.files in
    IfErr-weaker c.set_up.result _ _ (λ h is. script_faults a b e c.args.image.now c.args.script.now (image_data c.in-Ok.image_data) h takes c.in-Ok.ensures.image c.in-Ok.ensures.only_reads.contents c.in-Ok.ensures.only_reads.later is) c.set_up.ensures.named_fault

pub returns-in-Err-clause-named_fault : goal.returns-in-Err-clause-named_fault
returns-in-Err-clause-named_fault g c = λ files_of takes.
    let a = g.F.Files.seen c.args.files.now in
    let b = g.F.Files.seen c.read_image.new.files in
    image_faults a b c.args.image.now c.args.script.now c.in-Err.named_fault takes c.in-Err.ensures.named_fault

pub returns-in-Ok-clause-only_reads : goal.returns-in-Ok-clause-only_reads
returns-in-Ok-clause-only_reads g c = reads_more c.in-Ok.ensures.only_reads c.set_up.ensures.only_reads
