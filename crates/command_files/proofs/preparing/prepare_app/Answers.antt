use Rattle.image_format.specs.Images.{image_data}
use Rattle.command_files.proofs.Readying.{set_there, app_script_faults, app_faults}
use Rattle.outside_io.proofs.OnlyReading.{reads_more}
use Rattle.command_files.proofs.preparing.prepare_app.Goals as goal

pub returns-in-Ok-set_up-clause-set : goal.returns-in-Ok-set_up-clause-set
returns-in-Ok-set_up-clause-set g c =
    record { image = image_data c.in-Ok.built.image; built = c.in-Ok.ensures.built; set = set_there c.in-Ok.ensures.only_reads.contents c.in-Ok-set_up.ensures.set }

pub returns-in-Err-set_up-clause-named_fault : goal.returns-in-Err-set_up-clause-named_fault
returns-in-Err-set_up-clause-named_fault g c = λ files_of takes.
    let a = g.F.Files.seen c.args.files.now in
    let b = g.F.Files.seen c.built_app.new.files in
    let e = g.F.Files.seen c.set_up.new.files in
    app_script_faults a b e (image_data c.in-Ok.built.image) c.in-Err-set_up.named_fault takes c.in-Ok.ensures.built c.in-Ok.ensures.only_reads.contents c.in-Ok.ensures.only_reads.later c.in-Err-set_up.ensures.named_fault

pub returns-in-Err-clause-named_fault : goal.returns-in-Err-clause-named_fault
returns-in-Err-clause-named_fault g c = λ files_of takes.
    let a = g.F.Files.seen c.args.files.now in
    let b = g.F.Files.seen c.built_app.new.files in
    app_faults a b c.in-Err.named_fault takes c.in-Err.ensures.named_fault

pub returns-in-Ok-set_up-clause-only_reads : goal.returns-in-Ok-set_up-clause-only_reads
returns-in-Ok-set_up-clause-only_reads g c = reads_more c.in-Ok.ensures.only_reads c.in-Ok-set_up.ensures.only_reads

pub returns-in-Err-set_up-clause-only_reads : goal.returns-in-Err-set_up-clause-only_reads
returns-in-Err-set_up-clause-only_reads g c = reads_more c.in-Ok.ensures.only_reads c.in-Err-set_up.ensures.only_reads
