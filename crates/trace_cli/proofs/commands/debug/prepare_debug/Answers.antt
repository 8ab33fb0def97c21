use Rattle.std.proofs.Common.{◌∙◌, arith}
use Rattle.image_format.specs.Images.{image_data}
use Rattle.run_script.specs.Events.{script_data}
use Rattle.debug_core.specs.Listed.{listed}
use Rattle.command_files.specs.declared.file_faults.NamedFault.TheVariants as named_faults
use Rattle.trace_cli.proofs.Readying.{debug_ready, commands_there, debug_image_faults, debug_script_faults, debug_commands_faults}
use Rattle.command_files.proofs.Readying.{script_there}
use Rattle.outside_io.proofs.OnlyReading.{reads_more}
use Rattle.trace_cli.proofs.commands.debug.prepare_debug.Goals as goal

pub returns-in-Err-clause-named_fault : goal.returns-in-Err-clause-named_fault
returns-in-Err-clause-named_fault g c =
    let a = g.F.Files.seen c.args.files.now in
    let b = g.F.Files.seen c.read_image.new.files in
    debug_image_faults c.requires.fresh a b c.args.job.now.image.now c.args.job.now.script.now c.args.job.now.commands.now c.in-Err.named_fault c.in-Err.ensures.named_fault

pub returns-in-Err-read_script-clause-named_fault : goal.returns-in-Err-read_script-clause-named_fault
returns-in-Err-read_script-clause-named_fault g c =
    let a = g.F.Files.seen c.args.files.now in
    let b = g.F.Files.seen c.read_image.new.files in
    let d = g.F.Files.seen c.read_script.new.files in
    debug_script_faults c.requires.fresh a b d c.args.job.now.image.now c.args.job.now.script.now c.args.job.now.commands.now (image_data c.in-Ok.image_data) c.in-Err-read_script.named_fault c.in-Ok.ensures.image c.in-Ok.ensures.only_reads.contents c.in-Ok.ensures.only_reads.later c.in-Err-read_script.ensures.named_fault

pub returns-in-Err-read_commands-clause-named_fault : goal.returns-in-Err-read_commands-clause-named_fault
returns-in-Err-read_commands-clause-named_fault g c =
    let a = g.F.Files.seen c.args.files.now in
    let b = g.F.Files.seen c.read_script.new.files in
    let d = g.F.Files.seen c.read_commands.new.files in
    debug_commands_faults c.requires.fresh a b d c.args.job.now.image.now c.args.job.now.script.now c.args.job.now.commands.now (image_data c.in-Ok.image_data) (script_data c.in-Ok-read_script.events) c.in-Err-read_commands.named_fault c.in-Ok.ensures.image
    (script_there c.in-Ok.ensures.only_reads.contents c.in-Ok-read_script.ensures.script) (c.in-Ok-read_script.ensures.only_reads.contents ∙ c.in-Ok.ensures.only_reads.contents) (omega (arith, c.in-Ok.ensures.only_reads.later, c.in-Ok-read_script.ensures.only_reads.later)) c.in-Err-read_commands.ensures.named_fault

pub returns-in-Ok-open-clause-ready : goal.returns-in-Ok-open-clause-ready
returns-in-Ok-open-clause-ready g c =
    let same = c.in-Ok-read_script.ensures.only_reads.contents ∙ c.in-Ok.ensures.only_reads.contents in
    debug_ready (g.F.Files.seen c.args.files.now).contents c.args.job.now.image.now c.args.job.now.script.now c.args.job.now.commands.now (image_data c.in-Ok.image_data) (script_data c.in-Ok-read_script.events) (listed c.in-Ok-read_commands.commands) c.in-Ok-open.board c.in-Ok.ensures.image
    (script_there c.in-Ok.ensures.only_reads.contents c.in-Ok-read_script.ensures.script) (commands_there same c.in-Ok-read_commands.ensures.commands) c.in-Ok-open.ensures.stands

pub returns-clause-named_fault : goal.returns-clause-named_fault
returns-clause-named_fault g c =
    let a = g.F.Files.seen c.args.files.now in
    let d = g.F.Files.seen c.read_commands.new.files in
    debug_image_faults c.requires.fresh a d c.args.job.now.image.now c.args.job.now.script.now c.args.job.now.commands.now named_faults.Memory tt

pub returns-in-Err-read_script-clause-only_reads : goal.returns-in-Err-read_script-clause-only_reads
returns-in-Err-read_script-clause-only_reads g c = reads_more c.in-Ok.ensures.only_reads c.in-Err-read_script.ensures.only_reads

pub returns-in-Err-read_commands-clause-only_reads : goal.returns-in-Err-read_commands-clause-only_reads
returns-in-Err-read_commands-clause-only_reads g c = reads_more (reads_more c.in-Ok.ensures.only_reads c.in-Ok-read_script.ensures.only_reads) c.in-Err-read_commands.ensures.only_reads

pub returns-in-Ok-open-clause-only_reads : goal.returns-in-Ok-open-clause-only_reads
returns-in-Ok-open-clause-only_reads g c = reads_more (reads_more c.in-Ok.ensures.only_reads c.in-Ok-read_script.ensures.only_reads) c.in-Ok-read_commands.ensures.only_reads

pub returns-clause-only_reads : goal.returns-clause-only_reads
returns-clause-only_reads g c = reads_more (reads_more c.in-Ok.ensures.only_reads c.in-Ok-read_script.ensures.only_reads) c.in-Ok-read_commands.ensures.only_reads
