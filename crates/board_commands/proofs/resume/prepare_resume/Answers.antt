use Rattle.std.proofs.Common.{◌∙◌, arith, inl, inr}
use Rattle.std.proofs.lemmas.Result.{IfOk-weaker, IfErr-weaker}
use Rattle.image_format.specs.Images.{image_data}
use Rattle.run_script.specs.Events.{script_data}
use Rattle.command_files.specs.Sources.{script_file}
use Rattle.command_files.proofs.Faulting.{faults_earlier}
use Rattle.board_commands.proofs.Readying.{starts_seen, resume_ready, state_there, resume_image_faults, resume_script_faults, resume_state_faults}
use Rattle.command_files.proofs.Readying.{script_there}
use Rattle.outside_io.proofs.OnlyReading.{reads_more}
use Rattle.board_commands.proofs.resume.prepare_resume.Goals as goal

pub returns-in-Err-clause-named_fault : goal.returns-in-Err-clause-named_fault
returns-in-Err-clause-named_fault g c =
    let a = g.F.Files.seen c.args.files.now in
    let b = g.F.Files.seen c.read_image.new.files in
    resume_image_faults c.requires.fresh a b c.args.job.now.image.now c.args.job.now.script.now c.args.job.now.state.now c.args.job.now.steps c.in-Err.named_fault c.in-Err.ensures.named_fault

pub returns-in-Err-read_script-clause-named_fault : goal.returns-in-Err-read_script-clause-named_fault
returns-in-Err-read_script-clause-named_fault g c =
    let a = g.F.Files.seen c.args.files.now in
    let b = g.F.Files.seen c.read_image.new.files in
    let d = g.F.Files.seen c.read_script.new.files in
    resume_script_faults c.requires.fresh a b d c.args.job.now.image.now c.args.job.now.script.now c.args.job.now.state.now c.args.job.now.steps (image_data c.in-Ok.image_data) c.in-Err-read_script.named_fault c.in-Ok.ensures.image c.in-Ok.ensures.only_reads.contents c.in-Ok.ensures.only_reads.later c.in-Err-read_script.ensures.named_fault

pub returns-clause-ready : goal.returns-clause-ready
returns-clause-ready g c =
    IfOk-weaker c.set_state.result _ _ (λ b h. resume_ready (g.F.Files.seen c.args.files.now).contents c.args.job.now.image.now c.args.job.now.script.now c.args.job.now.state.now c.args.job.now.steps (image_data c.in-Ok.image_data) (script_data c.in-Ok-read_script.events) b c.in-Ok.ensures.image
    (script_there c.in-Ok.ensures.only_reads.contents c.in-Ok-read_script.ensures.script) (state_there (c.in-Ok-read_script.ensures.only_reads.contents ∙ c.in-Ok.ensures.only_reads.contents) h)) c.set_state.ensures.set

pub returns-clause-named_fault : goal.returns-clause-named_fault
returns-clause-named_fault g c =
    let a = g.F.Files.seen c.args.files.now in
    let b = g.F.Files.seen c.read_script.new.files in
    let d = g.F.Files.seen c.set_state.new.files in
    let same = c.in-Ok-read_script.ensures.only_reads.contents ∙ c.in-Ok.ensures.only_reads.contents in
    IfErr-weaker c.set_state.result _ _ (λ h is. resume_state_faults c.requires.fresh a b d c.args.job.now.image.now c.args.job.now.script.now c.args.job.now.state.now c.args.job.now.steps (image_data c.in-Ok.image_data) (script_data c.in-Ok-read_script.events) h c.in-Ok.ensures.image
    (script_there c.in-Ok.ensures.only_reads.contents c.in-Ok-read_script.ensures.script) same (omega (arith, c.in-Ok.ensures.only_reads.later, c.in-Ok-read_script.ensures.only_reads.later)) is) c.set_state.ensures.named_fault

pub returns-in-Err-clause-unless : goal.returns-in-Err-clause-unless
returns-in-Err-clause-unless g c = inl c.in-Err.ensures.named_fault

pub returns-in-Err-read_script-clause-unless : goal.returns-in-Err-read_script-clause-unless
returns-in-Err-read_script-clause-unless g c =
    let a = g.F.Files.seen c.args.files.now in
    let b = g.F.Files.seen c.read_image.new.files in
    let d = g.F.Files.seen c.read_script.new.files in
    inr (inl (faults_earlier a b d (script_file c.args.job.now.script.now) c.in-Err-read_script.named_fault c.in-Ok.ensures.only_reads.contents c.in-Ok.ensures.only_reads.later c.in-Err-read_script.ensures.named_fault))

pub returns-clause-starts : goal.returns-clause-starts
returns-clause-starts g c =
    IfOk-weaker c.set_state.result _ _ (λ b h. starts_seen (g.F.Files.seen c.args.files.now).contents c.args.job.now.image.now c.args.job.now.script.now (image_data c.in-Ok.image_data) (script_data c.in-Ok-read_script.events) c.in-Ok.ensures.image
    (script_there c.in-Ok.ensures.only_reads.contents c.in-Ok-read_script.ensures.script) c.set_state.ensures.starts) c.set_state.ensures.set

pub returns-clause-unless : goal.returns-clause-unless
returns-clause-unless g c =
    IfErr-weaker c.set_state.result _ _ (λ h is. inr (inr (starts_seen (g.F.Files.seen c.args.files.now).contents c.args.job.now.image.now c.args.job.now.script.now (image_data c.in-Ok.image_data) (script_data c.in-Ok-read_script.events) c.in-Ok.ensures.image
    (script_there c.in-Ok.ensures.only_reads.contents c.in-Ok-read_script.ensures.script) c.set_state.ensures.starts))) c.set_state.ensures.named_fault

pub returns-in-Err-read_script-clause-only_reads : goal.returns-in-Err-read_script-clause-only_reads
returns-in-Err-read_script-clause-only_reads g c = reads_more c.in-Ok.ensures.only_reads c.in-Err-read_script.ensures.only_reads

pub returns-clause-only_reads : goal.returns-clause-only_reads
returns-clause-only_reads g c = reads_more (reads_more c.in-Ok.ensures.only_reads c.in-Ok-read_script.ensures.only_reads) c.set_state.ensures.only_reads
