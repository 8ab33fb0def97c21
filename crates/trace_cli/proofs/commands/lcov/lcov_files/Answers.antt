use Rattle.std.proofs.Common.{refl, ℕ, List}
use Rattle.kernel_abi.specs.Devices.{AreFresh, DeviceData}
use Rattle.app_toml.specs.Held.{app_of}
use Rattle.command_line.specs.Asking.{asked_lcov}
use Rattle.command_line.specs.CommandLine.{lcov}
use Rattle.command_files.specs.Building.{kept_lines}
use Rattle.command_files.specs.Ready.{RunsApp}
use Rattle.trace_cli.specs.Tracing.{sections, sections_by}
use Rattle.trace_cli.specs.Verdict.{traced}
use Rattle.trace_cli.proofs.Readying.{answers_named_fault, answers_traced, lines_ready}
use Rattle.command_files.proofs.Readying.{app_set_ready, ready_stood, takes_app_of}
use Rattle.trace_cli.proofs.commands.lcov.lcov_files.Goals as goal
use Rattle.trace_cli.specs.Sources.{files_of}
use Rattle.trace_cli.specs.Verdict.{Does}

traces : {devices : List DeviceData} (fresh : AreFresh devices) (app script out : List ℕ) (n : ℕ) → RunsApp devices (files_of devices (lcov app script out n)) (Does devices (lcov app script out n)) app script (λ described sources. traced out n (sections described sources))
traces {devices} fresh app script out n = record { files = λ first. refl; does = λ contents image built. (image, built, refl) }

pub trace_app-requires : goal.trace_app-requires
trace_app-requires g c =
    let stood = ready_stood c.in-Ok.board (app_set_ready (traces c.requires.fresh c.args.job.now.app.now c.args.job.now.script.now c.args.job.now.out.now c.args.job.now.steps) c.in-Ok.ensures.set).ready in
    record { stood = stood.0; fresh = stood.1; few = c.requires.few }

pub returns-in-Ok-clause-answer : goal.returns-in-Ok-clause-answer
returns-in-Ok-clause-answer g c =
    let a = g.F.Files.seen c.args.files.now in
    let b = g.F.Files.seen c.prepare_app.new.files in
    let e = g.F.Files.seen c.trace_app.new.files in
    let w = g.S.Sink.seen c.args.out.now in
    let w' = g.S.Sink.seen c.trace_app.new.out in
    let ready = lines_ready c.requires.fresh (lcov c.args.job.now.app.now c.args.job.now.script.now c.args.job.now.out.now c.args.job.now.steps) c.args.job.now.out.now c.args.job.now.steps a.contents c.in-Ok.board (app_of c.in-Ok.built.app) c.in-Ok.built.lines
    (app_set_ready (traces c.requires.fresh c.args.job.now.app.now c.args.job.now.script.now c.args.job.now.out.now c.args.job.now.steps) c.in-Ok.ensures.set) in
    answers_traced c.args.job.now.app.now c.args.job.now.script.now c.args.job.now.out.now a b e w w' c.args.job.now.steps (sections_by (app_of c.in-Ok.built.app) (kept_lines c.in-Ok.built.lines)) c.in-Ok.board c.trace_app.result c.in-Ok.ensures.only_reads.contents c.in-Ok.ensures.only_reads.puts
    ready c.trace_app.ensures.tells

pub returns-in-Err-clause-answer : goal.returns-in-Err-clause-answer
returns-in-Err-clause-answer g c =
    let a = g.F.Files.seen c.args.files.now in
    let b = g.F.Files.seen c.prepare_app.new.files in
    let w = g.S.Sink.seen c.args.out.now in
    let w' = g.S.Sink.seen c.tell_named_fault.new.out in
    answers_named_fault (asked_lcov c.args.job.now) a b w w' c.in-Err.named_fault c.tell_named_fault.result (λ v. tt) c.in-Err.ensures.only_reads.contents
    (c.in-Err.ensures.named_fault _ (takes_app_of (traces c.requires.fresh c.args.job.now.app.now c.args.job.now.script.now c.args.job.now.out.now c.args.job.now.steps))) c.tell_named_fault.ensures
