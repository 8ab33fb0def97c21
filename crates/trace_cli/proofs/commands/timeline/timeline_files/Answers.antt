use Rattle.std.proofs.Common.{◌∙◌, ap, length, refl, ℕ, List, Option, map, option_map, string_bytes, subst}
use Rattle.kernel_abi.specs.Devices.{AreFresh, DeviceData}
use Rattle.command_line.specs.CommandLine.{timeline}
use Rattle.command_files.specs.Pushed.{Says}
use Rattle.command_files.specs.Ready.{RunsNamed}
use Rattle.trace_cli.specs.Verdict.{timed}
use Rattle.trace_cli.proofs.Readying.{answers_named_fault, answers_timed}
use Rattle.command_files.proofs.Readying.{ready_stood}
use Rattle.command_files.proofs.Named.{named_ready, takes_named}
use Rattle.trace_cli.proofs.commands.timeline.timeline_files.Goals as goal
use Rattle.trace_cli.specs.Sources.{files_of}
use Rattle.trace_cli.specs.Verdict.{Does}

times : {devices : List DeviceData} (fresh : AreFresh devices) (image script : List ℕ) (n : ℕ) (named : Option (List ℕ)) → RunsNamed devices (files_of devices (timeline image script n named)) (Does devices (timeline image script n named)) image script named (timed n)
times {devices} fresh image script n named = record { files = λ first. refl; does = λ contents. refl }

pub time_board-requires : goal.time_board-requires
time_board-requires g c =
    let named = option_map (λ name. name.now) c.args.job.now.names in
    let stood = ready_stood c.in-Ok.board (named_ready (times c.requires.fresh c.args.job.now.image.now c.args.job.now.script.now c.args.job.now.steps named) c.in-Ok.ensures.set) in
    record { stood = stood.0; fresh = stood.1; few = c.requires.few; named = ap (λ ns. length ns) c.deref.ensures.value ∙ c.in-Ok.ensures.count }

pub returns-in-Ok-clause-answer : goal.returns-in-Ok-clause-answer
returns-in-Ok-clause-answer g c =
    let named = option_map (λ name. name.now) c.args.job.now.names in
    let a = g.F.Files.seen c.args.files.now in
    let b = g.F.Files.seen c.prepare_named.new.files in
    let w = g.S.Sink.seen c.args.out.now in
    let w' = g.S.Sink.seen c.time_board.new.out in
    answers_timed c.args.job.now.image.now c.args.job.now.script.now named a b w w' c.args.job.now.steps (map string_bytes c.in-Ok.names.items) c.in-Ok.board c.time_board.result c.in-Ok.ensures.only_reads.contents
    (named_ready (times c.requires.fresh c.args.job.now.image.now c.args.job.now.script.now c.args.job.now.steps named) c.in-Ok.ensures.set)
    (λ x st. subst (λ (ns : List (List ℕ)). Says w w' (timed c.args.job.now.steps ns x) c.time_board.result) (ap (λ ns. map string_bytes ns) c.deref.ensures.value) (c.time_board.ensures x st))

pub returns-in-Err-clause-answer : goal.returns-in-Err-clause-answer
returns-in-Err-clause-answer g c =
    let named = option_map (λ name. name.now) c.args.job.now.names in
    let a = g.F.Files.seen c.args.files.now in
    let b = g.F.Files.seen c.prepare_named.new.files in
    let w = g.S.Sink.seen c.args.out.now in
    let w' = g.S.Sink.seen c.tell_named_fault.new.out in
    answers_named_fault (timeline c.args.job.now.image.now c.args.job.now.script.now c.args.job.now.steps named) a b w w' c.in-Err.named_fault c.tell_named_fault.result (λ v. tt) c.in-Err.ensures.only_reads.contents
    (c.in-Err.ensures.named_fault _ (takes_named (times c.requires.fresh c.args.job.now.image.now c.args.job.now.script.now c.args.job.now.steps named))) c.tell_named_fault.ensures
