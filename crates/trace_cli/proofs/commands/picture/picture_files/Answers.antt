use Rattle.std.proofs.Common.{◌∙◌, ap, length, refl, ℕ, List, Option, map, option_map, string_bytes, subst}
use Rattle.kernel_abi.specs.Devices.{AreFresh, DeviceData}
use Rattle.command_line.specs.CommandLine.{picture}
use Rattle.command_files.specs.Answer.{Tells}
use Rattle.command_files.specs.Ready.{RunsNamed}
use Rattle.trace_cli.specs.Verdict.{drawn}
use Rattle.trace_cli.proofs.Readying.{answers_named_fault, answers_drawn}
use Rattle.command_files.proofs.Readying.{ready_stood}
use Rattle.command_files.proofs.Named.{named_ready, takes_named}
use Rattle.trace_cli.proofs.commands.picture.picture_files.Goals as goal
use Rattle.trace_cli.specs.Sources.{files_of}
use Rattle.trace_cli.specs.Verdict.{Does}

draws : {devices : List DeviceData} (fresh : AreFresh devices) (image script out : List ℕ) (n : ℕ) (named : Option (List ℕ)) → RunsNamed devices (files_of devices (picture image script out n named)) (Does devices (picture image script out n named)) image script named (drawn out n image)
draws {devices} fresh image script out n named = record { files = λ first. refl; does = λ contents. refl }

pub draw_board-requires : goal.draw_board-requires
draw_board-requires g c =
    let named = option_map (λ name. name.now) c.args.job.now.names in
    let stood = ready_stood c.in-Ok.board (named_ready (draws c.requires.fresh c.args.job.now.image.now c.args.job.now.script.now c.args.job.now.out.now c.args.job.now.steps named) c.in-Ok.ensures.set) in
    record { stood = stood.0; fresh = stood.1; few = c.requires.few; named = ap (λ ns. length ns) c.deref.ensures.value ∙ c.in-Ok.ensures.count }

pub returns-in-Ok-clause-answer : goal.returns-in-Ok-clause-answer
returns-in-Ok-clause-answer g c =
    let named = option_map (λ name. name.now) c.args.job.now.names in
    let a = g.F.Files.seen c.args.files.now in
    let b = g.F.Files.seen c.prepare_named.new.files in
    let e = g.F.Files.seen c.draw_board.new.files in
    let w = g.S.Sink.seen c.args.out.now in
    let w' = g.S.Sink.seen c.draw_board.new.out in
    answers_drawn c.args.job.now.image.now c.args.job.now.script.now c.args.job.now.out.now named a b e w w' c.args.job.now.steps (map string_bytes c.in-Ok.names.items) c.in-Ok.board c.draw_board.result c.in-Ok.ensures.only_reads.contents c.in-Ok.ensures.only_reads.puts
    (named_ready (draws c.requires.fresh c.args.job.now.image.now c.args.job.now.script.now c.args.job.now.out.now c.args.job.now.steps named) c.in-Ok.ensures.set)
    (λ x st. subst (λ (ns : List (List ℕ)). Tells b e w w' (drawn c.args.job.now.out.now c.args.job.now.steps c.args.job.now.image.now ns x) c.draw_board.result) (ap (λ ns. map string_bytes ns) c.deref.ensures.value) (c.draw_board.ensures.tells x st))

pub returns-in-Err-clause-answer : goal.returns-in-Err-clause-answer
returns-in-Err-clause-answer g c =
    let named = option_map (λ name. name.now) c.args.job.now.names in
    let a = g.F.Files.seen c.args.files.now in
    let b = g.F.Files.seen c.prepare_named.new.files in
    let w = g.S.Sink.seen c.args.out.now in
    let w' = g.S.Sink.seen c.tell_named_fault.new.out in
    answers_named_fault (picture c.args.job.now.image.now c.args.job.now.script.now c.args.job.now.out.now c.args.job.now.steps named) a b w w' c.in-Err.named_fault c.tell_named_fault.result (λ v. tt) c.in-Err.ensures.only_reads.contents
    (c.in-Err.ensures.named_fault _ (takes_named (draws c.requires.fresh c.args.job.now.image.now c.args.job.now.script.now c.args.job.now.out.now c.args.job.now.steps named))) c.tell_named_fault.ensures
