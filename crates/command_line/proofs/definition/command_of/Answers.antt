use Rattle.std.proofs.Common.{◌<◌, ◌+◌, ◌∙◌, ap, refl, drop, length}
use Rattle.command_line.proofs.Adding.{added, first_added, one_added, still_local, with_arguments}
use Rattle.command_line.proofs.definition.command_of.Goals as goal

pub loop-argument-init : goal.loop-argument-init
loop-argument-init c = (first_added c.args.row.now _ c.new-command.ensures.app, c.new-command.ensures.local)

pub loop-argument-preserved : goal.loop-argument-preserved
loop-argument-preserved c =
    let i = c.loop-argument.argument-index in
    let arguments = c.args.row.now.arguments.now in
    let within : i < length arguments = c.loop-argument-test.true in
    let one = added c.in_ok-command.ensures c.arg_of.ensures.local refl c.arg_of.ensures.rule in (
      ap (λ app. with_arguments app (drop (i + 1) arguments)) one ∙ one_added _ arguments i _ within ∙ c.loop-argument.invariant.0,
      still_local c.in_ok-command.ensures c.arg_of.ensures.local c.loop-argument.invariant.1,
    )
