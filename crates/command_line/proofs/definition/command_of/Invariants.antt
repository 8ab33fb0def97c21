use Rattle.std.proofs.Common.{◌≡◌, drop, false}
use Rattle.clap.specs.Words.{app_of}
use Rattle.clap.specs.declared.builder.command.Command.TheViews.{out-Command as fields_of}
use Rattle.command_line.specs.Table.{app_of_row}
use Rattle.command_line.proofs.Adding.{with_arguments}
use Rattle.command_line.proofs.definition.command_of.Given as goal

abbrev pub invariant-loop-argument : goal.invariant-loop-argument
invariant-loop-argument l =
    (with_arguments (app_of l.command) (drop l.argument-index l.argument-items) ≡ app_of_row l.row) × ((fields_of l.command).has_globals ≡ false)
