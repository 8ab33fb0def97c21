use Rattle.std.proofs.Common.{◌≡◌, drop}
use Rattle.command_line.specs.CommandLine.{named_in}
use Rattle.command_line.specs.Table.{commands_of}
use Rattle.command_line.proofs.commands.named_among.Given as goal

abbrev pub invariant-loop-row : goal.invariant-loop-row
invariant-loop-row l = named_in (commands_of (drop l.row-index l.rows)) l.word ≡ named_in (commands_of l.rows) l.word
