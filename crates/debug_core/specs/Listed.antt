-- The list that a value of `Commands` holds.
use Rattle.std.specs.Prelude.{List}
use Rattle.debug_core.specs.declared.command.Command.{Command}
use Rattle.debug_core.specs.declared.commands.Commands.{Commands}

-- the commands in their order
abbrev pub listed : Commands → List Command
listed c = c.commands.items
