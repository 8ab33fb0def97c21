-- What the rows of the table say.
use Rattle.std.specs.Prelude.{List, [], ◌∷◌, codes, map}
use Rattle.clap.specs.Walk.{Rule, Text}
use Rattle.clap.specs.Simple.{App, Shape, new_rule, new_shape, with_subcommand}
use Rattle.command_line.specs.CommandLine.{most_seed, number_rule, option_rule, flag_rule, positional_rule, turn_rule, steps_rule}
use Rattle.command_line.specs.declared.job.CommandName.{CommandName}
use Rattle.command_line.specs.declared.commands.Argument.{Argument}
use Rattle.command_line.specs.declared.commands.Argument.TheVariants as argument
use Rattle.command_line.specs.declared.commands.CommandRow.{CommandRow}

-- what clap is told of an argument
abbrev pub rule_of_argument : Argument → Rule
rule_of_argument (argument.Word name) = positional_rule name.now
rule_of_argument argument.Seed = number_rule (codes "seed") most_seed
rule_of_argument (argument.Turn name) = turn_rule name.now
rule_of_argument (argument.OptionalWord name) = new_rule name.now
rule_of_argument argument.Steps = steps_rule
rule_of_argument (argument.Setting name) = option_rule name.now
rule_of_argument (argument.Flag name) = flag_rule name.now

abbrev pub shape_of_row : CommandRow → Shape
shape_of_row row = record (new_shape row.name.now) { rules = map rule_of_argument row.arguments.now }

-- a command by itself, as clap's value
abbrev pub app_of_row : CommandRow → App
app_of_row row = record { top = shape_of_row row; subs = [] }

-- the program with the commands of these rows added
abbrev pub with_rows : App → List CommandRow → App
with_rows app [] = app
with_rows app (row ∷ rest) = with_rows (with_subcommand app (shape_of_row row)) rest

-- the commands of the rows, by their names
abbrev pub commands_of : List CommandRow → List (Text × CommandName)
commands_of rows = map (λ row. (row.name.now, row.command)) rows
