-- What a command holds once its arguments are added, and the program once its commands are.
use Rattle.std.proofs.Common.{◌≡◌, ◌∙◌, ap, sym, refl, false, List, [], ◌∷◌, ◌++◌, map, ℕ, ◌<◌, ◌+◌, length, drop, get_or, add-one, append_assoc}
use Rattle.std.proofs.lemmas.List.{append-nil}
use Rattle.std.proofs.Math.Seq.{drop-cons}
use Rattle.std.specs.Prelude.{◌||◌}
use Rattle.clap.specs.Simple.{new_app, on_top, with_subcommand}
use Rattle.clap.specs.Words.{AddsArg, AddsSubcommand, App, Rule, app_of, rule_of, with_rule}
use Rattle.clap.specs.declared.builder.arg.Arg.{Arg}
use Rattle.clap.specs.declared.builder.command.Command.{Command}
use Rattle.clap.specs.declared.builder.command.Command.TheViews.{out-Command as fields_of}
use Rattle.command_line.specs.Table.{app_of_row, rule_of_argument, shape_of_row, with_rows}
use Rattle.command_line.specs.declared.commands.Argument.{Argument}
use Rattle.command_line.specs.declared.commands.CommandRow.{CommandRow}

-- its rules are those before it and that of the argument
pub added : {old new : Command} {arg : Arg} {app : App} {rule : Rule} → AddsArg old arg new → arg.global ≡ false → app_of old ≡ app → rule_of arg ≡ rule → app_of new ≡ with_rule app rule
added {arg = arg} {app = app} adds local is of = adds.shape local ∙ ap (λ a. with_rule a (rule_of arg)) is ∙ ap (with_rule app) of

-- no argument is global still
pub still_local : {old new : Command} {arg : Arg} → AddsArg old arg new → arg.global ≡ false → (fields_of old).has_globals ≡ false → (fields_of new).has_globals ≡ false
still_local {arg = arg} adds local none = adds.globals ∙ ap (λ old. old || arg.global) none ∙ local

-- a command with these arguments more
abbrev pub with_arguments : App → List Argument → App
with_arguments app [] = app
with_arguments app (argument ∷ rest) = with_arguments (with_rule app (rule_of_argument argument)) rest

-- its rules are those before them and theirs
rules_added : (app : App) (arguments : List Argument)
    → with_arguments app arguments ≡ on_top (λ s. record s { rules = s.rules ++ map rule_of_argument arguments }) app
rules_added app [] = ap (λ rules. on_top (λ s. record s { rules = rules }) app) (sym (append-nil app.top.rules))
rules_added app (argument ∷ rest) =
    rules_added (with_rule app (rule_of_argument argument)) rest
    ∙ ap (λ rules. on_top (λ s. record s { rules = rules }) app) (append_assoc app.top.rules (rule_of_argument argument ∷ []) (map rule_of_argument rest))

-- a command that is new has those of a row alone
pub first_added : (row : CommandRow) (new : App) → new ≡ new_app row.name.now → with_arguments new row.arguments.now ≡ app_of_row row
first_added row new is = rules_added new row.arguments.now
    ∙ ap (on_top (λ s. record s { rules = s.rules ++ map rule_of_argument row.arguments.now })) is

-- with the argument at an index, those after it are left to be added
pub one_added : (app : App) (arguments : List Argument) (i : ℕ) (none : Argument) → i < length arguments
    → with_arguments (with_rule app (rule_of_argument (get_or arguments i none))) (drop (i + 1) arguments) ≡ with_arguments app (drop i arguments)
one_added app arguments i none within = rw (add-one, drop-cons arguments i none) refl

-- the program has the command too, of which no argument is global
pub command_added : {old sub new : Command} {app : App} → AddsSubcommand old sub new → app_of sub ≡ app → (fields_of sub).has_globals ≡ false
    → app_of new ≡ with_subcommand (app_of old) app.top
command_added {old = old} adds is local = adds.shape local ∙ ap (λ (a : App). with_subcommand (app_of old) a.top) is

-- with the command of the row at an index, those after it are left to be added
pub row_added : (app : App) (rows : List CommandRow) (i : ℕ) (none : CommandRow) → i < length rows
    → with_rows (with_subcommand app (shape_of_row (get_or rows i none))) (drop (i + 1) rows) ≡ with_rows app (drop i rows)
row_added app rows i none within = rw (add-one, drop-cons rows i none) refl
