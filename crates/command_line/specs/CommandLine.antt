-- The command line: the definition for `clap`, which words it accepts, and what they ask for.
-- docs/FORMATS.md, Command line. The crate `clap` defines how a definition reads words: its specs/Simple.antt
-- (what building adds), specs/Walk.antt (the walk over the words) and specs/Faults.antt (what is refused).
use Rattle.std.specs.Prelude.{ℕ, Bool, ◌&&◌, pos, true, false, List, [], ◌∷◌, Option, Some, None, codes, unwrap_or, is_some, option_map, option_and_then, find, map}
use Rattle.std.specs.Str.{bytes_eq}
use Rattle.std.specs.Str.Parse.{digits_value, without_leading_plus}
use Rattle.clap.specs.Walk.{Row, Rule, Text, first_of, one_of}
use Rattle.clap.specs.Simple.{App, Shape, new_rule, new_shape, subcommand_of}
use Rattle.clap.specs.Faults.{fault_of}
use Rattle.clap.specs.Kinds.{Kinds}
use Rattle.clap.specs.declared.builder.action.ArgAction.TheVariants.{SetTrue}
use Rattle.clap.specs.declared.builder.value_parser.ValueParser.{ValueParser}
use Rattle.clap.specs.declared.builder.value_parser.ValueParser.TheVariants as parser
use Rattle.command_line.specs.declared.job.CommandName.{CommandName}
use Rattle.command_line.specs.declared.job.CommandName.TheVariants as command
use Rattle.command_line.specs.declared.job.Detail.{Detail}

-- ---- what clap is told

-- the most turns that a run may be asked for
abbrev pub most_steps : ℕ
most_steps = 1000000000

-- the greatest seed of a sample
abbrev pub most_seed : ℕ
most_seed = 4294967295

-- a number of 0 to `most`
abbrev pub number_parser : ℕ → ValueParser
number_parser most = parser.Signed (pos 0) (pos most)

-- a word that must be there (`Arg::new(name).required(true)`)
abbrev pub positional_rule : Text → Rule
positional_rule name = record (new_rule name) { required = true }

-- a word that must be there, and is a number of 0 to `most`
abbrev pub number_rule : Text → ℕ → Rule
number_rule name most = record (positional_rule name) { parser = Some (number_parser most) }

-- a word that must be there, and is the number of a turn
abbrev pub turn_rule : Text → Rule
turn_rule name = number_rule name most_steps

-- `--steps N`, which must be there too
abbrev pub steps_rule : Rule
steps_rule = record (new_rule (codes "steps")) {
  long = Some (codes "steps");
  required = true;
  parser = Some (number_parser most_steps);
}

-- `--NAME VALUE`, which may be left out
abbrev pub option_rule : Text → Rule
option_rule name = record (new_rule name) { long = Some name }

-- `--NAME`, without a value
abbrev pub flag_rule : Text → Rule
flag_rule name = record (new_rule name) { long = Some name; action = Some SetTrue }

-- ---- what clap finds

-- What clap found for an id. The default values here are never used for words that are accepted
-- (specs/Required.antt).
abbrev pub text_in : Text → List Row → Text
text_in id rows = unwrap_or (first_of id rows) []

abbrev pub is_set : Text → List Row → Bool
is_set id rows = bytes_eq (text_in id rows) (codes "true")

abbrev pub number_of : Text → ℕ
number_of text = digits_value 10 (without_leading_plus text)

abbrev pub number_in : Text → List Row → ℕ
number_in id rows = number_of (unwrap_or (one_of id rows) [])

-- ---- the commands

-- What the program may be asked for, with the values of each command. Runs have at most the given number of turns.
-- Build an application, and write the image to a file. Run an image with a script, in some detail. Do the same with
-- an application. List an image. Run the sample of a seed, and count its notes. Write an image in the form in which
-- images are built, to a file. Check whether a trace can be that of a whole run. Save the state of a run of an image
-- with a script to a file. Resume a run of an image with a script from the state in a file, up to a turn, in some
-- detail. Carry out the commands in a file over a run. Count how often a run executes each instruction; with labels,
-- the run is that of an application. Say how runs end in which the events of another script come too, from each turn
-- of a range on, and whether with the memory. Write a run as events for a viewer, with the names of an application or
-- without. Carry out the lines of a file over a run as they come. Draw a run as a picture in a file, with the names
-- of an application or without. Write to a file how often a run of an application executes each line of its sources.
-- Say what the commands are, or what one of them takes and answers.
pub data Asked : Type 0 where
  build : Text → Text → Asked
  run : Text → Text → ℕ → Detail → Asked
  go : Text → Text → ℕ → Detail → Asked
  list : Text → Asked
  sample : ℕ → ℕ → Asked
  migrate : Text → Text → Asked
  audit : Text → Asked
  save : Text → Text → Text → ℕ → Asked
  resume : Text → Text → Text → ℕ → Detail → Asked
  debug : Text → Text → Text → Asked
  cover : Text → Text → ℕ → Bool → Asked
  sweep : Text → Text → Text → ℕ → ℕ → ℕ → Bool → Asked
  timeline : Text → Text → ℕ → Option Text → Asked
  live : Text → Text → Text → Asked
  picture : Text → Text → Text → ℕ → Option Text → Asked
  lcov : Text → Text → Text → ℕ → Asked
  help : Option CommandName → Asked

-- `--all` and `--mem`
abbrev pub detail_in : List Row → Detail
detail_in rows = record { instructions = is_set (codes "all") rows; memory = is_set (codes "mem") rows }

-- the form of a command: its name, its arguments, and what they ask for, if they ask for anything
pub record Form : Type 0 where
  pub name : Text
  pub rules : List Rule
  pub asks : List Row → Option Asked

-- `build APP OUT`
abbrev pub build_form : Form
build_form = record {
  name = codes "build";
  rules = positional_rule (codes "app") ∷ positional_rule (codes "out") ∷ [];
  asks = λ rows. Some (build (text_in (codes "app") rows) (text_in (codes "out") rows));
}

-- what a command that runs something asks for, given its subject, its script, the largest number of turns,
-- and the detail
abbrev pub Running : Type 0
Running = Text → Text → ℕ → Detail → Asked

-- `NAME SUBJECT SCRIPT --steps N [--all] [--mem]`
abbrev pub running_form : Text → Text → Running → Form
running_form name subject asked = record {
  name = name;
  rules = positional_rule subject ∷ positional_rule (codes "script") ∷ steps_rule ∷ flag_rule (codes "all") ∷ flag_rule (codes "mem") ∷ [];
  asks = λ rows. Some (asked (text_in subject rows) (text_in (codes "script") rows) (number_in (codes "steps") rows) (detail_in rows));
}

-- `run IMAGE SCRIPT --steps N [--all] [--mem]`
abbrev pub run_form : Form
run_form = running_form (codes "run") (codes "image") run

-- `go APP SCRIPT --steps N [--all] [--mem]`
abbrev pub go_form : Form
go_form = running_form (codes "go") (codes "app") go

-- `list IMAGE`
abbrev pub list_form : Form
list_form = record {
  name = codes "list";
  rules = positional_rule (codes "image") ∷ [];
  asks = λ rows. Some (list (text_in (codes "image") rows));
}

-- `sample SEED STEPS`
abbrev pub sample_form : Form
sample_form = record {
  name = codes "sample";
  rules = number_rule (codes "seed") most_seed ∷ number_rule (codes "steps") most_steps ∷ [];
  asks = λ rows. Some (sample (number_in (codes "seed") rows) (number_in (codes "steps") rows));
}

-- `migrate IMAGE OUT`
abbrev pub migrate_form : Form
migrate_form = record {
  name = codes "migrate";
  rules = positional_rule (codes "image") ∷ positional_rule (codes "out") ∷ [];
  asks = λ rows. Some (migrate (text_in (codes "image") rows) (text_in (codes "out") rows));
}

-- `audit TRACE`
abbrev pub audit_form : Form
audit_form = record {
  name = codes "audit";
  rules = positional_rule (codes "trace") ∷ [];
  asks = λ rows. Some (audit (text_in (codes "trace") rows));
}

-- `save IMAGE SCRIPT OUT --steps N`
abbrev pub save_form : Form
save_form = record {
  name = codes "save";
  rules = positional_rule (codes "image") ∷ positional_rule (codes "script") ∷ positional_rule (codes "out") ∷ steps_rule ∷ [];
  asks = λ rows. Some (save (text_in (codes "image") rows) (text_in (codes "script") rows) (text_in (codes "out") rows) (number_in (codes "steps") rows));
}

-- `resume IMAGE SCRIPT STATE --steps N [--all] [--mem]`
abbrev pub resume_form : Form
resume_form = record {
  name = codes "resume";
  rules = positional_rule (codes "image") ∷ positional_rule (codes "script") ∷ positional_rule (codes "state") ∷ steps_rule ∷ flag_rule (codes "all") ∷ flag_rule (codes "mem") ∷ [];
  asks = λ rows. Some (resume (text_in (codes "image") rows) (text_in (codes "script") rows) (text_in (codes "state") rows) (number_in (codes "steps") rows) (detail_in rows));
}

-- `debug IMAGE SCRIPT COMMANDS`
abbrev pub debug_form : Form
debug_form = record {
  name = codes "debug";
  rules = positional_rule (codes "image") ∷ positional_rule (codes "script") ∷ positional_rule (codes "commands") ∷ [];
  asks = λ rows. Some (debug (text_in (codes "image") rows) (text_in (codes "script") rows) (text_in (codes "commands") rows));
}

-- `cover IMAGE SCRIPT --steps N [--labels]`
abbrev pub cover_form : Form
cover_form = record {
  name = codes "cover";
  rules = positional_rule (codes "image") ∷ positional_rule (codes "script") ∷ steps_rule ∷ flag_rule (codes "labels") ∷ [];
  asks = λ rows. Some (cover (text_in (codes "image") rows) (text_in (codes "script") rows) (number_in (codes "steps") rows) (is_set (codes "labels") rows));
}

-- `sweep IMAGE SCRIPT ARRIVAL FROM TO --steps N [--mem]`
abbrev pub sweep_form : Form
sweep_form = record {
  name = codes "sweep";
  rules = positional_rule (codes "image") ∷ positional_rule (codes "script") ∷ positional_rule (codes "arrival") ∷ turn_rule (codes "from") ∷ turn_rule (codes "to") ∷ steps_rule ∷ flag_rule (codes "mem") ∷ [];
  asks = λ rows. Some (sweep (text_in (codes "image") rows) (text_in (codes "script") rows) (text_in (codes "arrival") rows) (number_in (codes "from") rows) (number_in (codes "to") rows) (number_in (codes "steps") rows) (is_set (codes "mem") rows));
}

-- `timeline IMAGE SCRIPT --steps N [--names APP]`
abbrev pub timeline_form : Form
timeline_form = record {
  name = codes "timeline";
  rules = positional_rule (codes "image") ∷ positional_rule (codes "script") ∷ steps_rule ∷ option_rule (codes "names") ∷ [];
  asks = λ rows. Some (timeline (text_in (codes "image") rows) (text_in (codes "script") rows) (number_in (codes "steps") rows) (first_of (codes "names") rows));
}

-- `live IMAGE SCRIPT COMMANDS`
abbrev pub live_form : Form
live_form = record {
  name = codes "live";
  rules = positional_rule (codes "image") ∷ positional_rule (codes "script") ∷ positional_rule (codes "commands") ∷ [];
  asks = λ rows. Some (live (text_in (codes "image") rows) (text_in (codes "script") rows) (text_in (codes "commands") rows));
}

-- `picture IMAGE SCRIPT OUT --steps N [--names APP]`
abbrev pub picture_form : Form
picture_form = record {
  name = codes "picture";
  rules = positional_rule (codes "image") ∷ positional_rule (codes "script") ∷ positional_rule (codes "out") ∷ steps_rule ∷ option_rule (codes "names") ∷ [];
  asks = λ rows. Some (picture (text_in (codes "image") rows) (text_in (codes "script") rows) (text_in (codes "out") rows) (number_in (codes "steps") rows) (first_of (codes "names") rows));
}

-- `lcov APP SCRIPT OUT --steps N`
abbrev pub lcov_form : Form
lcov_form = record {
  name = codes "lcov";
  rules = positional_rule (codes "app") ∷ positional_rule (codes "script") ∷ positional_rule (codes "out") ∷ steps_rule ∷ [];
  asks = λ rows. Some (lcov (text_in (codes "app") rows) (text_in (codes "script") rows) (text_in (codes "out") rows) (number_in (codes "steps") rows));
}

-- the commands by their names
abbrev pub commands : List (Text × CommandName)
commands = (codes "build", command.Build) ∷ (codes "run", command.Run) ∷ (codes "go", command.Go) ∷ (codes "list", command.List)
    ∷ (codes "sample", command.Sample) ∷ (codes "migrate", command.Migrate) ∷ (codes "audit", command.Audit) ∷ (codes "save", command.Save)
    ∷ (codes "resume", command.Resume) ∷ (codes "debug", command.Debug) ∷ (codes "cover", command.Cover) ∷ (codes "sweep", command.Sweep) ∷ (codes "timeline", command.Timeline)
    ∷ (codes "live", command.Live) ∷ (codes "picture", command.Picture) ∷ (codes "lcov", command.Lcov) ∷ (codes "help", command.Help) ∷ []

-- the one of these commands that a word names
abbrev pub named_in : List (Text × CommandName) → Text → Option CommandName
named_in known word = option_map (λ c. c.1) (find (λ c. bytes_eq word c.0) known)

-- the command that a word names
abbrev pub command_by : Text → Option CommandName
command_by word = named_in commands word

-- what `help` with this word, or without one, asks for: nothing if the word names no command
abbrev pub help_on : Option Text → Option Asked
help_on None = Some (help None)
help_on (Some word) = option_map (λ c. help (Some c)) (command_by word)

-- `help [COMMAND]`
abbrev pub help_form : Form
help_form = record {
  name = codes "help";
  rules = new_rule (codes "command") ∷ [];
  asks = λ rows. help_on (first_of (codes "command") rows);
}

-- the form of a command
abbrev pub form_of : CommandName → Form
form_of command.Build = build_form
form_of command.Run = run_form
form_of command.Go = go_form
form_of command.List = list_form
form_of command.Sample = sample_form
form_of command.Migrate = migrate_form
form_of command.Audit = audit_form
form_of command.Save = save_form
form_of command.Resume = resume_form
form_of command.Debug = debug_form
form_of command.Cover = cover_form
form_of command.Sweep = sweep_form
form_of command.Timeline = timeline_form
form_of command.Live = live_form
form_of command.Picture = picture_form
form_of command.Lcov = lcov_form
form_of command.Help = help_form

abbrev pub forms : List Form
forms = build_form ∷ run_form ∷ go_form ∷ list_form ∷ sample_form ∷ migrate_form ∷ audit_form ∷ save_form ∷ resume_form ∷ debug_form ∷ cover_form ∷ sweep_form ∷ timeline_form ∷ live_form ∷ picture_form ∷ lcov_form ∷ help_form ∷ []

-- ---- the program

abbrev pub shape_of_form : Form → Shape
shape_of_form form = record (new_shape form.name) { rules = form.rules }

-- a command by itself, as clap's value
abbrev pub app_of_form : Form → App
app_of_form form = record { top = shape_of_form form; subs = [] }

-- `hubris` before its commands are added, one of which is required; `help` is a command of the program, not
-- that of clap
abbrev pub bare_app : App
bare_app = record { top = record (new_shape (codes "hubris")) { subcommand_required = true; disable_help_subcommand = true }; subs = [] }

-- `hubris`, with its commands, one of which is required
abbrev pub hubris_app : App
hubris_app = record {
  top = record (new_shape (codes "hubris")) { is_leaf = false; subcommand_required = true; disable_help_subcommand = true };
  subs = map shape_of_form forms;
}

abbrev pub has_none : Kinds → Bool
has_none [] = true
has_none (kind ∷ more) = false

-- what the command of this name asks for
abbrev pub asked_by : Text → List Row → Option Asked
asked_by name rows = option_and_then (λ form. form.asks rows) (find (λ form. bytes_eq form.name name) forms)

-- what the words ask for, if they are accepted
abbrev pub job_of : List Text → Option Asked
job_of words = option_and_then (λ p. asked_by p.0 p.1) (subcommand_of hubris_app words)

-- no step of clap's reading of the definition refuses the words, and they ask for something; the first is the program's name
abbrev pub is_accepted : List Text → Bool
is_accepted words = has_none (fault_of hubris_app words) && is_some (job_of words)
