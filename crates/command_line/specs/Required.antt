-- What accepted words have: a command, and each value that it requires.
use Rattle.std.specs.Prelude.{◌≡◌, ℕ, Bool, true, false, List, Option, Some, None, codes, is_some}
use Rattle.std.specs.Bool.{⊤}
use Rattle.clap.specs.Walk.{Row, Text, first_of, one_of}
use Rattle.clap.specs.ValueTests.{accepts}
use Rattle.clap.specs.declared.builder.value_parser.ValueParser.TheVariants as parser
use Rattle.command_line.specs.CommandLine.{form_of, most_seed, most_steps}
use Rattle.command_line.specs.declared.job.CommandName.{CommandName}
use Rattle.command_line.specs.declared.job.CommandName.TheVariants as command

-- the words gave a text for the id
abbrev pub HasText : Text → List Row → Type 0
HasText id rows = is_some (first_of id rows) ≡ true

-- a number of 0 to `most` by clap's parser, which reads a `-0` as `0`
abbrev pub is_number : ℕ → Text → Bool
is_number most text = accepts false (parser.Unsigned 0 most) text

abbrev pub IsNumber : ℕ → Option Text → Type 0
IsNumber most None = ⊥
IsNumber most (Some text) = is_number most text ≡ true

-- and one for the id that is a number of turns: 0 to 1,000,000,000
abbrev pub HasTurns : Text → List Row → Type 0
HasTurns id rows = IsNumber most_steps (one_of id rows)

abbrev pub HasSteps : List Row → Type 0
HasSteps rows = HasTurns (codes "steps") rows

-- and a seed: a number of 32 bits
abbrev pub HasSeed : List Row → Type 0
HasSeed rows = IsNumber most_seed (one_of (codes "seed") rows)

-- `true` or `false`, which clap finds for an option without a value
abbrev pub IsSwitch : Option Text → Type 0
IsSwitch None = ⊥
IsSwitch (Some text) = accepts false parser.Bool text ≡ true

pub record IsWholeBuild (rows : List Row) : Type 0 where
  pub app : HasText (codes "app") rows
  pub out : HasText (codes "out") rows

pub record IsWholeRun (rows : List Row) : Type 0 where
  pub image : HasText (codes "image") rows
  pub script : HasText (codes "script") rows
  pub steps : HasSteps rows
  pub all : IsSwitch (first_of (codes "all") rows)
  pub mem : IsSwitch (first_of (codes "mem") rows)

pub record IsWholeGo (rows : List Row) : Type 0 where
  pub app : HasText (codes "app") rows
  pub script : HasText (codes "script") rows
  pub steps : HasSteps rows
  pub all : IsSwitch (first_of (codes "all") rows)
  pub mem : IsSwitch (first_of (codes "mem") rows)

pub record IsWholeList (rows : List Row) : Type 0 where
  pub image : HasText (codes "image") rows

pub record IsWholeSample (rows : List Row) : Type 0 where
  pub seed : HasSeed rows
  pub steps : HasSteps rows

pub record IsWholeMigrate (rows : List Row) : Type 0 where
  pub image : HasText (codes "image") rows
  pub out : HasText (codes "out") rows

pub record IsWholeAudit (rows : List Row) : Type 0 where
  pub trace : HasText (codes "trace") rows

-- of a command that plays a script on an image and puts a file
pub record IsWholePut (rows : List Row) : Type 0 where
  pub image : HasText (codes "image") rows
  pub script : HasText (codes "script") rows
  pub out : HasText (codes "out") rows
  pub steps : HasSteps rows

pub record IsWholeResume (rows : List Row) : Type 0 where
  pub image : HasText (codes "image") rows
  pub script : HasText (codes "script") rows
  pub state : HasText (codes "state") rows
  pub steps : HasSteps rows
  pub all : IsSwitch (first_of (codes "all") rows)
  pub mem : IsSwitch (first_of (codes "mem") rows)

-- of a command that runs an application and puts a file
pub record IsWholeLcov (rows : List Row) : Type 0 where
  pub app : HasText (codes "app") rows
  pub script : HasText (codes "script") rows
  pub out : HasText (codes "out") rows
  pub steps : HasSteps rows

-- of a command that carries out commands over a run
pub record IsWholeSession (rows : List Row) : Type 0 where
  pub image : HasText (codes "image") rows
  pub script : HasText (codes "script") rows
  pub commands : HasText (codes "commands") rows

-- of a run whose instructions are counted
pub record IsWholeCover (rows : List Row) : Type 0 where
  pub image : HasText (codes "image") rows
  pub script : HasText (codes "script") rows
  pub steps : HasSteps rows
  pub labels : IsSwitch (first_of (codes "labels") rows)

-- of a command that plays a script on an image, and requires no more words
pub record IsWholePlay (rows : List Row) : Type 0 where
  pub image : HasText (codes "image") rows
  pub script : HasText (codes "script") rows
  pub steps : HasSteps rows

-- the three numbers of a sweep
pub record AreTurns (rows : List Row) : Type 0 where
  pub from : HasTurns (codes "from") rows
  pub to : HasTurns (codes "to") rows
  pub steps : HasSteps rows

pub record IsWholeSweep (rows : List Row) : Type 0 where
  pub image : HasText (codes "image") rows
  pub script : HasText (codes "script") rows
  pub arrival : HasText (codes "arrival") rows
  pub turns : AreTurns rows
  pub mem : IsSwitch (first_of (codes "mem") rows)

-- the rows have all that a command requires
abbrev pub HoldsAll : CommandName → List Row → Type 0
HoldsAll command.Build rows = IsWholeBuild rows
HoldsAll command.Run rows = IsWholeRun rows
HoldsAll command.Go rows = IsWholeGo rows
HoldsAll command.List rows = IsWholeList rows
HoldsAll command.Sample rows = IsWholeSample rows
HoldsAll command.Migrate rows = IsWholeMigrate rows
HoldsAll command.Audit rows = IsWholeAudit rows
HoldsAll command.Save rows = IsWholePut rows
HoldsAll command.Resume rows = IsWholeResume rows
HoldsAll command.Debug rows = IsWholeSession rows
HoldsAll command.Cover rows = IsWholeCover rows
HoldsAll command.Sweep rows = IsWholeSweep rows
HoldsAll command.Timeline rows = IsWholePlay rows
HoldsAll command.Live rows = IsWholeSession rows
HoldsAll command.Picture rows = IsWholePut rows
HoldsAll command.Lcov rows = IsWholeLcov rows
HoldsAll command.Help rows = ⊤

-- a command of the program, with all that it requires
abbrev pub IsWhole : Option (Text × List Row) → Type 0
IsWhole None = ⊥
IsWhole (Some p) = (c : CommandName) × (p.0 ≡ (form_of c).name) × HoldsAll c p.1
