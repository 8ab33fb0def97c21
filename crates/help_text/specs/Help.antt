-- The text of `help`, by what it is asked about. Its lines are in src/texts.rt, which is generated from the
-- tables of docs/FORMATS.md.
use Rattle.std.specs.Prelude.{ℕ, List, [], ◌∷◌, map, Option, Some, None}
use Rattle.std.specs.List.{flat_map}
use Rattle.command_line.specs.declared.job.CommandName.{CommandName}
use Rattle.command_line.specs.declared.job.CommandName.TheVariants as command
use Rattle.help_text.specs.declared.texts.TheConstants.{COMMANDS, BUILD, RUN, GO, LIST, SAMPLE, MIGRATE, AUDIT, SAVE, RESUME, DEBUG, COVER, SWEEP, TIMELINE, LIVE, PICTURE, LCOV, HELP, LIMITS, STATUSES, SESSION, OUTCOMES, IMAGE_CAUSES, SCRIPT_CAUSES, APPLICATION_CAUSES, SOURCE_CAUSES, TRACE_CAUSES, STATE_CAUSES, COMMANDS_CAUSES, LINE_CAUSES, ARRIVAL_CAUSES}

-- the lines of a part
abbrev pub lines : record { now : List (record { now : List ℕ }) } → List (List ℕ)
lines part = map (λ line. line.now) part.now

-- the parts for a command: what it does, takes and writes (for a session also each of its commands, for a
-- sweep also each line and word), the limits, the statuses, and the causes of its files
unfoldable pub parts_on : CommandName → List (List (List ℕ))
parts_on command.Build = lines BUILD ∷ lines LIMITS ∷ lines STATUSES ∷ lines APPLICATION_CAUSES ∷ lines SOURCE_CAUSES ∷ []
parts_on command.Run = lines RUN ∷ lines LIMITS ∷ lines STATUSES ∷ lines IMAGE_CAUSES ∷ lines SCRIPT_CAUSES ∷ []
parts_on command.Go = lines GO ∷ lines LIMITS ∷ lines STATUSES ∷ lines APPLICATION_CAUSES ∷ lines SOURCE_CAUSES ∷ lines SCRIPT_CAUSES ∷ []
parts_on command.List = lines LIST ∷ lines LIMITS ∷ lines STATUSES ∷ lines IMAGE_CAUSES ∷ []
parts_on command.Sample = lines SAMPLE ∷ lines LIMITS ∷ lines STATUSES ∷ []
parts_on command.Migrate = lines MIGRATE ∷ lines LIMITS ∷ lines STATUSES ∷ lines IMAGE_CAUSES ∷ []
parts_on command.Audit = lines AUDIT ∷ lines LIMITS ∷ lines STATUSES ∷ lines TRACE_CAUSES ∷ []
parts_on command.Save = lines SAVE ∷ lines LIMITS ∷ lines STATUSES ∷ lines IMAGE_CAUSES ∷ lines SCRIPT_CAUSES ∷ []
parts_on command.Resume = lines RESUME ∷ lines LIMITS ∷ lines STATUSES ∷ lines IMAGE_CAUSES ∷ lines SCRIPT_CAUSES ∷ lines STATE_CAUSES ∷ []
parts_on command.Debug = lines DEBUG ∷ lines SESSION ∷ lines LIMITS ∷ lines STATUSES ∷ lines IMAGE_CAUSES ∷ lines SCRIPT_CAUSES ∷ lines COMMANDS_CAUSES ∷ []
parts_on command.Cover = lines COVER ∷ lines LIMITS ∷ lines STATUSES ∷ lines IMAGE_CAUSES ∷ lines SCRIPT_CAUSES ∷ lines APPLICATION_CAUSES ∷ lines SOURCE_CAUSES ∷ []
parts_on command.Sweep = lines SWEEP ∷ lines OUTCOMES ∷ lines LIMITS ∷ lines STATUSES ∷ lines IMAGE_CAUSES ∷ lines SCRIPT_CAUSES ∷ lines ARRIVAL_CAUSES ∷ []
parts_on command.Timeline = lines TIMELINE ∷ lines LIMITS ∷ lines STATUSES ∷ lines IMAGE_CAUSES ∷ lines SCRIPT_CAUSES ∷ lines APPLICATION_CAUSES ∷ []
parts_on command.Live = lines LIVE ∷ lines SESSION ∷ lines LIMITS ∷ lines STATUSES ∷ lines IMAGE_CAUSES ∷ lines SCRIPT_CAUSES ∷ lines LINE_CAUSES ∷ []
parts_on command.Picture = lines PICTURE ∷ lines LIMITS ∷ lines STATUSES ∷ lines IMAGE_CAUSES ∷ lines SCRIPT_CAUSES ∷ lines APPLICATION_CAUSES ∷ []
parts_on command.Lcov = lines LCOV ∷ lines LIMITS ∷ lines STATUSES ∷ lines APPLICATION_CAUSES ∷ lines SOURCE_CAUSES ∷ lines SCRIPT_CAUSES ∷ []
parts_on command.Help = lines HELP ∷ lines STATUSES ∷ []

-- the parts for the list of commands, or for one command
unfoldable pub parts_of : Option CommandName → List (List (List ℕ))
parts_of None = lines COMMANDS ∷ []
parts_of (Some command) = parts_on command

-- the lines one after the other, each with its line end
abbrev pub text : List (List ℕ) → List ℕ
text part = flat_map (λ line. line) part

abbrev pub help_text : Option CommandName → List ℕ
help_text about = flat_map text (parts_of about)
