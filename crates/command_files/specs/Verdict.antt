-- What a command answers: a status, its text, and the file that it puts.
use Rattle.std.specs.Prelude.{◌≡◌, ℕ, ◌-◌, List, [], ◌++◌, length, map, slice_index_or, codes, decimal, Option, Some, None}
use Rattle.std.specs.List.{range_with_len}
use Rattle.serde_json.specs.Written.{compact_text}
use Rattle.image_format.specs.ImageData.{ImageData, spelling}
use Rattle.image_list.specs.Listing.{listed_object}
use Rattle.board_model.specs.declared.outcomes.End.{End}
use Rattle.board_model.specs.declared.outcomes.End.TheVariants.{Bound, Still, Supervisor}
use Rattle.trace_audit.specs.declared.judgement.Judgement as trace
use Rattle.trace_audit.specs.declared.judgement.Judgement.TheVariants.{Yes, No}
use Rattle.trace_audit.specs.Judgements as trace_audit
use Rattle.command_line.specs.declared.job.CommandName.{CommandName}
use Rattle.help_text.specs.Help.{help_text}
use Rattle.command_files.specs.Contents.{Why, names_in, image_data_of}
use Rattle.command_files.specs.Sources.{IsBuilt, first_of, image_tasks}

pub record Verdict : Type 0 where
  pub status : ℕ
  pub text : List ℕ
  pub put : Option (List ℕ × List ℕ)  -- a name, and what is put under it

-- ## lines

abbrev pub line_alone : ℕ → List ℕ → Verdict
line_alone status line = record { status = status; text = line; put = None }

-- `refused <name> <cause> <place>`
unfoldable pub refused_front : List ℕ → ℕ → List ℕ
refused_front name cause = codes "refused " ++ name ++ codes " " ++ decimal cause ++ codes " "

unfoldable pub refused_line : List ℕ → ℕ → List ℕ → List ℕ
refused_line name cause place = (refused_front name cause ++ place) ++ codes "\n"

-- `cannot read <name>`
unfoldable pub unread_line : List ℕ → List ℕ
unread_line name = codes "cannot read " ++ name ++ codes "\n"

-- `built <length> bytes`
unfoldable pub built_line : ℕ → List ℕ
built_line bytes = codes "built " ++ decimal bytes ++ codes " bytes\n"

-- `saved <length> bytes`
unfoldable pub saved_line : ℕ → List ℕ
saved_line bytes = codes "saved " ++ decimal bytes ++ codes " bytes\n"

-- `traced <length> bytes`
unfoldable pub traced_line : ℕ → List ℕ
traced_line length = codes "traced " ++ decimal length ++ codes " bytes\n"

-- `drawn <length> bytes`
unfoldable pub drawn_line : ℕ → List ℕ
drawn_line length = codes "drawn " ++ decimal length ++ codes " bytes\n"

-- `yes <calls> <left>`
unfoldable pub yes_line : ℕ → ℕ → List ℕ
yes_line calls left = codes "yes " ++ decimal calls ++ codes " " ++ decimal left ++ codes "\n"

-- `no <line>`
unfoldable pub no_line : ℕ → List ℕ
no_line line = codes "no " ++ decimal line ++ codes "\n"

-- ## the verdicts

-- a file is refused, with a cause and a place
abbrev pub refused : List ℕ → Why → Verdict
refused name why = line_alone 1 (refused_line name why.0 why.1)

-- a file cannot be read; this comes after what was written before
abbrev pub unread : List ℕ → List ℕ → Verdict
unread told name = line_alone 3 (told ++ unread_line name)

abbrev pub status_of : End → ℕ
status_of Bound = 0
status_of Still = 0
status_of Supervisor = 6

-- an image was listed
abbrev pub listing_line : ImageData → List ℕ
listing_line image = compact_text (listed_object image) ++ codes "\n"

abbrev pub listed : ImageData → Verdict
listed image = line_alone 0 (listing_line image)

-- an image was built and put under a name
abbrev pub built : List ℕ → ImageData → Verdict
built out image = record { status = 0; text = built_line (length (spelling image)); put = Some (out, spelling image) }

-- a trace was audited: it holds together, or this is the first line that cannot follow
abbrev pub audited : trace.Judgement → Verdict
audited (Yes calls left) = line_alone 0 (yes_line calls left)
audited (No line) = line_alone 7 (no_line line)

-- what the commands are, or what one of them takes and answers, was written
abbrev pub helped : Option CommandName → Verdict
helped about = line_alone 0 (help_text about)

-- ## the names of tasks

-- the name of a task, if no name is known
abbrev pub task_name : ℕ → List ℕ
task_name i = codes "task " ++ decimal i

abbrev pub task_names : ℕ → List (List ℕ)
task_names n = map task_name (range_with_len 0 n)

-- the names of an image's tasks, if the files of a command have these contents: their places, or those of
-- the application in the third file
abbrev pub names_by : Option (List ℕ) → List (List ℕ) → List (List ℕ)
names_by None contents = task_names (image_tasks (first_of contents))
names_by (Some name) contents = names_in (slice_index_or contents 2 [])

-- ## what these commands make of accepted files with these contents

abbrev pub Builds : List ℕ → List (List ℕ) → Verdict → Type 0
Builds out contents v = (image : ImageData) × IsBuilt contents image × (v ≡ built out image)

abbrev pub Lists : List (List ℕ) → Verdict → Type 0
Lists contents v = v ≡ listed (image_data_of (first_of contents))

abbrev pub Migrates : List ℕ → List (List ℕ) → Verdict → Type 0
Migrates out contents v = v ≡ built out (image_data_of (first_of contents))

abbrev pub Audits : List (List ℕ) → Verdict → Type 0
Audits contents v = (found : trace.Judgement) × trace_audit.IsJudgement (first_of contents) found × (v ≡ audited found)

abbrev pub Helps : Option CommandName → List (List ℕ) → Verdict → Type 0
Helps about contents v = v ≡ helped about
