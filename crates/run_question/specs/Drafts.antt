-- A question that is being read: what the code's statements and drafts say.
use Rattle.std.specs.Prelude.{ℕ, ◌≡◌, ◌+◌, nat_le, if◌then◌else◌, List, Vec, map, Option, Some, None, Result, Ok, Err}
use Rattle.std.specs.Option.{option_map}
use Rattle.run_question.specs.declared.draft.Draft.{Draft}
use Rattle.run_question.specs.declared.statement.Statement.{Statement}
use Rattle.run_question.specs.declared.statement.Statement.TheVariants as code
use Rattle.run_question.specs.declared.question.QuestionFault.{QuestionFault}
use Rattle.run_question.specs.declared.question.QuestionFault.TheVariants as fault
use Rattle.run_script.specs.declared.events.Event.{Event}
use Rattle.run_script.specs.Scripts.{Refusal}
use Rattle.run_question.specs.Questions.{arrival_data, stated_data}
use Rattle.run_question.specs.Reading.{Reading}
use Rattle.run_question.specs.Statements.{Said, Nothing, Arrives, Offers, Asks, Refused}

-- what a statement says
abbrev pub said : Statement → Said
said code.Nothing = Nothing
said (code.Arrives first below may_fail) = Arrives first below may_fail
said (code.Offers turn events) = Offers turn events.items
said (code.Asks property) = Asks property
said (code.Refused cause) = Refused cause

-- the events that come, or the cause
abbrev pub events_said : {Z : Type 0} → Result (Vec Event Z) ℕ → Result (List Event) ℕ
events_said (Ok events) = Ok events.items
events_said (Err cause) = Err cause

-- what is read so far
abbrev pub drafted : Draft → Reading
drafted d = record {
  before = map arrival_data d.before.items;
  last = option_map arrival_data d.last;
  from = d.from;
  events = d.events;
  properties = map stated_data d.properties.items;
}

-- the cause and the line that it states; none for want of memory
abbrev pub stated : QuestionFault → Option Refusal
stated (fault.Refused cause line) = Some (cause, line)
stated fault.Memory = None

-- the fault is the cause with the line, or want of memory
abbrev pub Refuses : {A : Type 0} → QuestionFault → ℕ → Result A ℕ → Type 0
Refuses (fault.Refused cause place) line answer = (place ≡ line) × (answer ≡ Err cause)
Refuses fault.Memory line answer = Unit {0}

-- a count up to `most`, and one more than `most` for every count above
abbrev pub capped : ℕ → ℕ → ℕ
capped most n = if nat_le n most then n else most + 1
