-- Why a question is refused beside a script and a board (docs/EXPLORE.md, Question, causes 6 and 7).
use Rattle.std.specs.Prelude.{ℕ, ◌+◌, ◌-◌, ◌==◌, ◌&&◌, ◌||◌, nat_le, nat_lt, max, Bool, true, not, if◌then◌else◌, List, length, map, fold, find, sum_by, Option, Some, None, is_some}
use Rattle.std.specs.List.{count_by, list_any}
use Rattle.std.specs.Option.{option_map}
use Rattle.mem_banks.specs.Memory.{byte_at}
use Rattle.task_table.specs.model.State.{State}
use Rattle.trace_text.specs.declared.kinds.NoteKind.{NoteKind}
use Rattle.trace_text.specs.declared.kinds.NoteKind.TheVariants as kind
use Rattle.run_script.specs.Scripts.{Listed, Refusal, ScriptData}
use Rattle.run_question.specs.Questions.{Arrival, Question, Stated}
use Rattle.run_question.specs.declared.asked.Fact.{Fact}
use Rattle.run_question.specs.declared.asked.Fact.TheVariants as fact
use Rattle.run_question.specs.declared.asked.Line.{Line}
use Rattle.run_question.specs.declared.asked.Property.{Property}
use Rattle.run_question.specs.declared.asked.Property.TheVariants as property

-- ## cause 6: schedules that are no scripts

-- the turns of listed events; and of an arrival's events, which count from it
abbrev pub turns_listed : List Listed → List ℕ
turns_listed events = map (λ d. d.0) events

abbrev pub turns_offered : Arrival → List ℕ
turns_offered a = map (λ o. o.turn) a.offers

-- how often a turn is among some
abbrev pub times_in : List ℕ → ℕ → ℕ
times_in turns turn = count_by (λ t. t == turn) turns

-- how often the one is that is there the most often
abbrev pub most_of_turn : List ℕ → ℕ
most_of_turn turns = fold (λ most turn. max most (times_in turns turn)) 0 turns

-- the most of one turn, of a script and of each arrival, together
abbrev pub most_together : ScriptData → List Arrival → ℕ
most_together script arrivals = most_of_turn (turns_listed script.events) + sum_by (λ a. most_of_turn (turns_offered a)) arrivals

-- all events together
abbrev pub all_together : ScriptData → List Arrival → ℕ
all_together script arrivals = length script.events + sum_by (λ a. length a.offers) arrivals

-- it is after the last turn of a run
abbrev pub is_late : ℕ → Bool
is_late turn = nat_lt 999999999 turn

-- where it comes in the last turn of its range, one of its events is late
abbrev pub may_be_late : Arrival → Bool
may_be_late a = list_any (λ o. is_late (a.below - 1 + o.turn)) a.offers

abbrev pub are_no_scripts : ScriptData → List Arrival → Bool
are_no_scripts script arrivals =
    nat_lt 8 (most_together script arrivals)
    || nat_lt 65536 (all_together script arrivals)
    || list_any (λ d. is_late d.0) script.events
    || list_any may_be_late arrivals

-- ## cause 7: a property of what there is not

abbrev pub has_task : State → ℕ → Bool
has_task s task = nat_lt task (length s.tasks)

abbrev pub has_device : State → ℕ → Bool
has_device s device = nat_lt device (length s.devices)

abbrev pub has_byte_at : State → ℕ → Bool
has_byte_at s at = is_some (byte_at s.memory at)

-- four bytes from an address of 32 bits on, which are all in the flash or all in the RAM
abbrev pub has_word_at : State → ℕ → Bool
has_word_at s at = nat_lt (at + 3) 4294967296 && has_byte_at s at && has_byte_at s (at + 3) && (nat_lt (at + 3) 0x20000000 || nat_le 0x20000000 at)

-- there is what the first number behind a kind names, if it is a task or a device
abbrev pub has_named : State → NoteKind → ℕ → Bool
has_named s kind.Post task = has_task s task
has_named s kind.Call task = has_task s task
has_named s kind.Ret task = has_task s task
has_named s kind.Listen task = has_task s task
has_named s kind.Fault task = has_task s task
has_named s kind.Restart task = has_task s task
has_named s kind.IrqStatus task = has_task s task
has_named s kind.In device = has_device s device
has_named s kind.Out device = has_device s device
has_named s _ number = true

abbrev pub has_number : State → NoteKind → Option ℕ → Bool
has_number s named None = true
has_number s named (Some number) = has_named s named number

abbrev pub has_line : State → Line → Bool
has_line s line = has_number s line.kind line.number

abbrev pub has_fact : State → Fact → Bool
has_fact s (fact.Byte at test value) = has_byte_at s at
has_fact s (fact.Word at test value) = has_word_at s at
has_fact s (fact.Task task f) = has_task s task
has_fact s (fact.Waiting device) = has_device s device

-- the task that may change a byte, if one may
abbrev pub has_changer : State → Option ℕ → Bool
has_changer s None = true
has_changer s (Some task) = has_task s task

-- all that a property speaks of is there
abbrev pub has_all_of : State → Property → Bool
has_all_of s (property.NeverTold line) = has_line s line
has_all_of s (property.NeverChanged at but) = has_byte_at s at && has_changer s but
has_all_of s (property.NeverSo c turns) = has_fact s c.fact
has_all_of s (property.EndsSo c) = has_fact s c.fact
has_all_of s property.EndsStill = true
has_all_of s (property.Answered line answer turns) = has_line s line && has_line s answer

abbrev pub first_unknown : State → List Stated → Option Stated
first_unknown s properties = find (λ p. not (has_all_of s p.property)) properties

-- ## a cause and a line

abbrev pub question_refusal : State → ScriptData → Question → Option Refusal
question_refusal s script q =
    if are_no_scripts script q.arrivals then Some (6, 0)
    else option_map (λ p. (7, p.line)) (first_unknown s q.properties)
