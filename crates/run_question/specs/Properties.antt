-- What the words of a property say. docs/EXPLORE.md, Question, has the forms and the causes.
use Rattle.std.specs.Prelude.{ℕ, ◌==◌, Bool, true, false, if◌then◌else◌, List, [], ◌∷◌, length, Option, Some, None, Result, Ok, Err, codes, bytes_eq}
use Rattle.std.specs.Option.{option_map}
use Rattle.text_lines.specs.Text.{hex_number_of}
use Rattle.run_script.specs.Statements.{byte_in, device_in, number_within}
use Rattle.trace_text.specs.declared.kinds.NoteKind.{NoteKind}
use Rattle.trace_text.specs.Kinds.{kind_in}
use Rattle.run_question.specs.declared.asked.Condition.{Condition}
use Rattle.run_question.specs.declared.asked.Fact.{Fact}
use Rattle.run_question.specs.declared.asked.Fact.TheVariants as fact
use Rattle.run_question.specs.declared.asked.TaskFact.{TaskFact}
use Rattle.run_question.specs.declared.asked.TaskFact.TheVariants as task_fact
use Rattle.run_question.specs.declared.asked.Line.{Line}
use Rattle.run_question.specs.declared.asked.Property.{Property}
use Rattle.run_question.specs.declared.asked.Property.TheVariants.{NeverTold, NeverChanged, NeverSo, EndsSo, EndsStill, Answered}
use Rattle.run_question.specs.declared.asked.Test.{Test}
use Rattle.run_question.specs.declared.asked.Test.TheVariants.{Is, Above}

-- ---- numbers

-- eight hexadecimal digits of either case
abbrev pub address_in : List ℕ → Option ℕ
address_in word = if length word == 8 then hex_number_of word else None

abbrev pub task_in : List ℕ → Option ℕ
task_in word = number_within 0 511 word

-- a number of 32 bits
abbrev pub number_in : List ℕ → Option ℕ
number_in word = number_within 0 4294967295 word

abbrev pub turns_in : List ℕ → Option ℕ
turns_in word = number_within 0 1000000000 word

-- ---- what stands at the front of words, and the words behind it

-- none where no form stands there; what it says is none where a number is none or out of range
abbrev pub Front : Type 0 → Type 0
Front A = Option (Option A × List (List ℕ))

abbrev pub test_in : List ℕ → Option Test
test_in word =
    if bytes_eq word (codes "is") then Some Is
    else if bytes_eq word (codes "above") then Some Above
    else None

abbrev pub byte_so : Option ℕ → Test → Option ℕ → Option Fact
byte_so (Some at) test (Some value) = Some (fact.Byte at test value)
byte_so at test value = None

abbrev pub word_so : Option ℕ → Test → Option ℕ → Option Fact
word_so (Some at) test (Some value) = Some (fact.Word at test value)
word_so at test value = None

-- behind `byte`: an address, a test and a value
abbrev pub byte_fact : List (List ℕ) → Front Fact
byte_fact (at ∷ test ∷ value ∷ rest) = option_map (λ t. (byte_so (address_in at) t (byte_in value), rest)) (test_in test)
byte_fact _ = None

-- behind `word`
abbrev pub word_fact : List (List ℕ) → Front Fact
word_fact (at ∷ test ∷ value ∷ rest) = option_map (λ t. (word_so (address_in at) t (number_in value), rest)) (test_in test)
word_fact _ = None

abbrev pub posted_so : Option ℕ → Option ℕ → Option Fact
posted_so (Some task) (Some bits) = Some (fact.Task task (task_fact.Posted bits))
posted_so task bits = None

-- behind `posted`: a task and bits
abbrev pub posted_fact : List (List ℕ) → Front Fact
posted_fact (task ∷ bits ∷ rest) = Some (posted_so (task_in task) (address_in bits), rest)
posted_fact _ = None

-- a task of which something is so
abbrev pub fact_of_task : TaskFact → List (List ℕ) → Front Fact
fact_of_task f (task ∷ rest) = Some (option_map (λ t. fact.Task t f) (task_in task), rest)
fact_of_task f [] = None

-- behind `waiting`: a device
abbrev pub waiting_fact : List (List ℕ) → Front Fact
waiting_fact (device ∷ rest) = Some (option_map (λ d. fact.Waiting d) (device_in device), rest)
waiting_fact [] = None

-- a fact by its first word, with the words behind that
abbrev pub fact_named : List ℕ → List (List ℕ) → Front Fact
fact_named name rest =
    if bytes_eq name (codes "byte") then byte_fact rest
    else if bytes_eq name (codes "word") then word_fact rest
    else if bytes_eq name (codes "posted") then posted_fact rest
    else if bytes_eq name (codes "waiting") then waiting_fact rest
    else if bytes_eq name (codes "well") then fact_of_task task_fact.Well rest
    else if bytes_eq name (codes "ready") then fact_of_task task_fact.Ready rest
    else if bytes_eq name (codes "calling") then fact_of_task task_fact.Calling rest
    else if bytes_eq name (codes "listening") then fact_of_task task_fact.Listening rest
    else None

abbrev pub fact_in : List (List ℕ) → Front Fact
fact_in (name ∷ rest) = fact_named name rest
fact_in [] = None

-- it is so, or it is not
abbrev pub condition_of : Bool → Front Fact → Front Condition
condition_of negated None = None
condition_of negated (Some front) = Some (option_map (λ f. record { negated = negated; fact = f }) front.0, front.1)

-- a condition by its first word: `not` and a fact, or a fact
abbrev pub condition_named : List ℕ → List (List ℕ) → Front Condition
condition_named word rest =
    if bytes_eq word (codes "not") then condition_of true (fact_in rest)
    else condition_of false (fact_named word rest)

-- ---- properties, with cause 2 where the words are no form, and 3 where a number is none or out of range

abbrev pub Asked : Type 0
Asked = Result Property ℕ

abbrev pub line_of : NoteKind → Option ℕ → Line
line_of note number = record { kind = note; number = number }

-- behind `never` and a kind: nothing or a number
abbrev pub told_with : NoteKind → Option ℕ → Asked
told_with note None = Err 3
told_with note (Some number) = Ok (NeverTold (line_of note (Some number)))

abbrev pub told_said : NoteKind → List (List ℕ) → Asked
told_said note [] = Ok (NeverTold (line_of note None))
told_said note (number ∷ []) = told_with note (number_in number)
told_said note _ = Err 2

abbrev pub changed_by : Option ℕ → Option ℕ → Asked
changed_by (Some at) (Some task) = Ok (NeverChanged at (Some task))
changed_by at task = Err 3

abbrev pub changed : Option ℕ → Asked
changed None = Err 3
changed (Some at) = Ok (NeverChanged at None)

-- behind `never change`: an address, and perhaps `but` and a task
abbrev pub change_said : List (List ℕ) → Asked
change_said (at ∷ []) = changed (address_in at)
change_said (at ∷ but ∷ task ∷ []) =
    if bytes_eq but (codes "but") then changed_by (address_in at) (task_in task) else Err 2
change_said _ = Err 2

abbrev pub never_so : Option Condition → Option ℕ → Asked
never_so (Some condition) (Some turns) = Ok (NeverSo condition turns)
never_so condition turns = Err 3

-- behind a condition: nothing, or `for` and turns
abbrev pub lasting_said : Option Condition → List (List ℕ) → Asked
lasting_said condition [] = never_so condition (Some 0)
lasting_said condition (for ∷ turns ∷ []) =
    if bytes_eq for (codes "for") then never_so condition (turns_in turns) else Err 2
lasting_said condition _ = Err 2

abbrev pub so_said : Front Condition → Asked
so_said None = Err 2
so_said (Some front) = lasting_said front.0 front.1

-- behind `never`: a kind or a condition
abbrev pub never_named : Option NoteKind → List ℕ → List (List ℕ) → Asked
never_named None word rest = so_said (condition_named word rest)
never_named (Some note) word rest = told_said note rest

abbrev pub never_said : List (List ℕ) → Asked
never_said [] = Err 2
never_said (word ∷ rest) =
    if bytes_eq word (codes "change") then change_said rest else never_named (kind_in word) word rest

abbrev pub ends_so : Option Condition → List (List ℕ) → Asked
ends_so None [] = Err 3
ends_so (Some condition) [] = Ok (EndsSo condition)
ends_so condition _ = Err 2

abbrev pub ends_if : Front Condition → Asked
ends_if None = Err 2
ends_if (Some front) = ends_so front.0 front.1

-- behind `ends`: `still` or a condition
abbrev pub ends_named : List ℕ → List (List ℕ) → Asked
ends_named word [] = if bytes_eq word (codes "still") then Ok EndsStill else Err 2
ends_named word (next ∷ rest) = ends_if (condition_named word (next ∷ rest))

abbrev pub ends_said : List (List ℕ) → Asked
ends_said [] = Err 2
ends_said (word ∷ rest) = ends_named word rest

-- a kind and a number, and a word behind them
abbrev pub numbered_until : List ℕ → Option NoteKind → Option ℕ → List (List ℕ) → Front Line
numbered_until stop None number rest = None
numbered_until stop (Some note) number [] = None
numbered_until stop (Some note) number (word ∷ rest) =
    if bytes_eq word stop then Some (option_map (λ n. line_of note (Some n)) number, rest) else None

abbrev pub alone_until : Option NoteKind → List (List ℕ) → Front Line
alone_until None rest = None
alone_until (Some note) rest = Some (Some (line_of note None), rest)

-- a kind, perhaps with a number, and a word behind them
abbrev pub line_until : List ℕ → List (List ℕ) → Front Line
line_until stop (kind ∷ next ∷ rest) =
    if bytes_eq next stop then alone_until (kind_in kind) rest
    else numbered_until stop (kind_in kind) (number_in next) rest
line_until stop _ = None

abbrev pub answered : Option Line → Option Line → Option ℕ → Asked
answered (Some line) (Some answer) (Some turns) = Ok (Answered line answer turns)
answered line answer turns = Err 3

abbrev pub within_said : Option Line → Option Line → List (List ℕ) → Asked
within_said line answer (turns ∷ []) = answered line answer (turns_in turns)
within_said line answer _ = Err 2

abbrev pub answer_said : Option Line → Front Line → Asked
answer_said line None = Err 2
answer_said line (Some answer) = within_said line answer.0 answer.1

abbrev pub then_said : Front Line → Asked
then_said None = Err 2
then_said (Some line) = answer_said line.0 (line_until (codes "within") line.1)

-- behind `after`: a line, `then`, a line, `within` and turns
abbrev pub after_said : List (List ℕ) → Asked
after_said words = then_said (line_until (codes "then") words)

-- the property that the words of a line say
abbrev pub property_said : List (List ℕ) → Asked
property_said [] = Err 2
property_said (word ∷ rest) =
    if bytes_eq word (codes "never") then never_said rest
    else if bytes_eq word (codes "ends") then ends_said rest
    else if bytes_eq word (codes "after") then after_said rest
    else Err 2
