-- What a line says.
use Rattle.std.specs.Prelude.{ℕ, Bool, true, false, ◌==◌, ◌&&◌, ◌||◌, not, if◌then◌else◌, unwrap_or, List, [], ◌∷◌, codes, bytes_eq, slice_index_or, Option, Some, None, option_map}
use Rattle.trace_audit.specs.declared.forms.Field.TheVariants as field
use Rattle.trace_audit.specs.declared.forms.LineKind.{LineKind}
use Rattle.trace_audit.specs.declared.forms.LineKind.TheVariants as kind
use Rattle.trace_audit.specs.declared.reading.TraceLine.{TraceLine}
use Rattle.trace_audit.specs.declared.reading.TraceLine.TheVariants as line
use Rattle.trace_audit.specs.declared.reading.Saying.{Saying}
use Rattle.trace_audit.specs.declared.reading.Saying.TheVariants as saying
use Rattle.trace_audit.specs.declared.reading.FinalWait.{FinalWait}
use Rattle.trace_audit.specs.declared.reading.FinalWait.TheVariants as wait
use Rattle.trace_audit.specs.Texts.{words_of, plain_number, most_number}
use Rattle.trace_audit.specs.Fields.{LineForm, are_of, is_any_of, number_behind, form_named, turn_forms, last_forms, end_form, ends_with_text}

-- the i-th word, and the i-th word as a number
abbrev pub word_at : List (List ℕ) → ℕ → List ℕ
word_at words i = slice_index_or words i []

abbrev pub number_at : List (List ℕ) → ℕ → ℕ
number_at words i = unwrap_or (plain_number most_number (word_at words i)) 0

-- the call was closed by an answer of its server
abbrev pub is_answer : List ℕ → Bool
is_answer word = is_any_of (codes "reply" ∷ codes "replyfault" ∷ []) word

-- what the words after the name of a line of this kind say about calls
abbrev pub saying_of : LineKind → List (List ℕ) → Saying
saying_of kind.Plain words = saying.Nothing
saying_of kind.Insn words = saying.Nothing
saying_of kind.Offer words = saying.Offers (number_at words 0) (number_at words 1)
saying_of kind.Take words = saying.Takes (number_at words 0)
saying_of kind.Close words = saying.Closes (number_at words 0) (is_answer (word_at words 1))
saying_of kind.Borrow words = saying.Borrows (number_at words 0)
saying_of kind.Task words = saying.Nothing

-- a borrow for information moves nothing, from offset 0
abbrev pub moves_nothing : List (List ℕ) → Bool
moves_nothing words = number_at words 3 == 0 && number_at words 4 == 0

abbrev pub is_right : LineKind → List (List ℕ) → Bool
is_right kind.Plain words = true
is_right kind.Insn words = true
is_right kind.Offer words = true
is_right kind.Take words = true
is_right kind.Close words = true
is_right kind.Borrow words = not (bytes_eq (word_at words 1) (codes "info")) || moves_nothing words
is_right kind.Task words = true

-- the words after a name are right for its form
abbrev pub fits : LineForm → List (List ℕ) → Bool
fits f words = are_of f.fields (ends_with_text f.kind) words && is_right f.kind words

abbrev pub fitting : List (List ℕ) → Option LineForm → Option LineForm
fitting words None = None
fitting words (Some f) = if fits f words then Some f else None

-- the form with this name, if the words after it fit
abbrev pub form_of : List LineForm → List ℕ → List (List ℕ) → Option LineForm
form_of forms name words = fitting words (form_named name forms)

-- a line of a turn
abbrev pub told : Option ℕ → List (List ℕ) → Option LineForm → Option TraceLine
told None words f = None
told (Some turn) words None = None
told (Some turn) words (Some f) = Some (line.Tells turn (saying_of f.kind words))

unfoldable pub turn_line : List (List ℕ) → Option TraceLine
turn_line [] = None
turn_line (turn ∷ []) = None
turn_line (turn ∷ name ∷ words) = told (plain_number most_number turn) words (form_of turn_forms name words)

-- what a task waits for
abbrev pub wait_by : Option ℕ → Option ℕ → FinalWait
wait_by (Some k) taken = wait.Offered k
wait_by None (Some k) = wait.Taken k
wait_by None None = wait.Other

unfoldable pub wait_of : List ℕ → FinalWait
wait_of word = wait_by (number_behind (codes "offered:") word) (number_behind (codes "taken:") word)

abbrev pub shown_by : LineKind → List (List ℕ) → TraceLine
shown_by kind.Plain words = line.Shows
shown_by kind.Insn words = line.Shows
shown_by kind.Offer words = line.Shows
shown_by kind.Take words = line.Shows
shown_by kind.Close words = line.Shows
shown_by kind.Borrow words = line.Shows
shown_by kind.Task words = line.Waits (number_at words 0) (wait_of (word_at words 3))

-- a line after the end of the turns: a line with a name, or the bytes at an address
abbrev pub shown : List (List ℕ) → Option LineForm → Option TraceLine
shown words None = None
shown words (Some f) = Some (shown_by f.kind words)

abbrev pub row_of : List (List ℕ) → Option TraceLine
row_of words = if are_of (field.Word ∷ field.Row ∷ []) false words then Some line.Shows else None

abbrev pub or_else : Option TraceLine → Option TraceLine → Option TraceLine
or_else (Some l) other = Some l
or_else None other = other

unfoldable pub last_line : List (List ℕ) → Option TraceLine
last_line [] = None
last_line (name ∷ words) = or_else (shown words (form_of last_forms name words)) (row_of (name ∷ words))

-- the end of the turns
unfoldable pub end_line : List (List ℕ) → Option TraceLine
end_line [] = None
end_line (name ∷ words) = option_map (λ f. line.Ends) (form_of (end_form ∷ []) name words)

-- what a line says; it is strange if it has no form
unfoldable pub read : List ℕ → TraceLine
read text = let words = words_of text in
    unwrap_or (or_else (end_line words) (or_else (turn_line words) (last_line words))) line.Strange
