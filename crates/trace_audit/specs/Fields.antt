-- What the words of a line may be, and the forms of lines (docs/FORMATS.md, Trace).
use Rattle.std.specs.Prelude.{ℕ, ◌-◌, ◌+◌, Bool, true, false, ◌==◌, ◌&&◌, ◌||◌, nat_lt, is_some, if◌then◌else◌, List, [], ◌∷◌, length, take, drop, codes, bytes_eq, slice_index, Option, Some, None}
use Rattle.std.specs.List.{list_any, list_all}
use Rattle.text_lines.specs.Text.{is_digit, is_between}
use Rattle.trace_audit.specs.declared.forms.Field.{Field}
use Rattle.trace_audit.specs.declared.forms.Field.TheVariants as field
use Rattle.trace_audit.specs.declared.forms.LineKind.{LineKind}
use Rattle.trace_audit.specs.declared.forms.LineKind.TheVariants as kind
use Rattle.trace_audit.specs.Texts.{plain_number, most_number, most_time}

-- ## words

abbrev pub is_number : ℕ → List ℕ → Bool
is_number max word = is_some (plain_number max word)

-- a digit of either kind: 0 to 9, a to f
abbrev pub is_low_hex : ℕ → Bool
is_low_hex c = is_digit c || is_between 97 102 c

-- n hexadecimal digits, in lower case
unfoldable pub is_hex : ℕ → List ℕ → Bool
is_hex n word = length word == n && list_all is_low_hex word

abbrev pub is_bit : ℕ → Bool
is_bit c = is_between 48 49 c

unfoldable pub are_bits : ℕ → List ℕ → Bool
are_bits n word = length word == n && list_all is_bit word

-- one of these words
abbrev pub is_any_of : List (List ℕ) → List ℕ → Bool
is_any_of names word = list_any (bytes_eq word) names

-- what comes after a prefix, if the word begins with it
unfoldable pub behind : List ℕ → List ℕ → Option (List ℕ)
behind front word = if bytes_eq (take (length front) word) front then Some (drop (length front) word) else None

-- a number of at most max after a prefix
abbrev pub number_in : ℕ → Option (List ℕ) → Option ℕ
number_in max None = None
number_in max (Some word) = plain_number max word

abbrev pub number_behind : List ℕ → List ℕ → Option ℕ
number_behind front word = number_in most_number (behind front word)

abbrev pub is_number_behind : List ℕ → List ℕ → Bool
is_number_behind front word = is_some (number_behind front word)

-- a deadline, a colon and eight digits
unfoldable pub is_timer : List ℕ → Bool
is_timer word =
    let n = length word - 9 in
    nat_lt 9 (length word) && slice_index word n == 58 && is_number most_time (take n word) && is_hex 8 (drop (n + 1) word)

abbrev pub handled_words : List (List ℕ)
handled_words = codes "post" ∷ codes "held" ∷ codes "none" ∷ []

abbrev pub fed_words : List (List ℕ)
fed_words = codes "queued" ∷ codes "full" ∷ codes "none" ∷ []

abbrev pub ending_words : List (List ℕ)
ending_words = codes "reply" ∷ codes "replyfault" ∷ codes "client" ∷ codes "restart" ∷ []

abbrev pub borrow_words : List (List ℕ)
borrow_words = codes "read" ∷ codes "write" ∷ codes "info" ∷ []

abbrev pub end_words : List (List ℕ)
end_words = codes "bound" ∷ codes "still" ∷ codes "supervisor" ∷ []

-- the word may stand in the field
unfoldable pub is_of : Field → List ℕ → Bool
is_of field.Number word = is_number most_number word
is_of field.Time word = is_number most_time word
is_of field.Word word = is_hex 8 word
is_of field.Row word = is_hex 32 word
is_of field.Code word = is_hex 4 word || is_hex 8 word
is_of field.Byte word = is_hex 2 word
is_of field.Flags word = are_bits 4 word
is_of field.Handled word = is_any_of handled_words word
is_of field.Fed word = is_any_of fed_words word
is_of field.Listened word = is_any_of (codes "any" ∷ codes "kernel" ∷ []) word || is_number most_number word
is_of field.Ending word = is_any_of ending_words word
is_of field.Borrow word = is_any_of borrow_words word
is_of field.End word = is_any_of end_words word
is_of field.Health word = is_any_of (codes "well" ∷ codes "stopped" ∷ []) word || is_number_behind (codes "faulted:") word
is_of field.Wait word = is_any_of (codes "-" ∷ codes "listen" ∷ []) word || (is_number_behind (codes "offered:") word || is_number_behind (codes "taken:") word)
is_of field.Timer word = is_any_of (codes "-" ∷ []) word || is_timer word

-- ## lines

-- a text of at least one byte, which is cut at its spaces
abbrev pub has_text : List (List ℕ) → Bool
has_text [] = false
has_text (word ∷ []) = nat_lt 0 (length word)
has_text (word ∷ more ∷ words) = true

abbrev pub are_over : List (List ℕ) → Bool
are_over [] = true
are_over (word ∷ words) = false

-- what may come after the last field: nothing, or a text
abbrev pub is_rest : Bool → List (List ℕ) → Bool
is_rest text words = if text then has_text words else are_over words

-- the words are right for the fields, in order
unfoldable pub are_of : List Field → Bool → List (List ℕ) → Bool
are_of [] text words = is_rest text words
are_of (f ∷ fs) text [] = false
are_of (f ∷ fs) text (word ∷ words) = is_of f word && are_of fs text words

-- the form of a line: its name, what it means, and its fields after the name
pub record LineForm : Type 0 where
  pub name : List ℕ
  pub kind : LineKind
  pub fields : List Field

abbrev pub form : List ℕ → LineKind → List Field → LineForm
form name kind fields = record { name = name; kind = kind; fields = fields }

-- the lines of a turn, without its number
abbrev pub turn_forms : List LineForm
turn_forms =
    form (codes "tick") kind.Plain (field.Time ∷ [])
    ∷ form (codes "irq") kind.Plain (field.Number ∷ field.Handled ∷ [])
    ∷ form (codes "post") kind.Plain (field.Number ∷ field.Word ∷ field.Word ∷ [])
    ∷ form (codes "call") kind.Plain (field.Number ∷ field.Number ∷ field.Word ∷ field.Word ∷ field.Word ∷ field.Word ∷ field.Word ∷ field.Word ∷ field.Word ∷ [])
    ∷ form (codes "offer") kind.Offer (field.Number ∷ field.Number ∷ field.Number ∷ [])
    ∷ form (codes "take") kind.Take (field.Number ∷ field.Number ∷ [])
    ∷ form (codes "listen") kind.Plain (field.Number ∷ field.Listened ∷ field.Word ∷ [])
    ∷ form (codes "borrow") kind.Borrow (field.Number ∷ field.Borrow ∷ field.Number ∷ field.Number ∷ field.Number ∷ [])
    ∷ form (codes "ret") kind.Plain (field.Number ∷ field.Word ∷ field.Word ∷ field.Word ∷ field.Word ∷ field.Word ∷ field.Word ∷ [])
    ∷ form (codes "close") kind.Close (field.Number ∷ field.Ending ∷ [])
    ∷ form (codes "fault") kind.Plain (field.Number ∷ field.Number ∷ field.Word ∷ field.Word ∷ [])
    ∷ form (codes "restart") kind.Plain (field.Number ∷ field.Number ∷ [])
    ∷ form (codes "in") kind.Plain (field.Number ∷ field.Byte ∷ field.Fed ∷ [])
    ∷ form (codes "out") kind.Plain (field.Number ∷ field.Byte ∷ [])
    ∷ form (codes "irqstat") kind.Plain (field.Number ∷ field.Word ∷ field.Number ∷ [])
    ∷ form (codes "find") kind.Plain (field.Number ∷ field.Number ∷ [])
    ∷ form (codes "insn") kind.Insn (field.Number ∷ field.Word ∷ field.Code ∷ [])
    ∷ form (codes "idle") kind.Plain []
    ∷ form (codes "low") kind.Plain (field.Word ∷ field.Word ∷ field.Word ∷ field.Word ∷ field.Word ∷ field.Word ∷ field.Word ∷ field.Word ∷ [])
    ∷ form (codes "high") kind.Plain (field.Word ∷ field.Word ∷ field.Word ∷ field.Word ∷ field.Word ∷ field.Word ∷ field.Word ∷ field.Word ∷ field.Flags ∷ [])
    ∷ []

-- the lines after the end of the turns
abbrev pub last_forms : List LineForm
last_forms =
    form (codes "task") kind.Task (field.Number ∷ field.Number ∷ field.Health ∷ field.Wait ∷ field.Word ∷ field.Timer ∷ [])
    ∷ form (codes "low") kind.Plain (field.Word ∷ field.Word ∷ field.Word ∷ field.Word ∷ field.Word ∷ field.Word ∷ field.Word ∷ field.Word ∷ [])
    ∷ form (codes "high") kind.Plain (field.Word ∷ field.Word ∷ field.Word ∷ field.Word ∷ field.Word ∷ field.Word ∷ field.Word ∷ field.Word ∷ field.Flags ∷ [])
    ∷ form (codes "mem") kind.Plain (field.Word ∷ field.Number ∷ [])
    ∷ []

-- the line that ends the turns
abbrev pub end_form : LineForm
end_form = form (codes "end") kind.Plain (field.End ∷ field.Number ∷ field.Time ∷ [])

abbrev pub form_named : List ℕ → List LineForm → Option LineForm
form_named name [] = None
form_named name (f ∷ fs) = if bytes_eq name f.name then Some f else form_named name fs

-- an instruction ends with its text
abbrev pub ends_with_text : LineKind → Bool
ends_with_text kind.Plain = false
ends_with_text kind.Insn = true
ends_with_text kind.Offer = false
ends_with_text kind.Take = false
ends_with_text kind.Close = false
ends_with_text kind.Borrow = false
ends_with_text kind.Task = false
