-- What a line of commands says. docs/FORMATS.md, Commands, has the forms and the causes.
use Rattle.std.specs.Prelude.{ℕ, ◌==◌, ◌||◌, not, Bool, if◌then◌else◌, List, [], ◌∷◌, length, Option, Some, None, Result, Ok, Err, codes, bytes_eq}
use Rattle.std.specs.List.{list_all}
use Rattle.std.specs.Option.{option_map}
use Rattle.text_lines.specs.Text.{hex_number_of}
use Rattle.run_script.specs.Words.{is_allowed, words}
use Rattle.run_script.specs.Statements.{number_within, starts_by_hash}
use Rattle.trace_text.specs.declared.kinds.NoteKind.{NoteKind}
use Rattle.trace_text.specs.Kinds.{kind_in}
use Rattle.debug_core.specs.declared.command.Command.{Command}
use Rattle.debug_core.specs.declared.command.Command.TheVariants.{Break, Clear, Step, Back, Go, At, GoFor, BackFor, Notes, Help, Quit, Regs, Task, Irq, Device, Mem}
use Rattle.debug_core.specs.declared.command.Sought.{Sought}
use Rattle.debug_core.specs.declared.command.Sought.TheVariants as sought

-- a command, no command, or the cause for which the line is refused
abbrev pub Said : Type 0
Said = Result (Option Command) ℕ

-- ---- numbers

-- eight hexadecimal digits of either case
abbrev pub address_in : List ℕ → Option ℕ
address_in word = if length word == 8 then hex_number_of word else None

abbrev pub turns_in : List ℕ → Option ℕ
turns_in word = number_within 0 1000000000 word

abbrev pub task_in : List ℕ → Option ℕ
task_in word = number_within 0 511 word

-- the number of an interrupt line, and that of a device
abbrev pub line_in : List ℕ → Option ℕ
line_in word = number_within 0 63 word

abbrev pub device_in : List ℕ → Option ℕ
device_in word = number_within 0 7 word

-- a number of 32 bits
abbrev pub number_in : List ℕ → Option ℕ
number_in word = number_within 0 4294967295 word

abbrev pub length_in : List ℕ → Option ℕ
length_in word = number_within 1 64 word

-- ---- the forms; cause 3 if a word is not a number or the number is out of range

abbrev pub with_number : (ℕ → Command) → Option ℕ → Said
with_number command None = Err 3
with_number command (Some n) = Ok (Some (command n))

abbrev pub mem_said : Option ℕ → Option ℕ → Said
mem_said None len = Err 3
mem_said (Some at) None = Err 3
mem_said (Some at) (Some len) = Ok (Some (Mem at len))

-- A name followed by one word. A command shows a part of the state, moves the cursor, or is about a breakpoint.
abbrev pub shown : List ℕ → List ℕ → Said
shown name word =
    if bytes_eq name (codes "regs") then with_number Regs (task_in word)
    else if bytes_eq name (codes "task") then with_number Task (task_in word)
    else if bytes_eq name (codes "line") then with_number Irq (line_in word)
    else if bytes_eq name (codes "device") then with_number Device (device_in word)
    else Err 2

abbrev pub moved : List ℕ → List ℕ → Said
moved name word =
    if bytes_eq name (codes "step") then with_number Step (turns_in word)
    else if bytes_eq name (codes "back") then with_number Back (turns_in word)
    else if bytes_eq name (codes "go") then with_number Go (turns_in word)
    else if bytes_eq name (codes "at") then with_number At (turns_in word)
    else shown name word

abbrev pub named : List ℕ → List ℕ → Said
named name word =
    if bytes_eq name (codes "break") then with_number Break (address_in word)
    else if bytes_eq name (codes "clear") then with_number Clear (address_in word)
    else moved name word

-- ---- searches: `go` or `back`, a number of turns, and what is sought

-- cause 2 if the name is not that of a search, or if the word for the kind is not a kind
abbrev pub search_said : List ℕ → Option ℕ → Option Sought → Said
search_said name None what = Err 3
search_said name (Some turns) None = Err 3
search_said name (Some turns) (Some what) = if bytes_eq name (codes "go") then Ok (Some (GoFor turns what)) else Ok (Some (BackFor turns what))

abbrev pub is_search : List ℕ → Bool
is_search name = bytes_eq name (codes "go") || bytes_eq name (codes "back")

abbrev pub kind_said : List ℕ → Option ℕ → Option NoteKind → Said
kind_said name turns None = Err 2
kind_said name turns (Some kind) = search_said name turns (Some (sought.Note kind None))

abbrev pub numbered_said : List ℕ → Option ℕ → Option NoteKind → Option ℕ → Said
numbered_said name turns None number = Err 2
numbered_said name turns (Some kind) number = search_said name turns (option_map (λ n. sought.Note kind (Some n)) number)

-- a kind without a number, and a kind with a number or `change` with an address
abbrev pub search_of_kind : List ℕ → List ℕ → List ℕ → Said
search_of_kind name turns kind = if is_search name then kind_said name (turns_in turns) (kind_in kind) else Err 2

abbrev pub search_of_number : List ℕ → List ℕ → List ℕ → List ℕ → Said
search_of_number name turns kind number =
    if not (is_search name) then Err 2
    else if bytes_eq kind (codes "change") then search_said name (turns_in turns) (option_map (λ at. sought.Change at) (address_in number))
    else numbered_said name (turns_in turns) (kind_in kind) (number_in number)

-- ---- a name and the words after it: `notes`, `help` and `quit` have none, `mem` two, a search two or three,
-- every other command one
abbrev pub alone : List ℕ → Said
alone name =
    if bytes_eq name (codes "notes") then Ok (Some Notes)
    else if bytes_eq name (codes "help") then Ok (Some Help)
    else if bytes_eq name (codes "quit") then Ok (Some Quit)
    else Err 2

abbrev pub two_said : List ℕ → List ℕ → List ℕ → Said
two_said name one two = if bytes_eq name (codes "mem") then mem_said (address_in one) (length_in two) else search_of_kind name one two

abbrev pub form_said : List ℕ → List (List ℕ) → Said
form_said name [] = alone name
form_said name (word ∷ []) = named name word
form_said name (one ∷ two ∷ []) = two_said name one two
form_said name (one ∷ two ∷ three ∷ []) = search_of_number name one two three
form_said name _ = Err 2

-- ---- the line

-- nothing if there is no word or the first one begins with `#`
abbrev pub words_said : List (List ℕ) → Said
words_said [] = Ok None
words_said (name ∷ rest) = if starts_by_hash name then Ok None else form_said name rest

unfoldable pub said : List ℕ → Said
said line = if list_all is_allowed line then words_said (words line) else Err 1
