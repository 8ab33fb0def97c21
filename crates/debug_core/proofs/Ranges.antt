-- What is known of commands that are read.
use Rattle.std.proofs.Common.{◌≡◌, ℕ, ◌<◌, ◌≤◌, ◌+◌, List, [], ◌∷◌, ◌++◌, length, Bool, true, false, not, nat_lt, if◌then◌else◌, Option, Some, None, Result, Ok, Err, refl, sym, ◌∙◌, subst, arith, codes, bytes_eq}
use Rattle.std.specs.List.{All, list_all}
use Rattle.std.specs.Option.{option_map}
use Rattle.std.proofs.lemmas.List.Elements.{All-push}
use Rattle.run_script.specs.Scripts.{Refusal}
use Rattle.run_script.specs.Words.{is_allowed, words}
use Rattle.run_script.specs.Statements.{starts_by_hash}
use Rattle.run_script.proofs.Numbers.{number_within_bounds}
use Rattle.trace_text.specs.declared.kinds.NoteKind.{NoteKind}
use Rattle.trace_text.specs.Kinds.{kind_in}
use Rattle.debug_core.specs.declared.command.Command.{Command}
use Rattle.debug_core.specs.declared.command.Command.TheVariants.{Break, Clear, Step, Back, Go, At, GoFor, BackFor, Notes, Help, Quit, Regs, Task, Irq, Device, Mem}
use Rattle.debug_core.specs.declared.command.Sought.{Sought}
use Rattle.debug_core.specs.declared.command.Sought.TheVariants as sought
use Rattle.debug_core.specs.Lines.{Said, address_in, device_in, form_said, is_search, kind_said, length_in, line_in, mem_said, named, number_in, numbered_said, said, search_of_number, search_said, task_in, turns_in, two_said, with_number, words_said}
use Rattle.debug_core.specs.Live.{live_said}
use Rattle.debug_core.specs.Reading.{AsksForFew, go_on, with_lines, with_said}
use Rattle.debug_core.proofs.Walk.{no_line, one_line}

-- ---- of a command

abbrev InRange : Command → Type 0
InRange (At turn) = turn ≤ 1000000000
InRange (Irq line) = line < 64
InRange (Mem at len) = len ≤ 64
InRange (Break at) = Unit {0}
InRange (Clear at) = Unit {0}
InRange (Step turns) = Unit {0}
InRange (Back turns) = Unit {0}
InRange (Go turns) = Unit {0}
InRange (GoFor turns what) = Unit {0}
InRange (BackFor turns what) = Unit {0}
InRange Notes = Unit {0}
InRange Help = Unit {0}
InRange Quit = Unit {0}
InRange (Regs task) = Unit {0}
InRange (Task task) = Unit {0}
InRange (Device device) = Unit {0}

few : (command : Command) → InRange command → AsksForFew command
few command h = record {
  bytes = λ at len e. subst InRange e h;
  line = λ number e. subst InRange e h;
  turn = λ turn e. subst InRange e h;
}

-- ---- of a line

abbrev IsShort : Said → Type 0
IsShort (Ok (Some command)) = InRange command
IsShort (Ok None) = Unit {0}
IsShort (Err cause) = Unit {0}

choice : (b : Bool) (x y : Said) → IsShort x → IsShort y → IsShort (if b then x else y)
choice true x y h k = h
choice false x y h k = k

short_number : (command : ℕ → Command) (o : Option ℕ) → ((n : ℕ) → o ≡ Some n → InRange (command n)) → IsShort (with_number command o)
short_number command None h = tt
short_number command (Some n) h = h n refl

below_64 : (n : ℕ) → (0 ≤ n) × (n ≤ 63) → n < 64
below_64 n h = omega arith

short_mem : (at len : Option ℕ) → ((n : ℕ) → len ≡ Some n → (1 ≤ n) × (n ≤ 64)) → IsShort (mem_said at len)
short_mem None len h = tt
short_mem (Some at) None h = tt
short_mem (Some at) (Some n) h = (h n refl).1

short_named : (name word : List ℕ) → IsShort (named name word)
short_named name word =
    choice (bytes_eq name (codes "break")) _ _ (short_number Break (address_in word) (λ n e. tt))
    (choice (bytes_eq name (codes "clear")) _ _ (short_number Clear (address_in word) (λ n e. tt))
    (choice (bytes_eq name (codes "step")) _ _ (short_number Step (turns_in word) (λ n e. tt))
    (choice (bytes_eq name (codes "back")) _ _ (short_number Back (turns_in word) (λ n e. tt))
    (choice (bytes_eq name (codes "go")) _ _ (short_number Go (turns_in word) (λ n e. tt))
    (choice (bytes_eq name (codes "at")) _ _ (short_number At (turns_in word) (λ n e. (number_within_bounds 0 1000000000 word n e).1))
    (choice (bytes_eq name (codes "regs")) _ _ (short_number Regs (task_in word) (λ n e. tt))
    (choice (bytes_eq name (codes "task")) _ _ (short_number Task (task_in word) (λ n e. tt))
    (choice (bytes_eq name (codes "line")) _ _ (short_number Irq (line_in word) (λ n e. below_64 n (number_within_bounds 0 63 word n e)))
    (choice (bytes_eq name (codes "device")) _ _ (short_number Device (device_in word) (λ n e. tt)) tt)))))))))

short_search : (name : List ℕ) (turns : Option ℕ) (what : Option Sought) → IsShort (search_said name turns what)
short_search name None what = tt
short_search name (Some turns) None = tt
short_search name (Some turns) (Some what) = choice (bytes_eq name (codes "go")) (Ok (Some (GoFor turns what))) (Ok (Some (BackFor turns what))) tt tt

short_kind : (name : List ℕ) (turns : Option ℕ) (kind : Option NoteKind) → IsShort (kind_said name turns kind)
short_kind name turns None = tt
short_kind name turns (Some kind) = short_search name turns (Some (sought.Note kind None))

short_numbered : (name : List ℕ) (turns : Option ℕ) (kind : Option NoteKind) (number : Option ℕ) → IsShort (numbered_said name turns kind number)
short_numbered name turns None number = tt
short_numbered name turns (Some kind) number = short_search name turns (option_map (λ n. sought.Note kind (Some n)) number)

short_two : (name one two : List ℕ) → IsShort (two_said name one two)
short_two name one two =
    choice (bytes_eq name (codes "mem")) _ _ (short_mem (address_in one) (length_in two) (number_within_bounds 1 64 two))
    (choice (is_search name) _ _ (short_kind name (turns_in one) (kind_in two)) tt)

short_three : (name one two three : List ℕ) → IsShort (search_of_number name one two three)
short_three name one two three =
    choice (not (is_search name)) _ _ tt
    (choice (bytes_eq two (codes "change")) _ _ (short_search name (turns_in one) (option_map (λ at. sought.Change at) (address_in three)))
    (short_numbered name (turns_in one) (kind_in two) (number_in three)))

short_form : (name : List ℕ) (rest : List (List ℕ)) → IsShort (form_said name rest)
short_form name [] =
    choice (bytes_eq name (codes "notes")) (Ok (Some Notes)) _ tt
    (choice (bytes_eq name (codes "help")) (Ok (Some Help)) _ tt
    (choice (bytes_eq name (codes "quit")) (Ok (Some Quit)) (Err 2) tt tt))
short_form name (word ∷ []) = short_named name word
short_form name (one ∷ two ∷ []) = short_two name one two
short_form name (one ∷ two ∷ three ∷ []) = short_three name one two three
short_form name (a ∷ b ∷ c ∷ d ∷ rest) = tt

short_words : (ws : List (List ℕ)) → IsShort (words_said ws)
short_words [] = tt
short_words (name ∷ rest) = choice (starts_by_hash name) _ _ tt (short_form name rest)

short_said : (line : List ℕ) → IsShort (said line)
unfolding said
short_said line = choice (list_all is_allowed line) _ _ (short_words (words line)) tt

-- ---- line by line

same : (cs ds : List Command) → ◌≡◌ {A = Result (List Command) ℕ} (Ok cs) (Ok ds) → cs ≡ ds
same cs ds h = cc

more : (b : Bool) (cs ds : List Command) → ◌≡◌ {A = Result (List Command) ℕ} (if b then Ok cs else Err 4) (Ok ds) → cs ≡ ds
more true cs ds h = same cs ds h
more false cs ds h = absurd (cc)

kept : (cs ds : List Command) (s : Said) → IsShort s → with_said cs s ≡ Ok ds → All AsksForFew cs → All AsksForFew ds
kept cs ds (Ok None) known h all = subst (All AsksForFew) (same cs ds h) all
kept cs ds (Ok (Some command)) known h all =
    subst (All AsksForFew) (more (nat_lt (length cs) 1024) (cs ++ command ∷ []) ds h) (All-push AsksForFew cs command all (few command known))
kept cs ds (Err cause) known h all = absurd (cc)

kept_by : (cs ds : List Command) (number : ℕ) (s : Said) (o : Result (List Command) ℕ) (rest : List Command → Result (List Command) Refusal) → IsShort s → with_said cs s ≡ o → ((next : List Command) → rest next ≡ Ok ds → All AsksForFew next → All AsksForFew ds) → go_on number o rest ≡ Ok ds → All AsksForFew cs → All AsksForFew ds
kept_by cs ds number s (Ok next) rest known h go e all = go next e (kept cs next s known h all)
kept_by cs ds number s (Err cause) rest known h go e all = absurd (cc)

ends_same : (cs ds : List Command) → ◌≡◌ {A = Result (List Command) Refusal} (Ok cs) (Ok ds) → cs ≡ ds
ends_same cs ds h = cc

short_lines : (lines : List (List ℕ)) (cs ds : List Command) (number : ℕ) → with_lines cs number lines ≡ Ok ds → All AsksForFew cs → All AsksForFew ds
short_lines [] cs ds number h all = subst (All AsksForFew) (ends_same cs ds (sym (no_line cs number) ∙ h)) all
short_lines (line ∷ lines) cs ds number h all =
    kept_by cs ds number (said line) (with_said cs (said line)) (λ next. with_lines next (number + 1) lines) (short_said line) refl (λ next e k. short_lines lines next ds (number + 1) e k) (sym (one_line cs number line lines) ∙ h) all

pub short_read : (lines : List (List ℕ)) (ds : List Command) → with_lines [] 1 lines ≡ Ok ds → All AsksForFew ds
short_read lines ds h = short_lines lines [] ds 1 h (λ i d lt. absurd (omega arith))

-- ---- of a line that comes alone

pub said_few : (line : List ℕ) (command : Command) → said line ≡ Ok (Some command) → AsksForFew command
said_few line command e = few command (subst IsShort e (short_said line))

few_where : (long : Bool) (line : List ℕ) (command : Command) → ◌≡◌ {A = Said} (if long then Err 5 else said line) (Ok (Some command)) → AsksForFew command
few_where true line command e = absurd (cc)
few_where false line command e = said_few line command e

pub live_few : (line : List ℕ) (command : Command) → live_said line ≡ Ok (Some command) → AsksForFew command
unfolding live_said
live_few line command e = few_where (nat_lt 1024 (length line)) line command e
