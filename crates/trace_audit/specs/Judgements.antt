-- What an audit answers (the causes, the rules and the numbers are this project's).
use Rattle.std.specs.Prelude.{ℕ, ◌+◌, ◌≡◌, Bool, not, nat_lt, if◌then◌else◌, List, [], ◌∷◌, ◌++◌, length, map, All, Option, Some, None}
use Rattle.std.specs.List.{list_all}
use Rattle.text_lines.specs.Text.{is_between}
use Rattle.trace_audit.specs.declared.judgement.Judgement.{Judgement}
use Rattle.trace_audit.specs.declared.judgement.Judgement.TheVariants as judgement
use Rattle.trace_audit.specs.Texts.{lines_of}
use Rattle.trace_audit.specs.declared.reading.TraceLine.{TraceLine}
use Rattle.trace_audit.specs.Meaning.{read}
use Rattle.trace_audit.specs.Rules.{IsGood, IsFirstBad, offers_in, left_in}

-- ## lines that cannot be text of a trace

abbrev pub is_printable : ℕ → Bool
is_printable c = is_between 32 126 c

-- the cause of a line. 1: it has a byte other than 32 to 126 (no line has an LF); 2: it has more than 159 bytes
unfoldable pub cause_of : List ℕ → Option ℕ
cause_of line = if not (list_all is_printable line) then Some 1 else if nat_lt 159 (length line) then Some 2 else None

-- line n is the first line with a cause, and this is its cause
pub record IsFirstCause (lines : List (List ℕ)) (cause n : ℕ) : Type 0 where
  pub before : List (List ℕ)
  pub line : List ℕ
  pub after : List (List ℕ)
  pub is : lines ≡ before ++ line ∷ after
  pub fine : All (λ l. cause_of l ≡ None) before
  pub here : cause_of line ≡ Some cause
  pub number : n ≡ length before + 1

abbrev pub HasNoCause : List (List ℕ) → Type 0
HasNoCause lines = All (λ l. cause_of l ≡ None) lines

-- the first cause and its line as a function, for lines of which the first one is the n-th of its text
abbrev pub cause_at : ℕ → Option ℕ → Option (ℕ × ℕ) → Option (ℕ × ℕ)
cause_at n (Some cause) later = Some (cause, n)
cause_at n None later = later

unfoldable pub first_cause : ℕ → List (List ℕ) → Option (ℕ × ℕ)
first_cause n [] = None
first_cause n (line ∷ lines) = cause_at n (cause_of line) (first_cause (n + 1) lines)

-- ## the answers

-- what the lines of a text say
abbrev pub read_lines : List ℕ → List TraceLine
read_lines text = map read (lines_of text)

-- the lines are good, offer this many calls, and leave this many of them open
abbrev pub IsGoodWith : List TraceLine → ℕ → ℕ → Type 0
IsGoodWith lines calls left = IsGood lines × (calls ≡ offers_in lines) × (left ≡ left_in lines)

abbrev pub IsJudgement : List ℕ → Judgement → Type 0
IsJudgement text (judgement.Yes calls left) = IsGoodWith (read_lines text) calls left
IsJudgement text (judgement.No n) = IsFirstBad (read_lines text) n
