-- A session that reads its lines one by one (docs/FORMATS.md, Live).
use Rattle.std.specs.Prelude.{ℕ, ◌≡◌, ◌≤◌, ◌⊎◌, ◌+◌, ◌==◌, true, nat_lt, if◌then◌else◌, List, [], ◌∷◌, ◌++◌, length, take, Option, Some, None, Ok, Err}
use Rattle.std.specs.List.{count_by}
use Rattle.std.specs.Io.KnownBytes.{Appends}
use Rattle.text_lines.specs.Text.{lines_of}
use Rattle.outside_io.specs.Outside.{AppendsFront, IsFront, WhereSeen, raised}
use Rattle.outside_io.specs.Seen.{FilesSeen, SinkSeen}
use Rattle.board_model.specs.Script.{Scenario}
use Rattle.debug_core.specs.Answers.{refusal_line, told}
use Rattle.debug_core.specs.Lines.{Said, said}
use Rattle.debug_core.specs.Session.{Session, after}

-- what a line says; a line of more than 1,024 bytes has cause 5, whatever it contains
unfoldable pub live_said : List ℕ → Said
live_said line = if nat_lt 1024 (length line) then Err 5 else said line

-- ---- the answer to a line, and the session after it; a refused line changes nothing, and after `quit` no line
-- is answered

abbrev pub line_told : Scenario → Session → Said → List ℕ
line_told x s (Ok None) = []
line_told x s (Ok (Some command)) = if s.is_over then [] else told x s command
line_told x s (Err cause) = if s.is_over then [] else refusal_line cause

abbrev pub after_line : Scenario → Session → Said → Session
after_line x s (Ok None) = s
after_line x s (Ok (Some command)) = if s.is_over then s else after x s command
after_line x s (Err cause) = s

-- ---- the answers to lines, in order, and to a text

abbrev pub lines_told : Scenario → Session → List (List ℕ) → List ℕ
lines_told x s [] = []
lines_told x s (line ∷ lines) = line_told x s (live_said line) ++ lines_told x (after_line x s (live_said line)) lines

-- the session after some lines
abbrev pub after_lines : Scenario → Session → List (List ℕ) → Session
after_lines x s [] = s
after_lines x s (line ∷ lines) = after_lines x (after_line x s (live_said line)) lines

abbrev pub live_text : Scenario → Session → List ℕ → List ℕ
live_text x s bytes = lines_told x s (lines_of bytes)

-- the lines of a text that end with an LF: as many of its first lines as it has LFs
abbrev pub ended_lines : List ℕ → List (List ℕ)
ended_lines bytes = take (count_by (λ c. c == 10) bytes) (lines_of bytes)

-- the answers to the ended lines of a text that may go on
abbrev pub begun_text : Scenario → Session → List ℕ → List ℕ
begun_text x s bytes = lines_told x s (ended_lines bytes)

-- ---- the bytes that a session takes

-- A session reads at most this many bytes.
abbrev pub live_limit : ℕ
live_limit = 4294967295

-- The bytes may be what a session takes of a file's contents. If the contents are seen, the bytes are their
-- front, up to the limit.
pub record MayBeTaken (contents : Option (List ℕ)) (bytes : List ℕ) : Type 0 where
  pub few : length bytes ≤ live_limit
  pub front : WhereSeen contents (λ all. bytes ≡ take live_limit all)

-- Reads gave n bytes: the count of bytes given rose by n, or to the largest value of its type.
pub record HasGiven (before after n : ℕ) : Type 0 where
  pub least : raised before n ≤ after
  pub most : after ≤ before + n

-- The bytes that the reads gave: all of them; or a front of them, if a line of that front that an LF ended is `quit`.
abbrev pub IsEnough : Scenario → Session → List ℕ → List ℕ → Type 0
IsEnough x s read bytes = (read ≡ bytes) ⊎ (IsFront read bytes × ((after_lines x s (ended_lines read)).is_over ≡ true))

-- ---- what a session does, given the file and the sink before and after it

-- every line of the bytes was answered, up to the first `quit`, and no more was read than that needs
pub record TellsLive (x : Scenario) (s : Session) (name : List ℕ) (before after : FilesSeen) (w w' : SinkSeen) : Type 0 where
  pub bytes : List ℕ
  pub taken : MayBeTaken (before.contents name) bytes
  pub read : List ℕ
  pub enough : IsEnough x s read bytes
  pub given : HasGiven before.given after.given (length read)
  pub told : Appends w.written w'.written (live_text x s bytes)

-- The answers to the ended lines of the bytes that the reads gave. If the contents are seen, these bytes are
-- a front of them.
pub record IsBegun (x : Scenario) (s : Session) (contents : Option (List ℕ)) (before after : ℕ) (told : List ℕ) : Type 0 where
  pub front : List ℕ
  pub held : WhereSeen contents (IsFront front)
  pub given : HasGiven before after (length front)
  pub is : told ≡ begun_text x s front

-- a read failed, and this was appended to the sink
pub record BreaksUnread (x : Scenario) (s : Session) (name : List ℕ) (before after : FilesSeen) (w w' : SinkSeen) : Type 0 where
  pub text : List ℕ
  pub begun : IsBegun x s (before.contents name) before.given after.given text
  pub told : Appends w.written w'.written text

-- a push or a flush failed: a front of the answers was appended
pub record BreaksTelling (x : Scenario) (s : Session) (name : List ℕ) (before : FilesSeen) (w w' : SinkSeen) : Type 0 where
  pub bytes : List ℕ
  pub taken : MayBeTaken (before.contents name) bytes
  pub told : AppendsFront w.written w'.written (live_text x s bytes)
