-- A session in the middle of a text: the lines that ended with an LF, and the line under way.
use Rattle.std.specs.Prelude.{ℕ, ◌≡◌, ◌==◌, ◌⊎◌, true, List, [], ◌∷◌, ◌++◌, length, take, Option, None, Result, Ok, OnOk, OnErr}
use Rattle.std.specs.List.{count_by}
use Rattle.std.specs.Io.KnownBytes.{Appends}
use Rattle.text_lines.specs.Text.{HasNoLf, lines_of}
use Rattle.outside_io.specs.Outside.{AppendsFront}
use Rattle.outside_io.specs.Seen.{FilesSeen, SinkSeen}
use Rattle.board_model.specs.Script.{Scenario}
use Rattle.board_core.specs.Data.{Shows}
use Rattle.debug_core.specs.declared.debugger.Debugger.{Debugger}
use Rattle.debug_core.specs.declared.live.LineUnderWay.{LineUnderWay}
use Rattle.debug_core.specs.Lines.{Said}
use Rattle.debug_core.specs.Live.{HasGiven, MayBeTaken, after_lines, lines_told, live_said, live_text}
use Rattle.debug_core.specs.Session.{Session}
use Rattle.debug_core.specs.Sessions.{IsSession}

-- ---- lines

-- a line or a part of a line, with or without the LF at its end
abbrev pub IsOneLine : List ℕ → Type 0
IsOneLine bytes = (line : List ℕ) × HasNoLf line × ((bytes ≡ line) ⊎ (bytes ≡ line ++ 10 ∷ []))

-- what the first line says, or nothing if there is no line
abbrev pub first_said : List (List ℕ) → Said
first_said [] = Ok None
first_said (line ∷ lines) = live_said line

-- A text is cut into the lines that end with an LF and the bytes after the last LF. More text may follow.
pub record IsCut (text : List ℕ) (lines : List (List ℕ)) (behind : List ℕ) : Type 0 where
  pub no_lf : HasNoLf behind
  pub count : count_by (λ c. c == 10) text ≡ length lines
  pub whole : (rest : List ℕ) → lines_of (text ++ rest) ≡ lines ++ lines_of (behind ++ rest)

-- ---- the line under way

-- the bytes of the line so far; if the line is too long, its first 1,026 bytes
abbrev pub IsUnderWay : LineUnderWay → List ℕ → Type 0
IsUnderWay under_way bytes = under_way.front.items ≡ take 1026 bytes

-- a debugger holds this session, and one line or a part of one is under way
pub record IsAtLine {X : Type 0} {H : X → Type 0} (shown : Shows X H) (x : Scenario) (s : Session) (bytes : List ℕ) (d : Debugger X H) (under_way : LineUnderWay) : Type 0 where
  pub at : IsSession shown x d s
  pub begun : IsUnderWay under_way bytes
  pub one : IsOneLine bytes

-- ---- in the middle of a text

-- This much of a text was taken: its ended lines are answered, and the bytes after them are under way.
pub record IsAmid {X : Type 0} {H : X → Type 0} (shown : Shows X H) (x : Scenario) (s : Session) (text : List ℕ) (old new : Option (List ℕ)) (d : Debugger X H) (under_way : LineUnderWay) : Type 0 where
  pub lines : List (List ℕ)
  pub behind : List ℕ
  pub cut : IsCut text lines behind
  pub at : IsSession shown x d (after_lines x s lines)
  pub told : Appends old new (lines_told x s lines)
  pub begun : IsUnderWay under_way behind

-- the same for some session and some text
abbrev pub IsTaking : {X : Type 0} {H : X → Type 0} → Shows X H → SinkSeen → Debugger X H → LineUnderWay → Type 0
IsTaking shown w d under_way = (x : Scenario) × (s : Session) × (text : List ℕ) × (old : Option (List ℕ)) × IsAmid shown x s text old w.written d under_way

-- these further bytes were taken, for each session and text
abbrev pub TakesOn : {X : Type 0} {H : X → Type 0} {T E : Type 0} → Shows X H → List ℕ → SinkSeen → SinkSeen → Debugger X H → Debugger X H → LineUnderWay → LineUnderWay → Result T E → Type 0
TakesOn shown more w w' d d' under_way under_way' result = (x : Scenario) (s : Session) (text : List ℕ) (old : Option (List ℕ))
    → IsAmid shown x s text old w.written d under_way → OnOk result (IsAmid shown x s (text ++ more) old w'.written d' under_way')

-- A push or a flush failed on the way. A front of the answers was appended, whatever text follows.
abbrev pub BreaksAmid : {X : Type 0} {H : X → Type 0} {T E : Type 0} → Shows X H → List ℕ → SinkSeen → SinkSeen → Debugger X H → LineUnderWay → Result T E → Type 0
BreaksAmid shown more w w' d under_way result = (x : Scenario) (s : Session) (text : List ℕ) (old : Option (List ℕ))
    → IsAmid shown x s text old w.written d under_way → OnErr result ((rest : List ℕ) → AppendsFront old w'.written (live_text x s ((text ++ more) ++ rest)))

-- the debugger holds the session that follows all lines of a file; if the file's contents are seen, these are
-- its lines
abbrev pub HasLived : {X : Type 0} {H : X → Type 0} → Shows X H → Scenario → Session → Option (List ℕ) → Debugger X H → Type 0
HasLived shown x s contents d = (bytes : List ℕ) × MayBeTaken contents bytes × IsSession shown x d (after_lines x s (lines_of bytes))

-- The bytes that a session takes of a file were taken: all of them, or so many that it is over.
pub record HasTaken {X : Type 0} {H : X → Type 0} (shown : Shows X H) (x : Scenario) (s : Session) (name : List ℕ) (before after : FilesSeen) (w w' : SinkSeen) (d : Debugger X H) (under_way : LineUnderWay) : Type 0 where
  pub text : List ℕ
  pub rest : List ℕ
  pub taken : MayBeTaken (before.contents name) (text ++ rest)
  pub given : HasGiven before.given after.given (length text)
  pub amid : IsAmid shown x s text w.written w'.written d under_way
  pub all : (rest ≡ []) ⊎ ((after_lines x s amid.lines).is_over ≡ true)
