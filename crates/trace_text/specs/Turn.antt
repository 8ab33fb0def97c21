-- What can be observed of the lines of a turn.
use Rattle.std.specs.Prelude.{ℕ, List, Option}
use Rattle.trace_text.specs.declared.turn.TurnLines.{TurnLines}

-- the line that was written last
abbrev pub last_line : TurnLines → List ℕ
last_line lines = lines.text.bytes

-- how many bytes the digits take, if they are there
abbrev pub begun_in : TurnLines → Option ℕ
begun_in lines = lines.begun
