-- What is pushed of the lines that are carried out as they come, and of what a run executed.
use Rattle.std.specs.Prelude.{ℕ, Bool, List}
use Rattle.outside_io.specs.Outside.{WhereSeen, IsFront}
use Rattle.board_model.specs.Script.{Scenario}
use Rattle.debug_core.specs.Live.{begun_text}
use Rattle.thumb_asm.specs.Meaning.{Names}
use Rattle.debug_core.specs.Session.{opened}
use Rattle.outside_io.specs.Seen.{FilesSeen, SinkSeen}
use Rattle.command_files.specs.FileFaults.{IsCannotRead}
use Rattle.command_files.specs.Sources.{MayBe}
use Rattle.command_files.specs.Verdict.{unread}
use Rattle.trace_cli.specs.Verdict.{lived, covered, IsKnownIn}
use Rattle.command_files.specs.Pushed.{Pushed, IsSilent}

-- What is written when the lines of a file are carried out over a run as they come: the answer to each line;
-- or, if the file cannot be read, the answers to the lines that came, and then the line that says so; or
-- memory is short.
pub data SaysLive (x : Scenario) (name : List ℕ) (before after : FilesSeen) (w w' : SinkSeen) (r : ℕ) : Type 0 where
  ended : (bytes : List ℕ) → MayBe before.contents name bytes → Pushed w w' (lived x bytes) r → SaysLive x name before after w w' r
  broken : (front : List ℕ) → WhereSeen (before.contents name) (IsFront front) → IsCannotRead before after name
      → Pushed w w' (unread (begun_text x opened front) name) r → SaysLive x name before after w w' r
  unsaid : IsSilent w w' r → SaysLive x name before after w w' r

-- what is written of how often a run executed each instruction, with these labels; or memory is short
pub data SaysCovered (n : ℕ) (x : Scenario) (labels : Names) (w w' : SinkSeen) (r : ℕ) : Type 0 where
  told : (known : ℕ → Bool) → IsKnownIn n x known → Pushed w w' (covered n x labels known) r → SaysCovered n x labels w w' r
  nothing : IsSilent w w' r → SaysCovered n x labels w w' r
