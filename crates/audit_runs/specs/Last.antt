-- What is known of the last state of a run, and of the lines after those of its tasks.
use Rattle.std.specs.Prelude.{ℕ, ◌≤◌, ◌≡◌, List, [], ◌∷◌, ◌++◌, length}
use Rattle.task_table.specs.model.State.{State}
use Rattle.task_table.specs.model.Sane.{IsCounted}
use Rattle.trace_audit.specs.declared.reading.TraceLine.TheVariants as line
use Rattle.audit_laws.specs.Told.{IsLine}
use Rattle.board_run.specs.Timers.{HasFitTimers}
use Rattle.audit_laws.specs.Whole.{joined}
use Rattle.board_run.specs.Text.{trace_text}
use Rattle.board_model.specs.declared.outcomes.Level.{Level}
use Rattle.board_model.specs.Script.{Scenario, start_of}
use Rattle.board_model.specs.Run.{run}
use Rattle.trace_text.specs.Fit.{AreFit}
use Rattle.trace_audit.specs.Rules.{IsGood}
use Rattle.trace_audit.specs.Texts.{lines_of}
use Rattle.trace_audit.specs.Judgements.{read_lines, HasNoCause}

-- no more turns than a run can have, no more tasks than an image can have, and each deadline below 2^64
pub record IsFitLast (s : State) : Type 0 where
  pub counted : IsCounted s
  pub turns : s.turn ≤ 1000000000
  pub tasks : length s.tasks ≤ 65536
  pub timers : HasFitTimers s

-- each text is one line of at most 160 bytes that shows something (`line.Shows`: the lines of --mem are such)
abbrev pub AreShown : List (List ℕ) → Type 0
AreShown [] = Unit {0}
AreShown (t ∷ texts) = IsLine t line.Shows × (length t ≤ 160) × AreShown texts

-- the bytes are such lines
pub record IsShown (bytes : List ℕ) : Type 0 where
  pub texts : List (List ℕ)
  pub each : AreShown texts
  pub whole : joined texts ≡ bytes

-- the lines of the text are good, and an audit refuses none of them
pub record IsGoodText (text : List ℕ) : Type 0 where
  pub good : IsGood (read_lines text)
  pub fine : HasNoCause (lines_of text)

-- The same of the text of a run from the start, with such lines after it. The numbers of its notes and of its
-- last state have to be in range.
abbrev pub IsGoodRun : Level → Scenario → ℕ → Type 0
IsGoodRun level x n = let r = run level x n (start_of x) in (more : List ℕ) → IsFitLast r.last → AreFit r.notes → IsShown more → IsGoodText (trace_text r ++ more)
