-- What a run tells its observer, and how much of it if that fails.
use Rattle.std.specs.Prelude.{◌≡◌, ℕ, ◌-◌, ◌<◌, ◌≤◌, List, ◌++◌, Option}
use Rattle.std.specs.Io.KnownBytes.{Appends}
use Rattle.outside_io.specs.Outside.{AppendsFront, Rose}
use Rattle.kernel_abi.specs.declared.Note.{Note}
use Rattle.trace_text.specs.Fit.{AreFit}
use Rattle.task_table.specs.model.State.{State}
use Rattle.board_core.specs.declared.board.Board.{Board}
use Rattle.board_core.specs.Stands.{turns_of}
use Rattle.board_model.specs.declared.outcomes.Level.{Level}
use Rattle.board_model.specs.Script.{Scenario}
use Rattle.board_model.specs.Run.{run}
use Rattle.trace_text.specs.Lines.{notes_text}

-- the notes of the first n turns
abbrev pub notes_in : Level → Scenario → ℕ → State → List (ℕ × Note)
notes_in level x n s = (run level x n s).notes

-- A run was broken off while its last turn was told. All notes of the earlier turns were told, and telling
-- those of the last one failed.
pub record BreaksTelling {T : Type 0} {X : Type 0} {H : X → Type 0} (heard broke : T → List (ℕ × Note) → T → Type 0) (level : Level) (x : Scenario) (t t' : T) (s : State) (b : Board X H) : Type 0 where
  pub between : T  -- the observer after the earlier turns
  pub last : List (ℕ × Note)  -- the notes of the last turn
  pub made : s.turn < turns_of b
  pub is_last : notes_in level x (turns_of b - s.turn) s ≡ notes_in level x (turns_of b - s.turn - 1) s ++ last
  pub before : heard t (notes_in level x (turns_of b - s.turn - 1) s) between
  pub broken : broke between last t'

-- ## a sink, by what it has written and its count of faults, before and after

-- the lines of these notes were appended, and their numbers are in range
pub record HearsText (w w' : Option (List ℕ)) (f f' : ℕ) (notes : List (ℕ × Note)) : Type 0 where
  pub pushed : Appends w w' (notes_text notes)
  pub later : f ≤ f'
  pub fit : AreFit notes

-- a front of these lines was appended, and the failure was counted
pub record BreaksText (w w' : Option (List ℕ)) (f f' : ℕ) (notes : List (ℕ × Note)) : Type 0 where
  pub pushed : AppendsFront w w' (notes_text notes)
  pub later : f ≤ f'
  pub rose : Rose f f'
