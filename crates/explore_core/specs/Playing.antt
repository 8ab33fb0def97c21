-- A board that goes on while properties are watched.
use Rattle.std.specs.Prelude.{ℕ, zero, suc, ◌≡◌, ◌-◌, ◌<◌, ◌≤◌, ◌⊎◌, true, false, List, map, None, IsSome}
use Rattle.std.specs.List.{AllZip}
use Rattle.task_table.specs.model.State.{State}
use Rattle.run_script.specs.Scripts.{ScriptData}
use Rattle.board_model.specs.declared.outcomes.Level.TheVariants.{Calls}
use Rattle.board_model.specs.Laid.{with_script}
use Rattle.board_model.specs.Run.{ending, state_after}
use Rattle.board_model.specs.Script.{Scenario}
use Rattle.board_core.specs.declared.board.Board.{Board}
use Rattle.board_core.specs.Data.{Shows}
use Rattle.board_core.specs.Stands.{Stands}
use Rattle.run_question.specs.declared.asked.Property.{Property}
use Rattle.explore_core.specs.declared.verdict.Verdict.{Verdict}
use Rattle.explore_core.specs.Verdicts.{broken_by, stepped}
use Rattle.explore_core.specs.Watching.{Judged, are_open}

-- the verdict after n turns from a state
unfoldable pub stepped_after : Property → Scenario → ℕ → State → Verdict → Verdict
stepped_after p x zero s v = v
stepped_after p x (suc n) s v = stepped p x (stepped_after p x n s v) (state_after Calls x n s)

abbrev pub after_turns : Scenario → ℕ → State → Judged → Judged
after_turns x n s w = (w.0, stepped_after w.0 x n s w.1)

-- a run goes on to its next turn, and a property is looked for there
pub record IsPlaying (x : Scenario) (s : State) (ws : List Judged) : Type 0 where
  pub goes : ending x 1 s ≡ None
  pub some : are_open ws ≡ true

-- nothing is looked for any more, or a run that makes the turns before turn `to` ends there
abbrev pub IsThrough : Scenario → ℕ → State → List Judged → Type 0
IsThrough x to s ws = (are_open ws ≡ false) ⊎ IsSome (ending x (to - s.turn) s)

-- a board has made n turns from a state, and `new` is what they made of `old`. They are all turns that it was to make, and no more
pub record HasPlayed {X : Type 0} {H : X → Type 0} (shown : Shows X H) (x : Scenario) (s : State) (to : ℕ) (old new : List Judged) (b : Board X H) : Type 0 where
  pub n : ℕ
  pub stands : Stands shown x b (state_after Calls x n s)
  pub judged : new ≡ map (after_turns x n s) old
  pub playing : (k : ℕ) → k < n → IsPlaying x (state_after Calls x k s) (map (after_turns x k s) old)
  pub within : (state_after Calls x n s).turn ≤ to
  pub through : IsThrough x to (state_after Calls x n s) new

-- a run of at most so many turns that has come from s to u breaks a property as `new` says, if it breaks it from s on as `old` says
pub record IsKept (x : Scenario) (limit : ℕ) (s u : State) (old new : Judged) : Type 0 where
  pub property : new.0 ≡ old.0
  pub broken : broken_by old.0 x (limit - s.turn) old.1 s ≡ broken_by new.0 x (limit - u.turn) new.1 u

-- a board has come from a state to another, and what was made of each property on the way decides as the run from the first one does, with a script
-- in which the same happens up to there
pub record HasKept {X : Type 0} {H : X → Type 0} (shown : Shows X H) (x : Scenario) (script : ScriptData) (limit : ℕ) (s : State) (old new : List Judged) (b : Board X H) : Type 0 where
  pub state : State
  pub stands : Stands shown x b state
  pub kept : AllZip (IsKept (with_script x script) limit s state) old new
