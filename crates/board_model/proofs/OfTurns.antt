-- A run is its first turns, one after the other.
use Rattle.std.proofs.Common.{◌≡◌, ◌+◌, ◌≤◌, ℕ, zero, suc, ◌++◌, Option, Some, None, refl, sym, ◌∙◌, ap, arith, append_assoc, append-nil}
use Rattle.task_table.specs.model.State.{State, Turn}
use Rattle.board_model.specs.declared.outcomes.End.{End}
use Rattle.board_model.specs.declared.outcomes.End.TheVariants.{Bound}
use Rattle.board_model.specs.declared.outcomes.Level.{Level}
use Rattle.board_model.specs.Script.{Scenario}
use Rattle.board_model.specs.Turn.{turn}
use Rattle.board_model.specs.Run.{Run, run, ending, ended_at, with_front, unless, at_turn, turn_after, state_after, notes_after}
use Rattle.board_model.specs.Lifetimes.{notes_in, IsOfTurns}
use Rattle.board_model.proofs.Further.{further, turn_further}
use Rattle.board_model.proofs.RunKeeps.{notes_then}

-- ## one turn first

state_first : (level : Level) (x : Scenario) (k : ℕ) (s : State) → state_after level x k (turn level x s).state ≡ state_after level x (suc k) s
unfolding turn_after state_after
state_first level x k s =
    let e : 0 + k ≡ k = omega arith in
    further level x 0 k s ∙ ap (λ (m : ℕ). (turn_after level x m s).state) e

turn_first : (level : Level) (x : Scenario) (k : ℕ) (s : State) → turn_after level x k (turn level x s).state ≡ turn_after level x (suc k) s
unfolding turn_after
turn_first level x k s =
    let e : 0 + suc k ≡ suc k = omega arith in
    turn_further level x 0 k s ∙ ap (λ (m : ℕ). turn_after level x m s) e

notes_first : (level : Level) (x : Scenario) (k : ℕ) (s : State) → (turn level x s).notes ++ notes_after level x k (turn level x s).state ≡ notes_after level x (suc k) s
unfolding turn_after notes_after
notes_first level x zero s = append-nil (turn level x s).notes
notes_first level x (suc k) s =
    let u = (turn level x s).state in
    sym (append_assoc (turn level x s).notes (notes_after level x k u) (turn_after level x k u).notes)
    ∙ ap (λ ns. ns ++ (turn_after level x k u).notes) (notes_first level x k s)
    ∙ ap (λ (t : Turn). notes_after level x (suc k) s ++ t.notes) (turn_first level x k s)

-- ## the run

-- (r: a run from s)
record IsMade (level : Level) (x : Scenario) (n : ℕ) (s : State) (r : Run) : Type 0 where
  turns : ℕ
  few : turns ≤ n
  last : r.last ≡ state_after level x turns s
  notes : notes_in r.notes ≡ notes_after level x turns s

made_none : (level : Level) (x : Scenario) (n : ℕ) (s : State) (e : End) → IsMade level x n s (ended_at s e)
unfolding state_after notes_after
made_none level x n s e = record { turns = 0; few = omega arith; last = refl; notes = refl }

made_more : (level : Level) (x : Scenario) (n : ℕ) (s : State) (r : Run) → IsMade level x n (turn level x s).state r → IsMade level x (suc n) s (with_front (at_turn s.turn (turn level x s).notes) r)
made_more level x n s r m = record {
  turns = suc m.turns;
  few = let few = m.few in omega arith;
  last = m.last ∙ state_first level x m.turns s;
  notes = notes_then s.turn (turn level x s).notes r.notes ∙ ap (λ ns. (turn level x s).notes ++ ns) m.notes ∙ notes_first level x m.turns s;
}

made : (level : Level) (x : Scenario) (n : ℕ) (s : State) → IsMade level x n s (run level x n s)
unfolding run
made level x zero s = by_end (ending x 0 s)
  where
    by_end : (e : Option End) → IsMade level x 0 s (unless s e (ended_at s Bound))
    by_end None = made_none level x 0 s Bound
    by_end (Some e) = made_none level x 0 s e
made level x (suc n) s = by_end (ending x (suc n) s) (made level x n (turn level x s).state)
  where
    by_end : (e : Option End) → IsMade level x n (turn level x s).state (run level x n (turn level x s).state) → IsMade level x (suc n) s (unless s e (with_front (at_turn s.turn (turn level x s).notes) (run level x n (turn level x s).state)))
    by_end None m = made_more level x n s _ m
    by_end (Some e) m = made_none level x (suc n) s e

pub run_of_turns : (level : Level) (x : Scenario) (n : ℕ) (s : State) → IsOfTurns level x n s
run_of_turns level x n s = let m = made level x n s in record { turns = m.turns; few = m.few; last = m.last; notes = m.notes }
