-- What the notes of a run say is good, turn after turn, and their turns do not fall.
use Rattle.std.proofs.Common.{◌≡◌, ◌≤◌, ℕ, zero, suc, List, [], ◌∷◌, ◌++◌, Option, Some, None, arith}
use Rattle.kernel_abi.specs.declared.Note.{Note}
use Rattle.task_table.specs.model.State.{Setup, State, Turn}
use Rattle.task_table.specs.model.Sane.{Sane}
use Rattle.board_model.specs.declared.outcomes.End.{End}
use Rattle.board_model.specs.declared.outcomes.End.TheVariants.{Bound}
use Rattle.board_model.specs.declared.outcomes.Level.{Level}
use Rattle.board_model.specs.Script.{Scenario, start_of}
use Rattle.board_model.specs.Turn.{turn}
use Rattle.board_model.specs.Run.{run, ending, ended_at, with_front, unless, at_turn}
use Rattle.board_model.specs.Lifetimes.{notes_in}
use Rattle.board_model.proofs.Counts.{turn_more}
use Rattle.board_model.proofs.RunKeeps.{IsKeptByTurns, kept_run}
use Rattle.board_model.proofs.TurnChains.{sane-after}
use Rattle.audit_laws.specs.Whole.{AreInOrder}
use Rattle.audit_runs.specs.Spoken.{IsSpoken}
use Rattle.audit_runs.proofs.Speaking.{spoken_start, spoken_same, spoken_outside}
use Rattle.audit_runs.proofs.Waiting.{chain_spoken}

-- ## what is said goes on

-- calls stay, and so do the notes
spoken_kept : (old : List Note) (u v : Turn) → v.state.calls ≡ u.state.calls → v.state.next_call ≡ u.state.next_call → v.notes ≡ u.notes → IsSpoken (old ++ u.notes) u.state → IsSpoken (old ++ v.notes) v.state
spoken_kept old u v calls next same h = rw same (spoken_same (old ++ u.notes) u.state v.state calls next h)

kept_spoken : (g : Setup) → IsKeptByTurns g IsSpoken
kept_spoken g = record { same = spoken_kept; outside = spoken_outside; chain = λ s c old u v placed x. chain_spoken g s c placed old u v x }

pub run_spoken : (level : Level) (x : Scenario) (n : ℕ) → Sane x.setup (start_of x) → IsSpoken (notes_in (run level x n (start_of x)).notes) (run level x n (start_of x)).last
run_spoken level x n h = kept_run level x IsSpoken (kept_spoken x.setup) n (start_of x) [] h (spoken_start x.setup x.devices)

-- ## turns that do not fall

order_front : (last n : ℕ) (ns : List Note) (more : List (ℕ × Note)) → last ≤ n → AreInOrder n more → AreInOrder last (at_turn n ns ++ more)
order_front last n [] [] low h = tt
order_front last n [] (m ∷ more) low h = (let k = h.0 in omega arith, h.1)
order_front last n (x ∷ ns) more low h = (low, order_front n n ns more (omega arith) h)

module _ (level : Level) (x : Scenario) where
  -- the notes of a run from a state are of turns from its own on
  pub run_in_order : (n last : ℕ) (s : State) → Sane x.setup s → last ≤ s.turn → AreInOrder last (run level x n s).notes
  unfolding run
  run_in_order zero last s h low = by_end (ending x 0 s)
    where
      by_end : (e : Option End) → AreInOrder last (unless s e (ended_at s Bound)).notes
      by_end None = tt
      by_end (Some e) = tt
  run_in_order (suc n) last s h low =
      let u = turn level x s in
      let next = turn_more level x s h in
      by_end (ending x (suc n) s) (run_in_order n s.turn u.state (sane-after level x s h) (omega arith))
    where
      by_end : (e : Option End) → AreInOrder s.turn (run level x n (turn level x s).state).notes → AreInOrder last (unless s e (with_front (at_turn s.turn (turn level x s).notes) (run level x n (turn level x s).state))).notes
      by_end (Some e) k = tt
      by_end None k = order_front last s.turn (turn level x s).notes (run level x n (turn level x s).state).notes low k
