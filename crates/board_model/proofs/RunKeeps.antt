-- What each turn keeps, a run keeps: of a state, and of a state with the notes that led there.
use Rattle.std.proofs.Common.{◌≡◌, ℕ, zero, suc, List, [], ◌∷◌, ◌++◌, Option, Some, None, refl, sym, subst, ◌∙◌, ap, append_assoc, append-nil}
use Rattle.kernel_abi.specs.declared.Note.{Note}
use Rattle.task_table.specs.model.State.{Setup, State, Turn}
use Rattle.task_table.specs.model.Reading.{chosen}
use Rattle.task_table.specs.model.Start.{begun}
use Rattle.task_table.specs.model.Placed.{ArePlaced}
use Rattle.task_table.specs.model.Sane.{Sane}
use Rattle.task_table.specs.model.Chain.{Chain}
use Rattle.task_table.specs.model.Step.{Step}
use Rattle.task_table.proofs.model.Moves.{IsOutside}
use Rattle.board_model.specs.declared.outcomes.End.{End}
use Rattle.board_model.specs.declared.outcomes.End.TheVariants.{Bound}
use Rattle.board_model.specs.declared.outcomes.Level.{Level}
use Rattle.board_model.specs.Script.{Scenario}
use Rattle.board_model.specs.Turn.{after_events, with_current, stepped, with_registers_noted, turn_of, ended, turn}
use Rattle.board_model.specs.Run.{run, ending, ended_at, with_front, unless, at_turn, turn_after, state_after, notes_after}
use Rattle.board_model.specs.Lifetimes.{notes_in}
use Rattle.board_model.proofs.Events.{outside-after_events}
use Rattle.board_model.proofs.Further.{last_turn}
use Rattle.board_model.proofs.TurnChains.{turn_chain, sane-after, sane-after_events, idle-aside}

-- ## of a state

module _ (level : Level) (x : Scenario) (P : State → Type 0) (each : (s : State) → Sane x.setup s → P s → P (turn level x s).state) where
  pub state_run : (n : ℕ) (s : State) → Sane x.setup s → P s → P (run level x n s).last
  unfolding run
  state_run zero s h o = by_end (ending x 0 s)
    where
      by_end : (e : Option End) → P (unless s e (ended_at s Bound)).last
      by_end None = o
      by_end (Some e) = o
  state_run (suc n) s h o = by_end (ending x (suc n) s) (state_run n (turn level x s).state (sane-after level x s h) (each s h o))
    where
      by_end : (e : Option End) → P (run level x n (turn level x s).state).last → P (unless s e (with_front (at_turn s.turn (turn level x s).notes) (run level x n (turn level x s).state))).last
      by_end None k = k
      by_end (Some e) k = o

pub sane_run : (level : Level) (x : Scenario) (n : ℕ) (s : State) → Sane x.setup s → Sane x.setup (run level x n s).last
sane_run level x n s h = state_run level x (Sane x.setup) (λ z sane same. sane-after level x z sane) n s h h

pub sane_turns : (level : Level) (x : Scenario) (n : ℕ) (s : State) → Sane x.setup s → Sane x.setup (state_after level x n s)
unfolding state_after
sane_turns level x zero s h = h
sane_turns level x (suc n) s h = subst (λ (t : Turn). Sane x.setup t.state) (sym (last_turn level x n s)) (sane-after level x (state_after level x n s) (sane_turns level x n s h))

module _ (level : Level) (x : Scenario) (P : State → Type 0) (each : (s : State) → Sane x.setup s → P s → P (turn level x s).state) where
  pub state_turns : (n : ℕ) (s : State) → Sane x.setup s → P s → P (state_after level x n s)
  unfolding state_after
  state_turns zero s h o = o
  state_turns (suc n) s h o = subst (λ (t : Turn). P t.state) (sym (last_turn level x n s)) (each (state_after level x n s) (sane_turns level x n s h) (state_turns n s h o))

-- ## of a state with notes

-- kept where calls and notes stay, by what happens aside of them, and by a chain of steps
pub record IsKeptByTurns (g : Setup) (P : List Note → State → Type 0) : Type 0 where
  pub same : (old : List Note) (u v : Turn) → v.state.calls ≡ u.state.calls → v.state.next_call ≡ u.state.next_call → v.notes ≡ u.notes → P (old ++ u.notes) u.state → P (old ++ v.notes) v.state
  pub outside : (old : List Note) (u v : Turn) → IsOutside u v → P (old ++ u.notes) u.state → P (old ++ v.notes) v.state
  pub chain : (s : State) (c : ℕ) (old : List Note) (u v : Turn) → ArePlaced g s.memory → Chain (Step g s c) u v → P (old ++ u.notes) u.state → P (old ++ v.notes) v.state

front_notes : (n : ℕ) (ns : List Note) → notes_in (at_turn n ns) ≡ ns
front_notes n [] = refl
front_notes n (y ∷ ys) = ap (λ zs. y ∷ zs) (front_notes n ys)

joined_notes : (xs ys : List (ℕ × Note)) → notes_in (xs ++ ys) ≡ notes_in xs ++ notes_in ys
joined_notes [] ys = refl
joined_notes (y ∷ xs) ys = ap (λ zs. y.1 ∷ zs) (joined_notes xs ys)

-- the notes of one turn and of what follows it
pub notes_then : (n : ℕ) (ns : List Note) (more : List (ℕ × Note)) → notes_in (at_turn n ns ++ more) ≡ ns ++ notes_in more
notes_then n ns more = joined_notes (at_turn n ns) more ∙ ap (λ ms. ms ++ notes_in more) (front_notes n ns)

module _ (level : Level) (x : Scenario) (P : List Note → State → Type 0) (kept : IsKeptByTurns x.setup P) where
  kept_ended : (old : List Note) (u : Turn) → P (old ++ u.notes) u.state → P (old ++ (ended u).notes) (ended u).state
  unfolding ended
  kept_ended old u k = kept.same old u (ended u) refl refl refl k

  kept_begun : (old : List Note) (s : State) → P old s → P (old ++ (begun s).notes) (begun s).state
  unfolding begun
  kept_begun old s k = subst (λ ns. P ns s) (sym (append-nil old)) k

  -- it goes on over a turn
  pub kept_turn : (s : State) (old : List Note) → Sane x.setup s → P old s → P (old ++ (turn level x s).notes) (turn level x s).state
  unfolding turn
  kept_turn s old h o = by_choice (chosen x.setup (after_events x s).state) refl
    where
      t : Turn
      t = after_events x s

      now : P (old ++ t.notes) t.state
      now = kept.outside old (begun s) t (outside-after_events x s) (kept_begun old s o)

      by_choice : (o : Option ℕ) → chosen x.setup (after_events x s).state ≡ o → P (old ++ (ended (turn_of level x.setup o t)).notes) (ended (turn_of level x.setup o t)).state
      by_choice None e = kept_ended old (turn_of level x.setup None t) (kept.outside old t _ (idle-aside level t).outside now)
      by_choice (Some c) e =
          let u = with_current c t in
          let v = with_registers_noted level c (stepped level x.setup c u) in
          kept_ended old v (kept.chain u.state c old u v (sane-after_events x s h).steady.placed (turn_chain level x s c h e) (kept.same old t u refl refl refl now))

  -- over a run
  pub kept_run : (n : ℕ) (s : State) (old : List Note) → Sane x.setup s → P old s → P (old ++ notes_in (run level x n s).notes) (run level x n s).last
  unfolding run
  kept_run zero s old h o = by_end (ending x 0 s)
    where
      by_end : (e : Option End) → P (old ++ notes_in (unless s e (ended_at s Bound)).notes) (unless s e (ended_at s Bound)).last
      by_end None = subst (λ ns. P ns s) (sym (append-nil old)) o
      by_end (Some e) = subst (λ ns. P ns s) (sym (append-nil old)) o
  kept_run (suc n) s old h o =
      let u = turn level x s in
      by_end (ending x (suc n) s) (kept_run n u.state (old ++ u.notes) (sane-after level x s h) (kept_turn s old h o))
    where
      by_end : (e : Option End) → P ((old ++ (turn level x s).notes) ++ notes_in (run level x n (turn level x s).state).notes) (run level x n (turn level x s).state).last →
          P (old ++ notes_in (unless s e (with_front (at_turn s.turn (turn level x s).notes) (run level x n (turn level x s).state))).notes) (unless s e (with_front (at_turn s.turn (turn level x s).notes) (run level x n (turn level x s).state))).last
      by_end (Some e) k = subst (λ ns. P ns s) (sym (append-nil old)) o
      by_end None k =
          let ns = (turn level x s).notes in
          let r = run level x n (turn level x s).state in
          subst (λ ms. P ms r.last) (append_assoc old ns (notes_in r.notes) ∙ ap (λ ms. old ++ ms) (sym (notes_then s.turn ns r.notes))) k

  -- over so many turns
  pub kept_turns : (n : ℕ) (s : State) (old : List Note) → Sane x.setup s → P old s → P (old ++ notes_after level x n s) (state_after level x n s)
  unfolding state_after notes_after
  kept_turns zero s old h o = subst (λ ns. P ns s) (sym (append-nil old)) o
  kept_turns (suc n) s old h o =
      let z = state_after level x n s in
      let before = notes_after level x n s in
      let next = kept_turn z (old ++ before) (sane_turns level x n s h) (kept_turns n s old h o) in
      subst (λ ms. P ms (turn_after level x n s).state) (append_assoc old before (turn_after level x n s).notes)
      (subst (λ (t : Turn). P ((old ++ before) ++ t.notes) t.state) (sym (last_turn level x n s)) next)
