-- A call that is closed stays closed for the rest of a run, and no byte moves through it.
use Rattle.std.proofs.Common.{◌≡◌, ◌+◌, ◌-◌, ◌<◌, ℕ, zero, suc, Bool, true, false, cond, eqb, List, [], ◌∷◌, ◌++◌, refl, sym, subst, arith}
use Rattle.std.specs.Prelude.{Contains}
use Rattle.std.proofs.lemmas.Bool.{eq-eqb}
use Rattle.kernel_abi.specs.declared.Ending.{Ending}
use Rattle.kernel_abi.specs.declared.Note.{Note}
use Rattle.kernel_abi.specs.declared.Note.TheVariants as note
use Rattle.task_table.specs.model.State.{State, Turn}
use Rattle.task_table.specs.model.Ledger.{Saying, Offers, Takes, Closes, Nothing, saying, is_answer}
use Rattle.task_table.specs.model.Lives.{Life, New, Waiting, Held, Over, Wrong, after_offer, after_take, after_close, after, lived, Lives, IsAsNoted, IsClosed}
use Rattle.task_table.specs.model.Sane.{Sane}
use Rattle.task_table.proofs.model.Lives.{lived_on}
use Rattle.board_model.specs.declared.outcomes.Level.{Level}
use Rattle.board_model.specs.Script.{Scenario, start_of}
use Rattle.board_model.specs.Run.{turn_after, state_after, notes_after}
use Rattle.board_model.specs.Lifetimes.{IsUnused}
use Rattle.board_model.proofs.Further.{last_turn, turn_further}
use Rattle.board_model.proofs.RunKeeps.{sane_turns, state_turns, kept_turns}
use Rattle.board_model.proofs.Lifetimes.{grounded-turn, kept_as_noted, as_noted_first}

-- ## from where it is closed

module _ (level : Level) (x : Scenario) (s : State) (h : Sane x.setup s) (k : ℕ) (gone : IsClosed s k) where
  pub closed_still : (n : ℕ) → IsClosed (state_after level x n s) k
  closed_still n = state_turns level x (λ (z : State). IsClosed z k) (λ z sane now. ((grounded-turn level x z sane).closed k now).1) n s h gone

  pub unused_then : (n : ℕ) → IsUnused (turn_after level x n s) k
  unused_then n =
      let z = state_after level x n s in
      subst (λ (t : Turn). IsUnused t k) (sym (last_turn level x n s)) ((grounded-turn level x z (sane_turns level x n s h)).closed k (closed_still n)).0

-- ## by the note that it was closed

-- it is over, or what cannot be
abbrev IsDone : Life → Type 0
IsDone New = ⊥
IsDone Waiting = ⊥
IsDone Held = ⊥
IsDone Over = Unit {0}
IsDone Wrong = Unit {0}

done_if : (b : Bool) (l m : Life) → IsDone l → IsDone m → IsDone (cond b l m)
done_if true l m h g = h
done_if false l m h g = g

done_offer : (l : Life) → IsDone l → IsDone (after_offer l)
done_offer New h = absurd h
done_offer Waiting h = absurd h
done_offer Held h = absurd h
done_offer Over h = tt
done_offer Wrong h = tt

done_take : (l : Life) → IsDone l → IsDone (after_take l)
done_take New h = absurd h
done_take Waiting h = absurd h
done_take Held h = absurd h
done_take Over h = tt
done_take Wrong h = tt

-- whatever it was
close_done : (b : Bool) (l : Life) → IsDone (after_close b l)
close_done b New = tt
close_done b Waiting = done_if b Wrong Over tt tt
close_done b Held = tt
close_done b Over = tt
close_done b Wrong = tt

done_after : (k : ℕ) (x : Saying) (l : Life) → IsDone l → IsDone (after k x l)
done_after k (Offers call) l h = done_if (eqb call k) (after_offer l) l (done_offer l h) h
done_after k (Takes call) l h = done_if (eqb call k) (after_take l) l (done_take l h) h
done_after k (Closes call ending) l h = done_if (eqb call k) (after_close (is_answer ending) l) l (close_done (is_answer ending) l) h
done_after k Nothing l h = h

done_lived : (k : ℕ) (l : Life) (ns : List Note) → IsDone l → IsDone (lived k l ns)
done_lived k l [] h = h
done_lived k l (n ∷ ns) h = done_lived k (after k (saying n) l) ns (done_after k (saying n) l h)

done_closed : (k : ℕ) (ending : Ending) (l : Life) → IsDone (after k (Closes k ending) l)
done_closed k ending l = subst (λ (b : Bool). IsDone (cond b (after_close (is_answer ending) l) l)) (sym (eq-eqb k k refl)) (close_done (is_answer ending) l)

done_by_note : (k : ℕ) (ending : Ending) (l : Life) (ns : List Note) → Contains ns (note.Close k ending) → IsDone (lived k l ns)
done_by_note k ending l [] here = absurd (omega (arith, here.1))
done_by_note k ending l (n ∷ ns) (zero, lt, same) =
    let is : n ≡ note.Close k ending = same in
    done_lived k (after k (saying n) l) ns (subst (λ (m : Note). IsDone (after k (saying m) l)) (sym is) (done_closed k ending l))
done_by_note k ending l (n ∷ ns) (suc i, lt, same) = done_by_note k ending (after k (saying n) l) ns (i, omega arith, same)

closed_life : (s : State) (k : ℕ) (l : Life) → IsDone l → Lives s k l → IsClosed s k
closed_life s k New done h = absurd done
closed_life s k Waiting done h = absurd done
closed_life s k Held done h = absurd done
closed_life s k Over done h = (h.1, λ still. h.2 still.0 still.1 still.2)
closed_life s k Wrong done h = absurd h

module _ (level : Level) (x : Scenario) (h : Sane x.setup (start_of x)) where
  as_noted_after : (n : ℕ) → IsAsNoted (notes_after level x n (start_of x)) (state_after level x n (start_of x))
  as_noted_after n = kept_turns level x IsAsNoted (kept_as_noted x.setup) n (start_of x) [] h (as_noted_first x)

  -- after the turn that notes it
  closed_by_note : (n k : ℕ) (ending : Ending) → Contains (turn_after level x n (start_of x)).notes (note.Close k ending) → IsClosed (turn_after level x n (start_of x)).state k
  unfolding state_after notes_after
  closed_by_note n k ending here =
      let before = notes_after level x n (start_of x) in
      let now = (turn_after level x n (start_of x)).notes in
      let done : IsDone (lived k (lived k New before) now) = done_by_note k ending (lived k New before) now here in
      closed_life (turn_after level x n (start_of x)).state k (lived k New (before ++ now)) (subst IsDone (sym (lived_on k New before now)) done) ((as_noted_after (suc n)).lives k)

  pub unused_later : (n m k : ℕ) (ending : Ending) → Contains (turn_after level x n (start_of x)).notes (note.Close k ending) → n < m → IsUnused (turn_after level x m (start_of x)) k
  unfolding state_after
  unused_later n m k ending here later =
      let s = start_of x in
      let u = (turn_after level x n s).state in
      let left : ℕ = m - suc n in
      let count : n + suc (m - suc n) ≡ m = omega arith in
      let rest : IsUnused (turn_after level x left u) k = unused_then level x u (sane_turns level x (suc n) s h) k (closed_by_note n k ending here) left in
      subst (λ (i : ℕ). IsUnused (turn_after level x i s) k) count (subst (λ (t : Turn). IsUnused t k) (turn_further level x n left s) rest)
