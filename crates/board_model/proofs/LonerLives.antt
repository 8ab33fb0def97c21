-- What two loners have for themselves, after as many own turns of births that began alike.
use Rattle.std.proofs.Common.{◌≡◌, inl, inr, ◌+◌, ◌<◌, ◌≤◌, ℕ, zero, suc, Bool, true, false, cond, [], Option, Some, None, refl, sym, subst, ◌∙◌, ap, arith, eqb-true, eq-eqb}
use Rattle.std.proofs.lemmas.Bool.{false≢true}
use Rattle.kernel_abi.specs.declared.Health.TheVariants.{Well}
use Rattle.region_check.specs.declared.Region.{Region}
use Rattle.region_check.specs.Rights.{is_inside}
use Rattle.mem_banks.specs.Memory.{byte_at}
use Rattle.task_table.specs.model.State.{Setup, State, Turn}
use Rattle.task_table.specs.model.Reading.{task_at, IsIdle}
use Rattle.task_table.specs.model.Effects.{at_birth}
use Rattle.task_table.specs.model.Sane.{Sane}
use Rattle.board_model.specs.declared.outcomes.Level.{Level}
use Rattle.board_model.specs.Script.{Scenario}
use Rattle.board_model.specs.Turn.{turn}
use Rattle.board_model.specs.Run.{turn_after, state_after}
use Rattle.board_model.proofs.Further.{last_turn}
use Rattle.board_model.proofs.TurnChains.{sane-after}
use Rattle.board_model.specs.Loners.{IsLoner, owns, HaveSameBytes, HaveSameOwn, IsUntouched}
use Rattle.board_model.specs.LonerTurns.{IsOwnTurn, IsToItself, LivesAlone, Begins, Waits, Runs, AreBornAlike, is_task, is_own_turn, own_count, GoesByItself}
use Rattle.board_model.proofs.LonerFrame.{untouched_here, untouched_then, alone-turn, bytes-turn}
use Rattle.board_model.proofs.LonerOwnTurns.{same_regions, same_any, own_turns}

-- what it has for itself in z is what it had in s, and it waits for nothing
record IsStill (g : Setup) (i : ℕ) (s z : State) : Type 0 where
  same : IsUntouched s i z
  bytes : (a : ℕ) → owns g i a ≡ true → byte_at z.memory a ≡ byte_at s.memory a

still_here : (g : Setup) (i : ℕ) (s : State) → IsIdle s i → IsStill g i s s
still_here g i s idle = record { same = untouched_here s i idle; bytes = λ a own. refl }

still_then : (g : Setup) (i : ℕ) (s u v : State) → IsStill g i s u → IsStill g i u v → IsStill g i s v
still_then g i s u v a b = record { same = untouched_then s u v i a.same b.same; bytes = λ at own. b.bytes at own ∙ a.bytes at own }

module _ (level : Level) (x : Scenario) (i : ℕ) (loner : IsLoner x.setup i) (s : State) (h : Sane x.setup s) (idle : IsIdle s i) where
  sane_lives : (k : ℕ) (z : State) → LivesAlone level x i s k z → Sane x.setup z
  sane_lives _ _ Begins = h
  sane_lives _ _ (Waits k z life other itself) = sane-after level x z (sane_lives k z life)
  sane_lives _ _ (Runs k z life own itself) = sane-after level x z (sane_lives k z life)

  -- a turn that is not its own leaves it as it is
  still_turn : (z : State) → Sane x.setup z → IsIdle z i → (IsOwnTurn x i z → ⊥) → IsToItself i (turn level x z).notes → IsStill x.setup i z (turn level x z).state
  still_turn z sane waits other itself =
      let same : IsUntouched z i (turn level x z).state = elim (alone-turn z i level x sane waits other) [ inl struck ↦ absurd (itself.not_struck struck) | inr same ↦ same ] in
      record { same = same; bytes = bytes-turn z i level x sane waits other loner }

  idle_lives : (k : ℕ) (z : State) → LivesAlone level x i s k z → IsIdle z i
  idle_lives _ _ Begins = idle
  idle_lives _ _ (Waits k z life other itself) = (still_turn z (sane_lives k z life) (idle_lives k z life) other itself).same.idle
  idle_lives _ _ (Runs k z life own itself) =
      let waits = idle_lives k z life in
      let sane = sane_lives k z life in
      (own_turns level level x x i i z z record { loners = (loner, loner); regions = same_regions x.setup i; registers = refl; flags = refl; bytes = λ a mine. refl; idle = (waits, waits) } sane sane own own itself).1

  -- before its first own turn
  still_first : (k : ℕ) (z : State) → LivesAlone level x i s k z → k ≡ 0 → IsStill x.setup i s z
  still_first _ _ Begins e = still_here x.setup i s idle
  still_first _ _ (Waits k z life other itself) e = still_then x.setup i s z _ (still_first k z life e) (still_turn z (sane_lives k z life) (idle_lives k z life) other itself)
  still_first _ _ (Runs k z life own itself) e = absurd (omega (arith, e))

  -- its last own turn, and what came after it
  record IsLast (k : ℕ) (z : State) : Type 0 where
    from : State
    life : LivesAlone level x i s k from
    own : IsOwnTurn x i from
    itself : IsToItself i (turn level x from).notes
    still : IsStill x.setup i (turn level x from).state z

  last_run : (k n : ℕ) (z : State) → LivesAlone level x i s n z → n ≡ suc k → IsLast k z
  last_run k _ _ Begins e = absurd (omega (arith, e))
  last_run k _ _ (Waits n z life other itself) e =
      let r = last_run k n z life e in
      record { from = r.from; life = r.life; own = r.own; itself = r.itself; still = still_then x.setup i (turn level x r.from).state z _ r.still (still_turn z (sane_lives n z life) (idle_lives n z life) other itself) }
  last_run k _ _ (Runs n z life own itself) e =
      let same : n ≡ k = omega (arith, e) in
      record {
        from = z;
        life = subst (λ m. LivesAlone level x i s m z) same life;
        own = own;
        itself = itself;
        still = still_here x.setup i (turn level x z).state (idle_lives (suc n) (turn level x z).state (Runs n z life own itself));
      }

-- ## two of them

-- after as many own turns; the health is said only once there was one
record AreAlikeAfter (g : Setup) (i j k : ℕ) (z v : State) : Type 0 where
  registers : (task_at z i).registers ≡ (task_at v j).registers
  flags : (task_at z i).flags ≡ (task_at v j).flags
  bytes : HaveSameBytes g i z v
  health : 1 ≤ k → (task_at z i).health ≡ (task_at v j).health

module _ (level other : Level) (x y : Scenario) (i j : ℕ) (s u : State) (born : AreBornAlike x y i j s u) where
  owned_too : (a : ℕ) → owns x.setup i a ≡ true → owns y.setup j a ≡ true
  owned_too a e = sym (same_any (λ (r : Region). is_inside r a) x.setup y.setup i j born.made.regions) ∙ e

  alike_after : (k : ℕ) (z v : State) → LivesAlone level x i s k z → LivesAlone other y j u k v → AreAlikeAfter x.setup i j k z v
  alike_after zero z v one two =
      let a = still_first level x i born.loners.0 s born.sane.0 born.born.0.idle 0 z one refl in
      let b = still_first other y j born.loners.1 u born.sane.1 born.born.1.idle 0 v two refl in
      let entry = born.made.entry in
      let stack = born.made.stack in
      record {
        registers = a.same.registers ∙ born.born.0.registers ∙ (λ w. (at_birth (record { priority = 0; entry = entry w; stack = stack w; regions = []; start = false }) 0 Well).registers) ∙ sym born.born.1.registers ∙ sym b.same.registers;
        flags = a.same.flags ∙ born.born.0.flags ∙ sym born.born.1.flags ∙ sym b.same.flags;
        bytes = λ at own. a.bytes at own ∙ born.bytes at own ∙ sym (b.bytes at (owned_too at own));
        health = λ some. absurd (omega (arith, some));
      }
  alike_after (suc k) z v one two =
      let a = last_run level x i born.loners.0 s born.sane.0 born.born.0.idle k (suc k) z one refl in
      let b = last_run other y j born.loners.1 u born.sane.1 born.born.1.idle k (suc k) v two refl in
      let before = alike_after k a.from b.from a.life b.life in
      let sane_a = sane_lives level x i born.loners.0 s born.sane.0 born.born.0.idle k a.from a.life in
      let sane_b = sane_lives other y j born.loners.1 u born.sane.1 born.born.1.idle k b.from b.life in
      let idle_a = idle_lives level x i born.loners.0 s born.sane.0 born.born.0.idle k a.from a.life in
      let idle_b = idle_lives other y j born.loners.1 u born.sane.1 born.born.1.idle k b.from b.life in
      let after = (own_turns level other x y i j a.from b.from record { loners = born.loners; regions = born.made.regions; registers = before.registers; flags = before.flags; bytes = before.bytes; idle = (idle_a, idle_b) } sane_a sane_b a.own b.own a.itself).0 in
      record {
        registers = a.still.same.registers ∙ after.registers ∙ sym b.still.same.registers;
        flags = a.still.same.flags ∙ after.flags ∙ sym b.still.same.flags;
        bytes = λ at own. a.still.bytes at own ∙ after.bytes at own ∙ sym (b.still.bytes at (owned_too at own));
        health = λ some. a.still.same.health ∙ after.health ∙ sym b.still.same.health;
      }

  pub same_after : (k : ℕ) (z v : State) → LivesAlone level x i s (suc k) z → LivesAlone other y j u (suc k) v → HaveSameOwn x.setup i j z v
  same_after k z v one two =
      let r = alike_after (suc k) z v one two in
      record { registers = r.registers; flags = r.flags; health = r.health (omega arith); bytes = r.bytes }

-- ## turns of a run

mine_is : (i : ℕ) (o : Option ℕ) → is_task i o ≡ true → o ≡ Some i
mine_is i None e = absurd (false≢true e)
mine_is i (Some c) e = ap Some (eqb-true c i e)

is_mine : (i : ℕ) (o : Option ℕ) → o ≡ Some i → is_task i o ≡ true
is_mine i o e = ap (is_task i) e ∙ eq-eqb i i refl

after_is : (level : Level) (x : Scenario) (n : ℕ) (s : State) → state_after level x (suc n) s ≡ (turn_after level x n s).state
unfolding state_after
after_is level x n s = refl

no_turns : (level : Level) (x : Scenario) (s : State) → state_after level x zero s ≡ s
unfolding state_after
no_turns level x s = refl

pub lives_after : (level : Level) (x : Scenario) (i : ℕ) (s : State) (n : ℕ) → GoesByItself level x i s n → LivesAlone level x i s (own_count level x i s n) (state_after level x n s)
unfolding own_count
lives_after level x i s zero itself = rw (no_turns level x s) Begins
lives_after level x i s (suc n) itself =
    let z = state_after level x n s in
    let now : turn_after level x n s ≡ turn level x z = last_turn level x n s in
    let next : state_after level x (suc n) s ≡ (turn level x z).state = after_is level x n s ∙ ap (λ (t : Turn). t.state) now in
    rw next (by_own (is_own_turn x i z) refl (lives_after level x i s n (λ m lt. itself m (omega arith))) (subst (λ (t : Turn). IsToItself i t.notes) now (itself n (omega arith))))
  where
    by_own : (b : Bool) → is_own_turn x i (state_after level x n s) ≡ b → LivesAlone level x i s (own_count level x i s n) (state_after level x n s) → IsToItself i (turn level x (state_after level x n s)).notes → LivesAlone level x i s (own_count level x i s n + cond b 1 0) (turn level x (state_after level x n s)).state
    by_own true e life itself =
        let one : own_count level x i s n + 1 ≡ suc (own_count level x i s n) = omega arith in
        rw one (Runs _ (state_after level x n s) life (mine_is i _ e) itself)
    by_own false e life itself =
        let none : own_count level x i s n + 0 ≡ own_count level x i s n = omega arith in
        rw none (Waits _ (state_after level x n s) life (λ own. false≢true (sym e ∙ is_mine i _ own)) itself)

module _ (level other : Level) (x y : Scenario) (i j : ℕ) (s u : State) (born : AreBornAlike x y i j s u) where
  pub same_in_runs : (n m : ℕ) → GoesByItself level x i s n → GoesByItself other y j u m → 0 < own_count level x i s n → own_count other y j u m ≡ own_count level x i s n → HaveSameOwn x.setup i j (state_after level x n s) (state_after other y m u)
  same_in_runs n m itself itself_too some same =
      let r = alike_after level other x y i j s u born (own_count level x i s n) (state_after level x n s) (state_after other y m u) (lives_after level x i s n itself) (subst (λ k. LivesAlone other y j u k (state_after other y m u)) same (lives_after other y j u m itself_too)) in
      record { registers = r.registers; flags = r.flags; health = r.health some; bytes = r.bytes }
