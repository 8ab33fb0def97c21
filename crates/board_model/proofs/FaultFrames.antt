-- What a post and a fault leave alone.
use Rattle.std.proofs.Common.{◌≡◌, ◌≢◌, ◌-◌, ◌^◌, ◌<◌, ℕ, Bool, true, false, cond, [], ◌∷◌, length, Option, Some, None, refl, sym, subst, ◌∙◌, ap, eqb, bit_and, bit_or, arith, inl, inr}
use Rattle.std.proofs.lemmas.Bool.{eq-eqb, eqb-true, false≢true}
use Rattle.kernel_abi.specs.declared.Ending.TheVariants.{Client}
use Rattle.kernel_abi.specs.declared.Fault.{Fault}
use Rattle.kernel_abi.specs.declared.Health.{Health}
use Rattle.kernel_abi.specs.declared.Health.TheVariants.{Faulted}
use Rattle.kernel_abi.specs.declared.Note.TheVariants as note
use Rattle.task_table.specs.model.State.{Setup, State, Task, Listen, Turn}
use Rattle.task_table.specs.model.Reading.{task_at, listen_of, IsIdle, IsSameAt, IsSameBut}
use Rattle.task_table.specs.model.Effects.{with_task, without_call, without_listen, changed, noted, with_health, with_results, given, returned, bits_added, bits_cleared, woken_by, woken, posted, closed, faulted_as, faulted}
use Rattle.task_table.specs.model.Start.{begun}
use Rattle.task_table.specs.model.Step.{ReadsEntries}
use Rattle.task_table.proofs.model.Changes.{task_at-with_task, call_of-with_task, listen_of-with_task, length-with_task, call_of-without_call, listen_of-without_call, call_of-without_listen, listen_of-without_listen, same_but-with_task, same_but-without_call, same_but-without_listen, same_but_then, task_at-without_call, task_at-without_listen}
use Rattle.task_table.proofs.model.Frames.{same_but-posted}
use Rattle.task_table.proofs.model.Moves.{aside-posted}
use Rattle.board_model.specs.Faults.{IsSameButForFault}

-- ## a post does the same to a task that is the same

both-with_task : (i : ℕ) (x y : Task) (s u : State) → y ≡ x → i < length s.tasks → i < length u.tasks → IsSameAt i s u → IsSameAt i (with_task i x s) (with_task i y u)
both-with_task i x y s u e a b h = record {
  task = task_at-with_task u i y b ∙ e ∙ sym (task_at-with_task s i x a);
  call = call_of-with_task u i i y ∙ h.call ∙ sym (call_of-with_task s i i x);
  listen = listen_of-with_task u i i y ∙ h.listen ∙ sym (listen_of-with_task s i i x);
}

both-without_listen : (i : ℕ) (s u : State) → IsSameAt i s u → IsSameAt i (without_listen i s) (without_listen i u)
both-without_listen i s u h = record {
  task = task_at-without_listen u i i ∙ h.task ∙ sym (task_at-without_listen s i i);
  call = call_of-without_listen u i i ∙ h.call ∙ sym (call_of-without_listen s i i);
  listen = listen_of-without_listen u i ∙ sym (listen_of-without_listen s i);
}

there : (i j : ℕ) (x : Task) (s : State) → j < length s.tasks → j < length (with_task i x s).tasks
there i j x s inside = rw (length-with_task s i x) inside

both-woken_by : (i : ℕ) (lo : Option Listen) (t u : Turn) → i < length t.state.tasks → i < length u.state.tasks → IsSameAt i t.state u.state → IsSameAt i (woken_by i lo t).state (woken_by i lo u).state
unfolding returned noted given bits_cleared
both-woken_by i None t u a b h = h
both-woken_by i (Some l) t u a b h = by_bits (eqb (under t) 0) (eqb (under u) 0) (ap (λ n. eqb n 0) same_bits)
  where
    under : Turn → ℕ
    under v = bit_and (task_at v.state i).posted l.mask

    same_bits : under u ≡ under t
    same_bits = ap (λ (x : Task). bit_and x.posted l.mask) h.task

    cleared : Turn → Turn
    cleared v = bits_cleared i l.mask (changed (without_listen i) v)

    answered : Turn → Turn
    answered v = returned i (given i (0 ∷ 0xFFFF ∷ under v ∷ 0 ∷ 0 ∷ 0 ∷ []) (cleared v))

    inside : (s : State) → i < length s.tasks → i < length (without_listen i s).tasks
    inside s lt = rw (same_but-without_listen s i).count lt

    both_unlistened : IsSameAt i (without_listen i t.state) (without_listen i u.state)
    both_unlistened = both-without_listen i t.state u.state h

    both_cleared : IsSameAt i (cleared t).state (cleared u).state
    both_cleared = both-with_task i _ _ _ _ (ap (λ (x : Task). record x { posted = bit_and x.posted (2 ^ 32 - 1 - l.mask) }) both_unlistened.task) (inside t.state a) (inside u.state b) both_unlistened

    both_answered : IsSameAt i (answered t).state (answered u).state
    both_answered = both-with_task i _ _ _ _ (λ j. let x = both_cleared.task j in record x { registers = with_results (0 ∷ 0xFFFF ∷ same_bits j ∷ 0 ∷ 0 ∷ 0 ∷ []) x.registers }) (there i i _ _ (inside t.state a)) (there i i _ _ (inside u.state b)) both_cleared

    by_bits : (x y : Bool) → y ≡ x → IsSameAt i (cond x t (answered t)).state (cond y u (answered u)).state
    by_bits true true e = h
    by_bits false false e = both_answered
    by_bits true false e = absurd (false≢true e)
    by_bits false true e = absurd (false≢true (sym e))

pub both-posted : (i bits : ℕ) (t u : Turn) → i < length t.state.tasks → i < length u.state.tasks → IsSameAt i t.state u.state → IsSameAt i (posted i bits t).state (posted i bits u).state
unfolding posted woken bits_added noted
both-posted i bits t u a b h =
    let v = bits_added i bits t in
    let w = bits_added i bits u in
    let added : IsSameAt i v.state w.state = both-with_task i _ _ t.state u.state (ap (λ (x : Task). record x { posted = bit_or x.posted bits }) h.task) a b h in
    rw added.listen (both-woken_by i (listen_of v.state i) v w (there i i _ t.state a) (there i i _ u.state b) added)

-- ## a fault

-- u is t but for a fault of task c, and nothing was written, or read at another task's place but entries of lease tables
pub record IsLoneFault (g : Setup) (c : ℕ) (t u : Turn) : Type 0 where
  pub same : IsSameButForFault g c t.state u.state
  pub writes : u.writes ≡ t.writes
  pub reads : ReadsEntries t u

-- before it nothing happened but reads of entries
pub lone_after : (g : Setup) (c : ℕ) (t u v : Turn) → u.state ≡ t.state → u.writes ≡ t.writes → ReadsEntries t u → IsLoneFault g c u v → IsLoneFault g c t v
lone_after g c t u v state writes reads h = record {
  same = subst (λ s. IsSameButForFault g c s v.state) state h.same;
  writes = h.writes ∙ writes;
  reads = λ r here. elim (h.reads r here) [ inl before ↦ reads r before | inr entry ↦ inr entry ];
}

module _ (g : Setup) (c : ℕ) (f : Fault) (t : Turn) where
  abbrev s : State
  s = t.state

  -- it is Faulted and waits for nothing, and no one gets anything
  shut : Turn
  shut = closed c Client (noted (note.Fault c f) (changed (without_listen c) (with_health c (Faulted f) t)))

  stopped : State
  stopped = with_task c record (task_at s c) { health = Faulted f } s

  same_but-shut : IsSameBut c s shut.state
  unfolding shut stopped closed noted with_health
  same_but-shut =
      let unlistened = without_listen c stopped in
      same_but_then c s stopped (without_call c unlistened) (same_but-with_task s c _)
      (same_but_then c stopped unlistened (without_call c unlistened) (same_but-without_listen stopped c) (same_but-without_call unlistened c))

  task-shut : c < length s.tasks → task_at shut.state c ≡ record (task_at s c) { health = Faulted f }
  unfolding shut stopped closed noted with_health
  task-shut inside =
      let unlistened = without_listen c stopped in
      task_at-without_call unlistened c c ∙ task_at-without_listen stopped c c ∙ task_at-with_task s c _ inside

  idle-shut : IsIdle shut.state c
  unfolding shut stopped closed noted with_health
  idle-shut =
      let unlistened = without_listen c stopped in
      record { call = call_of-without_call unlistened c; listen = listen_of-without_call unlistened c c ∙ listen_of-without_listen stopped c }

  silent-shut : (shut.writes ≡ t.writes) × (shut.reads ≡ t.reads)
  unfolding shut closed noted with_health
  silent-shut = (refl, refl)

  devices-shut : shut.state.devices ≡ s.devices
  unfolding shut closed noted with_health with_task without_call without_listen
  devices-shut = refl

  same_at-shut : (i : ℕ) → i ≢ c → IsSameAt i s shut.state
  same_at-shut i ne = record { task = same_but-shut.task i ne; call = same_but-shut.call i ne; listen = same_but-shut.listen i ne }

  -- the task is as it was, but Faulted
  pub task-faulted : c < length t.state.tasks → task_at (faulted g c f t).state c ≡ record (task_at t.state c) { health = Faulted f }
  unfolding shut faulted_as
  task-faulted inside = by_zero (eqb c 0) refl
    where
      by_zero : (b : Bool) → eqb c 0 ≡ b → task_at (cond b shut (posted 0 g.fault_bits shut)).state c ≡ record (task_at s c) { health = Faulted f }
      by_zero true e = task-shut inside
      by_zero false e = (same_but-posted 0 g.fault_bits shut).task c (λ same. false≢true (sym e ∙ eq-eqb c 0 same)) ∙ task-shut inside

  faulted_is : (x y : Task) → y ≡ record x { health = Faulted f } → y ≡ record x { health = y.health }
  faulted_is x y e = e ∙ ap (λ (h : Health). record x { health = h }) (sym (ap (λ (z : Task). z.health) e))

  lone : (u : Turn) → IsSameButForFault g c s u.state → u.writes ≡ t.writes → u.reads ≡ t.reads → IsLoneFault g c t u
  lone u same writes reads = record { same = same; writes = writes; reads = λ r here. inl (rw reads at here) }

  pub lone-faulted : c < length t.state.tasks → IsLoneFault g c t (faulted g c f t)
  unfolding shut faulted_as begun
  lone-faulted inside = by_zero (eqb c 0) refl
    where
      first : 0 < length s.tasks
      first = omega (arith, inside)

      by_zero : (b : Bool) → eqb c 0 ≡ b → IsLoneFault g c t (cond b shut (posted 0 g.fault_bits shut))
      by_zero true e = lone shut record {
        task = faulted_is (task_at s c) (task_at shut.state c) (task-shut inside);
        idle = idle-shut;
        supervisor = λ ne. absurd (ne (eqb-true c 0 e));
        others = λ i apart above. same_at-shut i apart;
        memory = same_but-shut.memory;
        devices = devices-shut;
        now = same_but-shut.now;
        next_call = same_but-shut.next_call;
        lines = same_but-shut.lines;
      } silent-shut.0 silent-shut.1
      by_zero false e =
          let u = posted 0 g.fault_bits shut in
          let answered = same_but-posted 0 g.fault_bits shut in
          let posting = aside-posted 0 g.fault_bits shut in
          let aside = posting.outside in
          let apart : c ≢ 0 = λ same. false≢true (sym e ∙ eq-eqb c 0 same) in
          let other : 0 ≢ c = λ same. apart (sym same) in
          lone u record {
            task = faulted_is (task_at s c) (task_at u.state c) (answered.task c apart ∙ task-shut inside);
            idle = record { call = answered.call c apart ∙ idle-shut.call; listen = answered.listen c apart ∙ idle-shut.listen };
            supervisor = λ ne. both-posted 0 g.fault_bits (begun s) shut first (rw same_but-shut.count first) (same_at-shut 0 other);
            others = λ i other above. let o = same_at-shut i other in record { task = answered.task i above ∙ o.task; call = answered.call i above ∙ o.call; listen = answered.listen i above ∙ o.listen };
            memory = answered.memory ∙ same_but-shut.memory;
            devices = posting.devices ∙ devices-shut;
            now = answered.now ∙ same_but-shut.now;
            next_call = answered.next_call ∙ same_but-shut.next_call;
            lines = answered.lines ∙ same_but-shut.lines;
          } (aside.writes ∙ silent-shut.0) (aside.reads ∙ silent-shut.1)
