-- The calls and listens from records that agree meet what a sane state requires.
use Rattle.std.proofs.Common.{◌≡◌, ◌≢◌, ◌∙◌, ◌/◌, ◌%◌, ◌<◌, ◌≤◌, inl, inr, ℕ, true, false, List, length, Some, arith, ap, sym, subst, refl}
use Rattle.std.specs.Prelude.{Contains, filter_map, bit_and}
use Rattle.std.specs.List.{range_with_len}
use Rattle.std.proofs.lemmas.Bool.{and_from, eq-eqb, false≢true, false_from_ne_true}
use Rattle.std.proofs.lemmas.Bool.Decides.{eqb_tells}
use Rattle.kernel_abi.specs.declared.Health.TheVariants.{Well}
use Rattle.kernel_abi.specs.declared.Fault.{Fault}
use Rattle.region_check.specs.declared.Right.TheVariants.{Read, Write}
use Rattle.task_table.specs.model.State.{Setup, Birth, Call, Listen, State, Task}
use Rattle.task_table.specs.declared.slot.Phase.TheVariants.{Offered}
use Rattle.task_table.specs.model.Reading.{task_at, call_of, listen_of, admits}
use Rattle.task_table.specs.model.Sane.{IsFitCall, AreCalls, IsFitListen, AreListens, AreWell, ArePresent, AreUnmet, AreUnfit, Every, Both}
use Rattle.snapshot.specs.declared.records.TaskRecord.{TaskRecord}
use Rattle.snapshot.specs.Causes.{word}
use Rattle.snapshot.specs.Waits.{is_call, is_listen, server_id, has_number, id_in, offers_to, hears, is_good_wait}
use Rattle.snapshot.specs.Accepted.{IsGoodRecord}
use Rattle.snapshot.specs.Restored.{health_from, task_from, slice_from, call_from, listen_from, call_in, listen_in}
use Rattle.snapshot.proofs.Collected.{found, collected, once}
use Rattle.snapshot.proofs.Agreed.{own, granted, IsCallAt, IsListenAt, call_at, listen_at, no_call, the_call, the_listen, sender_is, heard, offered_is}

well_from : (h : ℕ) (f : Fault) → h ≡ 0 → health_from h f ≡ Well
well_from h f e = ap (λ n. health_from n f) e

module _ (g : Setup) (s : State) (tasks : ℕ → TaskRecord) (good : (i : ℕ) → i < length g.tasks → IsGoodRecord s.now (tasks i)) (waits : (i : ℕ) → i < length g.tasks → is_good_wait (own g i) tasks (length g.tasks) s.next_call i ≡ true) (told : (i : ℕ) → i < length g.tasks → task_at s i ≡ task_from (tasks i)) (calls : s.calls ≡ filter_map (λ i. call_in i (tasks i)) (range_with_len 0 (length g.tasks))) (listens : s.listens ≡ filter_map (λ i. listen_in i (tasks i)) (range_with_len 0 (length g.tasks))) where
  abbrev n : ℕ
  n = length g.tasks

  call_key : (i : ℕ) (c : Call) → call_in i (tasks i) ≡ Some c → c.client.index ≡ i
  call_key i c e = ap (λ (x : Call). x.client.index) (sym (the_call i (tasks i) c e).1)

  listen_key : (i : ℕ) (l : Listen) → listen_in i (tasks i) ≡ Some l → l.task ≡ i
  listen_key i l e = ap (λ (x : Listen). x.task) (sym (the_listen i (tasks i) l e).1)

  -- ## what is found

  pub call_found : (i : ℕ) → i < n → call_of s i ≡ call_in i (tasks i)
  unfolding call_of
  call_found i lt = rw calls (found (λ (c : Call). c.client.index) (λ k. call_in k (tasks k)) call_key 0 n i (omega arith) (omega arith))

  pub listen_found : (i : ℕ) → i < n → listen_of s i ≡ listen_in i (tasks i)
  unfolding listen_of
  listen_found i lt = rw listens (found (λ (l : Listen). l.task) (λ k. listen_in k (tasks k)) listen_key 0 n i (omega arith) (omega arith))

  -- ## where one comes from

  record IsOfCall (c : Call) : Type 0 where
    pub at : ℕ
    pub inside : at < n
    pub calling : is_call (tasks at) ≡ true
    pub agrees : IsCallAt (own g at) tasks n s.next_call at
    pub is : call_from at (tasks at) ≡ c

  record IsOfListen (l : Listen) : Type 0 where
    pub at : ℕ
    pub inside : at < n
    pub listening : is_listen (tasks at) ≡ true
    pub agrees : IsListenAt (own g at) tasks n at
    pub is : listen_from at (tasks at) ≡ l

  of_call : (c : Call) → Contains s.calls c → IsOfCall c
  of_call c here =
      let r = collected (λ (x : Call). x.client.index) (λ k. call_in k (tasks k)) call_key 0 n c (subst (λ (xs : List Call). Contains xs c) calls here) in
      let lt : r.0 < n = omega (arith, r.2) in
      let e = the_call r.0 (tasks r.0) c r.3 in
      record { at = r.0; inside = lt; calling = e.0; agrees = call_at (own g r.0) tasks n s.next_call r.0 (waits r.0 lt) e.0; is = e.1 }

  of_listen : (l : Listen) → Contains s.listens l → IsOfListen l
  of_listen l here =
      let r = collected (λ (x : Listen). x.task) (λ k. listen_in k (tasks k)) listen_key 0 n l (subst (λ (xs : List Listen). Contains xs l) listens here) in
      let lt : r.0 < n = omega (arith, r.2) in
      let e = the_listen r.0 (tasks r.0) l r.3 in
      record { at = r.0; inside = lt; listening = e.0; agrees = listen_at (own g r.0) tasks n s.next_call r.0 (waits r.0 lt) e.0; is = e.1 }

  -- ## the calls

  fit_call : (c : Call) → Contains s.calls c → IsFitCall g c
  fit_call c here =
      let o = of_call c here in
      let t = tasks o.at in
      let message = granted g o.at Read (slice_from t 2) o.agrees.message in
      let reply = granted g o.at Write (slice_from t 4) o.agrees.reply in
      let fit : IsFitCall g (call_from o.at t) = record {
        client = o.inside;
        server = o.agrees.server.inside;
        apart = λ same. o.agrees.server.other (sym same);
        valid = (message.0, reply.0, o.agrees.table);
        readable = message.1;
        writable = reply.1;
      } in
      subst (IsFitCall g) o.is fit

  -- two that stand at one place are one
  one_call : (c d : Call) (o : IsOfCall c) (p : IsOfCall d) → o.at ≡ p.at → c ≡ d
  one_call c d o p e = sym o.is ∙ ap (λ k. call_from k (tasks k)) e ∙ p.is

  one_listen : (l m : Listen) (o : IsOfListen l) (p : IsOfListen m) → o.at ≡ p.at → l ≡ m
  one_listen l m o p e = sym o.is ∙ ap (λ k. listen_from k (tasks k)) e ∙ p.is

  -- a number is had once
  no_twin : (c d : Call) (o : IsOfCall c) (p : IsOfCall d) → c.number ≡ d.number → o.at < p.at → ⊥
  no_twin c d o p same before =
      let mine : word (tasks o.at) 0 ≡ c.number = ap (λ (x : Call). x.number) o.is in
      let its : word (tasks p.at) 0 ≡ d.number = ap (λ (x : Call). x.number) p.is in
      let has : has_number (word (tasks p.at) 0) (tasks o.at) ≡ true = and_from _ _ o.calling (eq-eqb _ _ (mine ∙ same ∙ sym its)) in
      false≢true (sym (p.agrees.alone o.at before) ∙ has)

  pub are_calls : AreCalls g s.next_call s.calls
  are_calls = record {
    once = λ i. rw calls (once (λ (c : Call). c.client.index) (λ k. call_in k (tasks k)) call_key 0 n i);
    fit = fit_call;
    below = λ c here. let o = of_call c here in subst (λ (x : Call). x.number < s.next_call) o.is o.agrees.below;
    client = λ c d here there same. let o = of_call c here in let p = of_call d there in one_call c d o p (ap (λ (x : Call). x.client.index) o.is ∙ same ∙ ap (λ (x : Call). x.client.index) (sym p.is));
    number = λ c d here there same.
        let o = of_call c here in
        let p = of_call d there in
        elim (eqb_tells o.at p.at) [
          | inl equal ↦ one_call c d o p equal.1
          | inr other ↦ let ne : o.at ≢ p.at = other.1 in absurd (ne (omega (arith, no_twin c d o p same, no_twin d c p o (sym same))))
        ];
  }

  -- ## the listens

  few : (i : ℕ) → i < n → (tasks i).wait ≤ 5
  few i lt = (good i lt).wait

  fit_listen : (l : Listen) → Contains s.listens l → IsFitListen g l
  fit_listen l here =
      let o = of_listen l here in
      let t = tasks o.at in
      let buffer = granted g o.at Write (slice_from t 2) o.agrees.buffer in
      let fit : IsFitListen g (listen_from o.at t) = record {
        there = o.inside;
        names = λ b e.
            let w = sender_is t.wait (word t 1) b o.listening (few o.at o.inside) e in
            let name = o.agrees.sender w.0 in
            (subst (λ (x : Birth). x.index < n) w.1 name.inside, subst (λ (x : Birth). x.index ≢ o.at) w.1 name.other);
        valid = buffer.0;
        writable = buffer.1;
      } in
      subst (IsFitListen g) o.is fit

  pub are_listens : AreListens g s.listens
  are_listens = record {
    once = λ i. rw listens (once (λ (l : Listen). l.task) (λ k. listen_in k (tasks k)) listen_key 0 n i);
    fit = fit_listen;
    task = λ l m here there same. let o = of_listen l here in let p = of_listen m there in one_listen l m o p (ap (λ (x : Listen). x.task) o.is ∙ same ∙ ap (λ (x : Listen). x.task) (sym p.is));
  }

  -- ## who waits is well, and there

  well : (i : ℕ) → i < n → (tasks i).health ≡ 0 → (task_at s i).health ≡ Well
  well i lt e = ap (λ (t : Task). t.health) (told i lt) ∙ well_from (tasks i).health _ e

  born : (i : ℕ) → i < n → (task_at s i).births ≡ (tasks i).generation
  born i lt = ap (λ (t : Task). t.births) (told i lt)

  pub are_well : AreWell s
  are_well = record {
    client = λ c here. let o = of_call c here in subst (λ (x : Call). (task_at s x.client.index).health ≡ Well) o.is (well o.at o.inside o.agrees.well);
    listener = λ l here. let o = of_listen l here in subst (λ (x : Listen). (task_at s x.task).health ≡ Well) o.is (well o.at o.inside o.agrees.well);
    alone = λ c l here there same.
        let o = of_call c here in
        let p = of_listen l there in
        let at : p.at ≡ o.at = ap (λ (x : Listen). x.task) p.is ∙ sym same ∙ ap (λ (x : Call). x.client.index) (sym o.is) in
        false≢true (sym (no_call (tasks p.at).wait p.listening) ∙ ap (λ k. is_call (tasks k)) at ∙ o.calling);
  }

  pub are_present : ArePresent Both s
  are_present = record {
    client = λ c here. let o = of_call c here in subst (λ (x : Call). (task_at s x.client.index).births ≡ x.client.birth) o.is (born o.at o.inside);
    server = λ c here any. let o = of_call c here in let name = o.agrees.server in subst (λ (x : Call). (task_at s x.server.index).births ≡ x.server.birth) o.is (born _ name.inside ∙ name.birth);
    named = λ l b here e any.
        let o = of_listen l here in
        let t = tasks o.at in
        let w = sender_is t.wait (word t 1) b o.listening (few o.at o.inside) (ap (λ (x : Listen). x.from) o.is ∙ e) in
        let name = o.agrees.sender w.0 in
        subst (λ (x : Birth). (task_at s x.index).births ≡ x.birth) w.1 (born _ name.inside ∙ name.birth);
  }

  -- ## no listen is met

  pub are_unmet : AreUnmet Every s
  are_unmet l here any =
      let o = of_listen l here in
      let bits : (task_at s o.at).posted ≡ (tasks o.at).posted = ap (λ (t : Task). t.posted) (told o.at o.inside) in
      subst (λ (x : Listen). bit_and (task_at s x.task).posted x.mask ≡ 0) o.is (ap (λ b. bit_and b (word (tasks o.at) 0)) bits ∙ o.agrees.unmet)

  -- no call is offered to a task whose listen admits it
  unheard : (c : Call) (l : Listen) (o : IsOfCall c) (p : IsOfListen l) → c.phase ≡ Offered → c.server.index ≡ l.task → admits l.from c.client ≡ true → ⊥
  unheard c l o p phase to admitted =
      let t = tasks o.at in
      let u = tasks p.at in
      let offered = offered_is t.wait o.calling (ap (λ (x : Call). x.phase) o.is ∙ phase) in
      let place : server_id t % 1024 ≡ p.at = ap (λ (x : Call). x.server.index) o.is ∙ to ∙ ap (λ (x : Listen). x.task) (sym p.is) in
      let birth : (tasks p.at).generation ≡ server_id t / 1024 = ap (λ k. (tasks k).generation) (sym place) ∙ o.agrees.server.birth in
      let whole : server_id t ≡ id_in tasks p.at = omega (arith, place, birth) in
      let offers : offers_to (id_in tasks p.at) t ≡ true = and_from _ _ offered (eq-eqb _ _ whole) in
      let listens_to : admits (listen_from p.at u).from (call_from o.at t).client ≡ true = (λ i. admits (p.is i).from (o.is i).client) ∙ admitted in
      let hear : hears u (id_in tasks o.at) ≡ true = heard u.wait (word u 1) (id_in tasks o.at) (call_from o.at t).client p.listening (few p.at p.inside) refl listens_to in
      false≢true (sym (p.agrees.unfit o.at o.inside) ∙ and_from _ _ offers hear)

  pub are_unfit : AreUnfit Every s
  are_unfit c l here there phase to any = false_from_ne_true _ (unheard c l (of_call c here) (of_listen l there) phase to)
