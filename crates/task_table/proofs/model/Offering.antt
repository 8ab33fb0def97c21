-- A call that is offered, and a task that is born again, keep a state sane.
use Rattle.std.proofs.Common.{◌≡◌, ◌≢◌, ◌+◌, ◌%◌, ◌<◌, ◌≤◌, inl, inr, ℕ, zero, suc, Bool, true, false, cond, [], ◌∷◌, length, Option, Some, None, refl, sym, ◌∙◌, ap, arith, bit_and, IfSome}
use Rattle.std.specs.Prelude.{Contains, fold}
use Rattle.std.specs.List.{range_with_len}
use Rattle.std.proofs.lemmas.Bool.{eq-eqb, false≢true}
use Rattle.std.proofs.lemmas.Bool.Decides.{eqb_tells}
use Rattle.std.proofs.lemmas.List.Elements.{Contains-push}
use Rattle.kernel_abi.specs.Ids.{dead_code_of}
use Rattle.kernel_abi.specs.declared.Ending.{Ending}
use Rattle.kernel_abi.specs.declared.Ending.TheVariants.{Restart}
use Rattle.kernel_abi.specs.declared.Health.{Health}
use Rattle.kernel_abi.specs.declared.Health.TheVariants.{Well, Stopped}
use Rattle.kernel_abi.specs.declared.Note.TheVariants as note
use Rattle.task_table.specs.model.State.{Setup, Call, Listen, State, Birth, One, Message, Turn}
use Rattle.task_table.specs.model.Reading.{task_at, setup_at, line_at, call_of, listen_of, admits, IsIdle}
use Rattle.task_table.specs.model.Effects.{with_task, with_call, without_call, without_listen, changed, noted, given, returned, closed, offered, handed, at_birth, reborn, is_to, awaits, dead_answered, restarted}
use Rattle.task_table.specs.model.Sends.{taken_at_once, offers_call}
use Rattle.task_table.specs.model.Sane.{Sane, IsSaneBut, Every, Both, IsFitCall, IsSaneTask, IsFaultKnown}
use Rattle.task_table.proofs.model.Changes.{length-with_task, call_of-without_call, call_of-without_listen, listen_of-without_listen}
use Rattle.task_table.proofs.model.Clients.{option_cases, found_call, client_is}
use Rattle.task_table.proofs.model.Handing.{keeps-handed}
use Rattle.task_table.proofs.model.Once.{once_more}
use Rattle.task_table.proofs.model.Keeps.{unmade, added_in, idle_call, idle_listen, task_rule, dropped_call, dropped_listen, keeps-without_call, keeps-without_listen}
use Rattle.task_table.proofs.model.Posting.{still, found_listen, keeps-given, keeps-returned}
use Rattle.task_table.proofs.model.Ranges.{within_ram-good}

-- ## a call is offered

-- only for its client it is not required that no offer fits a listen
pub keeps-with_call : {F T : ℕ → Type 0} {W : ℕ → ℕ → Type 0} {g : Setup} {s : State} (c : Call) → IsSaneBut Every Every T W g s → IsFitCall g c → c.number ≡ s.next_call → (task_at s c.client.index).health ≡ Well → IsIdle s c.client.index → (task_at s c.client.index).births ≡ c.client.birth → (task_at s c.server.index).births ≡ c.server.birth → (F c.client.index → ⊥) → IsSaneBut Every F T W g (with_call c s)
unfolding with_call task_at line_at
keeps-with_call {s = s} c h fit number well idle client server apart = record {
  steady = record {
    calls = record {
      once = once_more (λ d. d.client.index) s.calls c h.steady.calls.once (unmade s c.client.index idle.call);
      fit = λ d here. elim (added_in s.calls c d here) [ inl old ↦ h.steady.calls.fit d old | inr new ↦ rw new fit ];
      below = λ d here. elim (added_in s.calls c d here) [ inl old ↦ let b = h.steady.calls.below d old in omega arith | inr new ↦ rw new (omega (arith, number)) ];
      client = λ d e x y same. elim (added_in s.calls c d x) [
        | inl old ↦ elim (added_in s.calls c e y) [ inl old2 ↦ h.steady.calls.client d e old old2 same | inr new2 ↦ absurd (idle_call s c.client.index d idle.call old (same ∙ ap (λ (k : Call). k.client.index) new2)) ]
        | inr new ↦ elim (added_in s.calls c e y) [ inl old2 ↦ absurd (idle_call s c.client.index e idle.call old2 (sym same ∙ ap (λ (k : Call). k.client.index) new)) | inr new2 ↦ new ∙ sym new2 ]
      ];
      number = λ d e x y same. elim (added_in s.calls c d x) [
        | inl old ↦ elim (added_in s.calls c e y) [ inl old2 ↦ h.steady.calls.number d e old old2 same | inr new2 ↦ absurd (fresh d old (same ∙ ap (λ (k : Call). k.number) new2)) ]
        | inr new ↦ elim (added_in s.calls c e y) [ inl old2 ↦ absurd (fresh e old2 (sym same ∙ ap (λ (k : Call). k.number) new)) | inr new2 ↦ new ∙ sym new2 ]
      ];
    };
    listens = h.steady.listens;
    tasks = h.steady.tasks;
    lines = h.steady.lines;
    as_many = h.steady.as_many;
    current = h.steady.current;
    flash = h.steady.flash;
    flash_bytes = h.steady.flash_bytes;
    devices = h.steady.devices;
    bytes = h.steady.bytes;
    placed = h.steady.placed;
  };
  well = record {
    client = λ d here. elim (added_in s.calls c d here) [ inl old ↦ h.well.client d old | inr new ↦ rw new well ];
    listener = h.well.listener;
    alone = λ d l x y. elim (added_in s.calls c d x) [ inl old ↦ h.well.alone d l old y | inr new ↦ rw new (λ e. absurd (idle_listen s c.client.index l idle.listen y (sym e))) ];
  };
  present = record {
    client = λ d here. elim (added_in s.calls c d here) [ inl old ↦ h.present.client d old | inr new ↦ rw new client ];
    server = λ d here w. elim (added_in s.calls c d here) [ inl old ↦ h.present.server d old w | inr new ↦ rw new server ];
    named = h.present.named;
  };
  unmet = h.unmet;
  unfit = λ d l x y o e f. elim (added_in s.calls c d x) [ inl old ↦ h.unfit d l old y o e tt | inr new ↦ absurd (apart (rw new at f)) ];
  ahead = h.ahead;
}
  where
    fresh : (d : Call) → Contains s.calls d → d.number ≡ c.number → ⊥
    fresh d here e = let b = h.steady.calls.below d here in omega arith

new_here : (s : State) (k : Call) → Contains (with_call k s).calls k
unfolding with_call
new_here s k = Contains-push s.calls k

same_listen : (s : State) (k : Call) (i : ℕ) → listen_of (with_call k s) i ≡ listen_of s i
unfolding with_call listen_of
same_listen s k i = refl

-- then the call is taken at once, or fits no listen
pub sane-offers : {g : Setup} (k : Call) (t : Turn) → Sane g t.state → IsFitCall g k → k.number ≡ t.state.next_call → (task_at t.state k.client.index).health ≡ Well → IsIdle t.state k.client.index → (task_at t.state k.client.index).births ≡ k.client.birth → (task_at t.state k.server.index).births ≡ k.server.birth → Sane g (offers_call k t).state
unfolding offered noted
sane-offers {g} k t h fit number well idle client server = by_listen (listen_of t.state k.server.index) refl
  where
    But : ℕ → Type 0
    But j = j ≢ k.client.index

    made : State
    made = with_call k t.state

    opened : IsSaneBut Every But Every Both g (with_call k t.state)
    opened = keeps-with_call k h fit number well idle client server (λ f. f refl)

    inside : k.server.index < length (with_call k t.state).tasks
    inside = rw opened.steady.as_many fit.server

    -- the new call fits no listen
    settled : ((l : Listen) → Contains (with_call k t.state).listens l → k.server.index ≡ l.task → admits l.from k.client ≡ false) → Sane g (with_call k t.state)
    settled fits = record {
      steady = opened.steady;
      well = opened.well;
      present = opened.present;
      unmet = opened.unmet;
      ahead = opened.ahead;
      unfit = λ c l x y o e f. elim (eqb_tells c.client.index k.client.index) [
        | inl same ↦ let is : c ≡ k = opened.steady.calls.client c k x (new_here t.state k) same.1 in rw is (fits l y (rw is at e))
        | inr other ↦ opened.unfit c l x y o e other.1
      ];
    }

    by_listen : (o : Option Listen) → listen_of t.state k.server.index ≡ o → Sane g (taken_at_once k o (offered k t)).state
    by_listen None e = settled (λ l here same. absurd (idle_listen (with_call k t.state) k.server.index l (same_listen t.state k k.server.index ∙ e) here (sym same)))
    by_listen (Some l) e = by_fit (admits l.from k.client) refl
      where
        r : Contains (with_call k t.state).listens l × (l.task ≡ k.server.index)
        r = found_listen (with_call k t.state) k.server.index l (same_listen t.state k k.server.index ∙ e)

        by_fit : (b : Bool) → admits l.from k.client ≡ b → Sane g (cond b (returned k.server.index (handed (Message k.number) k l.buffer (offered k t))) (offered k t)).state
        by_fit false unfit = settled (λ m here same. let is : m ≡ l = opened.steady.listens.task m l here r.0 (sym same ∙ sym r.1) in rw is unfit)
        by_fit true fits = keeps-returned k.server.index _ (keeps-handed (Message k.number) k l.buffer (offered k t) opened (λ j ne. ne) inside (within_ram-good g _ l.task l.buffer opened.steady.placed (opened.steady.listens.fit l r.0).writable))

-- ## a task is born again

pub keeps-closed : {M F T : ℕ → Type 0} {W : ℕ → ℕ → Type 0} {g : Setup} (i : ℕ) (ending : Ending) (t : Turn) → IsSaneBut M F T W g t.state → IsSaneBut M F T W g (closed i ending t).state
unfolding closed
keeps-closed i ending t h = keeps-without_call i h

-- the one call of a client, and the one listen of a task
is_call_of : {M F T : ℕ → Type 0} {W : ℕ → ℕ → Type 0} {g : Setup} {s : State} → IsSaneBut M F T W g s → (c : Call) (k : ℕ) → Contains s.calls c → c.client.index ≡ k → call_of s k ≡ Some c
is_call_of {s = s} h c k here e = elim (option_cases (call_of s k)) [
  | inl none ↦ absurd (idle_call s k c none here e)
  | inr some ↦ some.1 ∙ ap Some (h.steady.calls.client some.0 c (found_call s k some.0 some.1) here (client_is s k some.0 some.1 ∙ sym e))
]

is_listen_of : {M F T : ℕ → Type 0} {W : ℕ → ℕ → Type 0} {g : Setup} {s : State} → IsSaneBut M F T W g s → (l : Listen) (k : ℕ) → Contains s.listens l → l.task ≡ k → listen_of s k ≡ Some l
is_listen_of {s = s} h l k here e = elim (option_cases (listen_of s k)) [
  | inl none ↦ absurd (idle_listen s k l none here e)
  | inr some ↦ let r = found_listen s k some.0 some.1 in some.1 ∙ ap Some (h.steady.listens.task some.0 l r.0 here (r.1 ∙ sym e))
]

pub fold_keeps : {B : Type 0} (P : ℕ → B → Type 0) (f : B → ℕ → B) (a n : ℕ) (b : B) → P a b → ((k : ℕ) (x : B) → a ≤ k → k < a + n → P k x → P (k + 1) (f x k)) → P (a + n) (fold f b (range_with_len a n))
fold_keeps P f a zero b h step = let e : a ≡ a + 0 = omega arith in rw (← e) h
fold_keeps P f a (suc n) b h step =
    let e : a + 1 + n ≡ a + suc n = omega arith in
    rw e at (fold_keeps P f (a + 1) n (f b a) (step a b (omega arith) (omega arith) h) (λ k x from below. step k x (omega arith) (omega arith)))

-- of the waits for task i, only those of the tasks below k are required to be for a present birth
Below : ℕ → ℕ → ℕ → ℕ → Type 0
Below i k w p = p ≡ i → w < k

to_whom : (i : ℕ) (o : Option Call) → is_to i o ≡ true → (c : Call) × (o ≡ Some c)
to_whom i None h = absurd (false≢true h)
to_whom i (Some c) h = (c, refl)

not_to : (i : ℕ) (o : Option Call) (c : Call) → is_to i o ≡ false → o ≡ Some c → c.server.index ≢ i
not_to i None c h e = cc
not_to i (Some d) c h e = λ same. let is : d ≡ c = cc in absurd (false≢true (sym h ∙ eq-eqb d.server.index i (ap (λ (x : Call). x.server.index) is ∙ same)))

awaits_not : (i : ℕ) (l : Listen) (b : Birth) → awaits i (Some l) ≡ false → l.from ≡ One b → b.index ≢ i
awaits_not i l b h e = λ same. absurd (false≢true (sym (rw e at h) ∙ eq-eqb b.index i same))

not_awaited : (i : ℕ) (o : Option Listen) (l : Listen) (b : Birth) → awaits i o ≡ false → o ≡ Some l → l.from ≡ One b → b.index ≢ i
not_awaited i None l b h e from = cc
not_awaited i (Some m) l b h e from = let is : m ≡ l = cc in awaits_not i l b (ap (λ x. awaits i (Some x)) (sym is) ∙ h) from

closed_calls : (k : ℕ) (t : Turn) (c : Call) → Contains (closed k Restart t).state.calls c → Contains (without_call k t.state).calls c
unfolding closed
closed_calls k t c h = h

closed_listens : (k : ℕ) (t : Turn) (l : Listen) → Contains (closed k Restart t).state.listens l → Contains t.state.listens l
unfolding closed without_call
closed_listens k t l h = h

unlistened_calls : (k : ℕ) (t : Turn) (c : Call) → Contains (changed (without_listen k) t).state.calls c → Contains t.state.calls c
unfolding without_listen
unlistened_calls k t c h = h

module _ {g : Setup} (i : ℕ) where
  keeps-reborn : (start : Bool) (s : State) → Sane g s → i < length s.tasks → IsIdle s i → IsSaneBut Every Every Every (Below i 0) g (reborn g i start s)
  unfolding reborn with_task line_at Below
  keeps-reborn start s h inside idle =
      let x = at_birth (setup_at g i) ((task_at s i).births + 1) (cond start Well Stopped) in
      record {
        steady = record {
          calls = h.steady.calls;
          listens = h.steady.listens;
          tasks = λ j below. task_rule (λ k t. IsSaneTask t) s i x j inside (λ same. born (cond start Well Stopped) (known start)) (λ ne. h.steady.tasks j (rw length-with_task at below));
          lines = h.steady.lines;
          as_many = length-with_task s i x ∙ h.steady.as_many;
          current = rw length-with_task h.steady.current;
          flash = h.steady.flash;
          flash_bytes = h.steady.flash_bytes;
          devices = h.steady.devices;
          bytes = h.steady.bytes;
          placed = h.steady.placed;
        };
        well = record {
          client = λ c here. task_rule (λ k t. t.health ≡ Well) s i x c.client.index inside (λ same. absurd (idle_call s i c idle.call here same)) (λ ne. h.well.client c here);
          listener = λ l here. task_rule (λ k t. t.health ≡ Well) s i x l.task inside (λ same. absurd (idle_listen s i l idle.listen here same)) (λ ne. h.well.listener l here);
          alone = h.well.alone;
        };
        present = record {
          client = λ c here. task_rule (λ k t. t.births ≡ c.client.birth) s i x c.client.index inside (λ same. absurd (idle_call s i c idle.call here same)) (λ ne. h.present.client c here);
          server = λ c here w. task_rule (λ k t. t.births ≡ c.server.birth) s i x c.server.index inside (λ same. absurd (none (w same))) (λ ne. h.present.server c here tt);
          named = λ l b here e w. task_rule (λ k t. t.births ≡ b.birth) s i x b.index inside (λ same. absurd (none (w same))) (λ ne. h.present.named l b here e tt);
        };
        unmet = λ l here m. task_rule (λ k t. bit_and t.posted l.mask ≡ 0) s i x l.task inside (λ same. absurd (idle_listen s i l idle.listen here same)) (λ ne. h.unmet l here tt);
        unfit = h.unfit;
        ahead = λ j below t. task_rule (λ k y. IfSome y.timer (λ z. s.now < z.deadline)) s i x j inside (λ same. tt) (λ ne. h.ahead j (rw length-with_task at below) tt);
      }
    where
      none : {w : ℕ} → w < 0 → ⊥
      none lt = absurd (omega arith)

      known : (start : Bool) → IsFaultKnown (cond start Well Stopped)
      known true = tt
      known false = tt

      born : (health : Health) → IsFaultKnown health → IsSaneTask (at_birth (setup_at g i) ((task_at s i).births + 1) health)
      born health k = record { sixteen = refl; even = omega arith; aligned = h.steady.placed.stack i; fault = k }

  -- one more task is answered
  keeps-as_noted : (k : ℕ) (t : Turn) → k < length t.state.tasks → IsSaneBut Every Every Every (Below i k) g t.state → IsSaneBut Every Every Every (Below i (k + 1)) g (dead_answered i t k).state
  unfolding Below
  keeps-as_noted k t inside h = by_tests (is_to i (call_of t.state k)) (awaits i (listen_of t.state k)) refl refl
    where
      code : ℕ
      code = dead_code_of ((task_at t.state i).births % 64)

      -- it waits for another task, or does not wait
      more : {s : State} → IsSaneBut Every Every Every (Below i k) g s → ((c : Call) → Contains s.calls c → c.client.index ≡ k → c.server.index ≢ i) → ((l : Listen) (b : Birth) → Contains s.listens l → l.task ≡ k → l.from ≡ One b → b.index ≢ i) → IsSaneBut Every Every Every (Below i (k + 1)) g s
      more {s} h cs ls = record {
        steady = h.steady;
        well = h.well;
        unmet = h.unmet;
        unfit = h.unfit;
        ahead = h.ahead;
        present = record {
          client = h.present.client;
          server = λ c here w. h.present.server c here (λ e. let lt = w e in let ne : c.client.index ≢ k = (λ same. cs c here same e) in omega (arith, ne));
          named = λ l b here e w. h.present.named l b here e (λ same. let lt = w same in let ne : l.task ≢ k = (λ it. ls l b here it e same) in omega (arith, ne));
        };
      }

      by_tests : (b d : Bool) → is_to i (call_of t.state k) ≡ b → awaits i (listen_of t.state k) ≡ d → IsSaneBut Every Every Every (Below i (k + 1)) g (cond b (returned k (given k (dead_code_of ((task_at t.state i).births % 64) ∷ 0 ∷ []) (closed k Restart t))) (cond d (returned k (given k (dead_code_of ((task_at t.state i).births % 64) ∷ 0 ∷ 0 ∷ 0 ∷ 0 ∷ 0 ∷ []) (changed (without_listen k) t))) t)).state
      by_tests true d to awaited =
          let k0 = to_whom i (call_of t.state k) to in
          let shut = keeps-closed k Restart t h in
          let h1 = more shut
          (λ c here same. absurd ((dropped_call t.state k c (closed_calls k t c here)).1 same))
          (λ l b here same from. absurd (h.well.alone k0.0 l (found_call t.state k k0.0 k0.1) (closed_listens k t l here) (client_is t.state k k0.0 k0.1 ∙ sym same))) in
          keeps-returned k _ (keeps-given k _ (closed k Restart t) h1 (still h shut inside) (omega arith))
      by_tests false true to awaited =
          let dropped = keeps-without_listen k h in
          let h1 = more dropped
          (λ c here same. not_to i (call_of t.state k) c to (is_call_of h c k (unlistened_calls k t c here) same))
          (λ l b here same from. absurd ((dropped_listen t.state k l here).1 same)) in
          keeps-returned k _ (keeps-given k _ (changed (without_listen k) t) h1 (still h dropped inside) (omega arith))
      by_tests false false to awaited = more h
          (λ c here same. not_to i (call_of t.state k) c to (is_call_of h c k here same))
          (λ l b here same from. not_awaited i (listen_of t.state k) l b awaited (is_listen_of h l k here same) from)

  pub sane-restarted : (start : Bool) (t : Turn) → Sane g t.state → i < length t.state.tasks → Sane g (restarted g i start t).state
  unfolding restarted closed noted Below
  sane-restarted start t h inside =
      let u = without_listen i (without_call i t.state) in
      let h1 : Sane g (without_listen i (without_call i t.state)) = keeps-without_listen i (keeps-without_call i h) in
      let idle : IsIdle (without_listen i (without_call i t.state)) i = record { call = call_of-without_listen (without_call i t.state) i i ∙ call_of-without_call t.state i; listen = listen_of-without_listen (without_call i t.state) i } in
      let h2 = keeps-reborn start (without_listen i (without_call i t.state)) h1 (still h h1 inside) idle in
      let n = length t.state.tasks in
      let as_noted = noted (note.Restart i ((task_at (reborn g i start (without_listen i (without_call i t.state))) i).births % 64)) (changed (reborn g i start) (changed (without_listen i) (closed i Restart t))) in
      let all : IsSaneBut Every Every Every (Below i (0 + n)) g (fold (dead_answered i) as_noted (range_with_len 0 n)).state = fold_keeps (λ k v. IsSaneBut Every Every Every (Below i k) g v.state) (dead_answered i) 0 n as_noted h2 (λ k v from below x. keeps-as_noted k v (let a = x.steady.as_many in let b = h.steady.as_many in omega arith) x) in
      whole _ h.steady.as_many all
    where
      whole : (s : State) → length t.state.tasks ≡ length g.tasks → IsSaneBut Every Every Every (Below i (0 + length t.state.tasks)) g s → Sane g s
      whole s many h = record {
        steady = h.steady;
        well = h.well;
        unmet = h.unmet;
        unfit = h.unfit;
        ahead = h.ahead;
        present = record {
          client = h.present.client;
          server = λ c here w. h.present.server c here (λ e. let lt = (h.steady.calls.fit c here).client in omega arith);
          named = λ l b here e w. h.present.named l b here e (λ same. let lt = (h.steady.listens.fit l here).there in omega arith);
        };
      }
