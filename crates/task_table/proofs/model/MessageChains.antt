-- Each row of SEND, REPLY, REPLY_FAULT, POST and REFRESH_TASK_ID.
use Rattle.std.proofs.Common.{◌≡◌, ◌≢◌, ◌<◌, ◌≤◌, inl, inr, ℕ, true, not, ◌&&◌, ◌||◌, [], ◌∷◌, length, Option, Some, None, refl, sym, ◌∙◌, ap, arith, eqb, ltb, is_some, IfSome}
use Rattle.std.specs.Prelude.{Contains, find}
use Rattle.std.proofs.lemmas.Bool.{eq-eqb, eqb-true, ltb-false, not-false, false≢true, and_parts, or_parts}
use Rattle.kernel_abi.specs.Arguments.{send_args, reply_args, id_args}
use Rattle.kernel_abi.specs.Ids.{index_of}
use Rattle.kernel_abi.specs.declared.Ending.TheVariants as ending
use Rattle.kernel_abi.specs.declared.arguments.ReplyArgs.{ReplyArgs}
use Rattle.region_check.specs.declared.Right.TheVariants as right
use Rattle.task_table.specs.model.State.{Setup, State, Call, Phase, Offered, Taken, Ground, Reply, Turn}
use Rattle.task_table.specs.model.Reading.{arguments, call_of, is_ready, is_out, is_dead, present_id, is_taken, taken_by, is_valid, bad_byte, IsIdle}
use Rattle.task_table.specs.model.Effects.{copied, past_syscall, posted}
use Rattle.task_table.specs.model.Sends.{message_of, reply_room, table_of, call_made, sent, reply_of, replied_to, replied, reply_fault_of, reply_faulted_to, reply_faulted, post_made, refreshed}
use Rattle.task_table.specs.model.Sane.{Sane}
use Rattle.task_table.specs.model.Grounds.{Lies, IsTakenBy}
use Rattle.task_table.specs.model.Chain.{Here}
use Rattle.task_table.specs.model.Step.{Gives, Returns, PassesSyscall, Posts, Sends, Copies, Ceases, Strikes}
use Rattle.task_table.proofs.model.Chains.{one, ◌▷◌}
use Rattle.task_table.proofs.model.Frames.{idle-ready}
use Rattle.task_table.proofs.model.Keeps.{found_in}
use Rattle.task_table.proofs.model.Outcomes.{Comes, by_outcome, comes, comes-misused, comes-denied, goes, goes_with}
use Rattle.task_table.proofs.model.Ranges.{may-write}
use Rattle.task_table.proofs.model.Receives.{health-past_syscall, idle-past_syscall, listens-past_syscall, next-past_syscall, well-ready, is_there, none_left}

-- ## what is found of a taken call

taken_phase : (p : Phase) → is_taken p ≡ true → p ≡ Taken
taken_phase Offered h = absurd (false≢true h)
taken_phase Taken h = refl

-- what is found is taken, with the server as its server
pub found_taken : (s : State) (i c : ℕ) (k : Call) → taken_by s i c ≡ Some k → IsTakenBy s c k.number k
unfolding taken_by
found_taken s i c k e =
    let r = found_in (λ (x : Call). (eqb x.client.index i && eqb x.server.index c) && is_taken x.phase) s.calls k e in
    let both = and_parts (eqb k.client.index i && eqb k.server.index c) (is_taken k.phase) r.1 in
    let two = and_parts (eqb k.client.index i) (eqb k.server.index c) both.0 in
    record { here = r.0; number = refl; server_is = eqb-true _ _ two.1; phase = taken_phase k.phase both.1 }

-- its client has no other call
call_taken : {g : Setup} (s : State) → Sane g s → (k : Call) → Contains s.calls k → k.phase ≡ Taken → IfSome (call_of s k.client.index) (λ d. d.phase ≡ Taken)
unfolding call_of
call_taken s h k here taken = go (find (λ (d : Call). eqb d.client.index k.client.index) s.calls) refl
  where
    go : (o : Option Call) → find (λ (d : Call). eqb d.client.index k.client.index) s.calls ≡ o → IfSome o (λ d. d.phase ≡ Taken)
    go None e = tt
    go (Some d) e =
        let r = found_in (λ (x : Call). eqb x.client.index k.client.index) s.calls d e in
        ap (λ (x : Call). x.phase) (h.steady.calls.client d k r.0 here (eqb-true _ _ r.1)) ∙ taken

call_of-copied : (on : Ground) (from at n i : ℕ) (t : Turn) → call_of (copied on from at n t).state i ≡ call_of t.state i
unfolding copied call_of
call_of-copied on from at n i t = refl

-- the client of a call that c has taken is another task
pub another : {g : Setup} {s : State} → Sane g s → (c : ℕ) (k : Call) → IsTakenBy s c k.number k → k.client.index ≢ c
another h c k taken e = (h.steady.calls.fit k taken.here).apart (e ∙ sym taken.server_is)

-- ## the rows

module _ (g : Setup) (c : ℕ) (t : Turn) (h : Sane g t.state) (inside : c < length g.tasks) where
  -- ## SEND

  module _ (ready : is_ready t.state c ≡ true) where
    within : c < length t.state.tasks
    within = rw h.steady.as_many inside

    idle : IsIdle (past_syscall c t).state c
    idle = idle-past_syscall c t c (idle-ready t.state c ready)

    pub comes-sent : Comes g c t (sent g c t)
    unfolding sent
    comes-sent =
        let s = t.state in
        let x = send_args (arguments s c) in
        let id = x.recipient.number in
        by_outcome (is_out s id || eqb (index_of id) c) (λ bad. comes-misused g c t inside 2) (λ named.
        by_outcome (not (is_valid (message_of x)) || (not (is_valid (reply_room x)) || not (is_valid (table_of x)))) (λ bad. comes-misused g c t inside 3) (λ valid.
        by_outcome (is_some (bad_byte g c right.Read (message_of x))) (λ bad. comes-denied g c t inside 2 (bad_byte g c right.Read (message_of x))) (λ readable.
        by_outcome (is_some (bad_byte g c right.Write (reply_room x))) (λ bad. comes-denied g c t inside 3 (bad_byte g c right.Write (reply_room x))) (λ writable.
        by_outcome (is_dead s id) (λ dead. goes_with g c t inside _ t (omega arith) (Here t)) (λ live.
        let two = or_parts (is_out s id) (eqb (index_of id) c) named in
        let three = or_parts (not (is_valid (message_of x))) (not (is_valid (reply_room x)) || not (is_valid (table_of x))) valid in
        let rest = or_parts (not (is_valid (reply_room x))) (not (is_valid (table_of x))) three.1 in
        let u = past_syscall c t in
        let server = index_of id in
        let there : server < length g.tasks = rw (← h.steady.as_many) (is_there s id two.0) in
        comes g c t inside _ (one (PassesSyscall t inside, tt) ▷ (
          Sends (call_made u.state c x server) u record {
            fit = record {
              client = inside;
              server = there;
              apart = λ e. absurd (false≢true (sym two.1 ∙ eq-eqb _ _ (sym e)));
              valid = (not-false _ three.0, not-false _ rest.0, not-false _ rest.1);
              readable = none_left _ readable;
              writable = none_left _ writable;
            };
            new = record { client = refl; free = idle.call; number = refl; next = next-past_syscall c t; phase = refl };
            idle = idle;
            well = health-past_syscall c t c within ∙ well-ready s c ready;
            client_birth = refl;
            server_birth = refl;
            listens = listens-past_syscall c t;
            fit_listens = h.steady.listens.fit;
          },
          tt,
        )))))))

  -- ## REPLY and REPLY_FAULT

  replies : (x : ReplyArgs) (i : ℕ) (o : Option Call) → taken_by t.state i c ≡ o → Comes g c t (replied_to g c x o t)
  replies x i None e = goes g c t inside t (Here t)
  replies x i (Some k) e =
      let f = found_taken t.state i c k e in
      let fit = h.steady.calls.fit k f.here in
      by_outcome (not (is_valid (reply_of x))) (λ bad. comes-misused g c t inside 3) (λ valid.
      by_outcome (is_some (bad_byte g c right.Read (reply_of x))) (λ bad. comes-denied g c t inside 2 (bad_byte g c right.Read (reply_of x))) (λ good.
      by_outcome (ltb k.reply.len x.reply_length) (λ long. comes-misused g c t inside 9) (λ short.
      let fits : x.reply_length ≤ k.reply.len = ltb-false k.reply.len x.reply_length short in
      let u = copied (Reply k.number) x.reply_base k.reply.base x.reply_length t in
      goes g c t inside _
      (one (
        Copies (Reply k.number) x.reply_base k.reply.base x.reply_length k.client.index k.reply t record { good = fit.writable; base = refl; fits = fits }
            (λ a low high. let lies : Lies k.reply a = (low, omega arith) in record { call = k; taken = f; lies = lies; may = may-write g k.client.index k.reply a fit.writable lies }),
        tt,
      )
      ▷ (Ceases k.client.index ending.Reply u (rw (call_of-copied (Reply k.number) x.reply_base k.reply.base x.reply_length k.client.index t) (call_taken t.state h k f.here f.phase)), tt)
      ▷ (Gives k.client.index (x.code ∷ x.reply_length ∷ []) _ fit.client (omega arith) (inr (k, f.here, refl)), tt)
      ▷ (Returns k.client.index _, tt)))))

  pub comes-replied : Comes g c t (replied g c t)
  unfolding replied
  comes-replied =
      let s = t.state in
      let x = reply_args (arguments s c) in
      let id = x.client.number in
      by_outcome (is_out s id) (λ out. comes-misused g c t inside 2) (λ there.
      by_outcome (is_dead s id) (λ dead. goes g c t inside t (Here t)) (λ live.
      replies x (index_of id) (taken_by s (index_of id) c) refl))

  reply_faults : (reason i : ℕ) (o : Option Call) → taken_by t.state i c ≡ o → Comes g c t (reply_faulted_to g c reason o t)
  reply_faults reason i None e = goes g c t inside t (Here t)
  reply_faults reason i (Some k) e =
      let f = found_taken t.state i c k e in
      goes g c t inside _ (one (Strikes k.client.index (reply_fault_of t.state c reason) ending.ReplyFault t (another h c k f) (h.steady.calls.fit k f.here).client (omega arith) (omega arith) (inl (inr (k, f.here, refl))) (call_taken t.state h k f.here f.phase), tt))

  pub comes-reply_faulted : Comes g c t (reply_faulted g c t)
  unfolding reply_faulted
  comes-reply_faulted =
      let s = t.state in
      let x = reply_args (arguments s c) in
      let id = x.client.number in
      by_outcome (is_out s id) (λ out. comes-misused g c t inside 2) (λ there.
      by_outcome (ltb 5 x.code) (λ bad. comes-misused g c t inside 10) (λ known.
      by_outcome (is_dead s id) (λ dead. goes g c t inside t (Here t)) (λ live.
      reply_faults x.code (index_of id) (taken_by s (index_of id) c) refl)))

  -- ## POST and REFRESH_TASK_ID

  pub comes-post_made : Comes g c t (post_made g c t)
  unfolding post_made
  comes-post_made =
      let s = t.state in
      let x = id_args (arguments s c) in
      let id = x.id.number in
      by_outcome (is_out s id) (λ out. comes-misused g c t inside 2) (λ there.
      by_outcome (is_dead s id) (λ dead. goes_with g c t inside _ t (omega arith) (Here t)) (λ live.
      goes_with g c t inside (0 ∷ []) (posted (index_of id) x.bits t) (omega arith) (one (Posts (index_of id) x.bits t (rw (← h.steady.as_many) (is_there s id there)), tt))))

  pub comes-refreshed : Comes g c t (refreshed g c t)
  unfolding refreshed
  comes-refreshed =
      let s = t.state in
      let id = (id_args (arguments s c)).id.number in
      by_outcome (is_out s id) (λ out. comes-misused g c t inside 2) (λ there.
      goes_with g c t inside (present_id s (index_of id) ∷ []) t (omega arith) (Here t))
