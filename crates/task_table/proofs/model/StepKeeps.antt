-- Each step keeps a state sane; so does a chain, and so does every row.
use Rattle.std.proofs.Common.{◌≡◌, ◌<◌, ℕ, true, length, Option}
use Rattle.kernel_abi.specs.declared.Ending.TheVariants.{Client}
use Rattle.task_table.specs.model.State.{Setup, State, Turn, Own}
use Rattle.task_table.specs.model.Reading.{is_ready, best_sender}
use Rattle.task_table.specs.model.Rows.{misused, panicked, timer_set, timer_answered, irq_controlled, irq_answered, received, syscall_noted}
use Rattle.task_table.specs.model.Sends.{sent, replied, reply_faulted, post_made, refreshed}
use Rattle.task_table.specs.model.Borrows.{reading, writing, borrowed, informed}
use Rattle.task_table.specs.model.Requests.{requested}
use Rattle.task_table.specs.model.Syscalls.{syscall_made}
use Rattle.task_table.specs.model.Sane.{Sane}
use Rattle.task_table.specs.model.Chain.{Chain}
use Rattle.task_table.specs.model.Step.{Step, Notes, Gives, Returns, PassesSyscall, Runs, Clears, Posts, Times, Lines, Listens, Sends, Receives, Stores, Copies, Looks, Borrows, Ceases, Halts, Strikes, Restarts, Reaches}
use Rattle.task_table.proofs.model.BorrowChains.{comes-read, comes-written, comes-informed}
use Rattle.task_table.proofs.model.Chains.{chain_keeps}
use Rattle.task_table.proofs.model.Equipped.{sane-reached}
use Rattle.task_table.proofs.model.Handing.{keeps-looked, keeps-copied, keeps-handed}
use Rattle.task_table.proofs.model.Keeps.{keeps-with_listen}
use Rattle.task_table.proofs.model.MessageChains.{comes-sent, comes-replied, comes-reply_faulted, comes-post_made, comes-refreshed}
use Rattle.task_table.proofs.model.Offering.{keeps-closed, sane-offers, sane-restarted}
use Rattle.task_table.proofs.model.RequestChains.{comes-requested}
use Rattle.task_table.proofs.model.Outcomes.{chain-outcome, Comes, comes-misused}
use Rattle.task_table.proofs.model.Posting.{keeps-noted, keeps-given, keeps-returned, keeps-past_syscall, keeps-cleared, keeps-timer, sane-posted}
use Rattle.task_table.proofs.model.Ranges.{within_ram-good, within_ram-front}
use Rattle.task_table.proofs.model.RowChains.{chain-syscall_noted, comes-panicked, comes-timer_set, comes-timer_answered, comes-irq_controlled, comes-irq_answered, comes-received, chain-syscall_made}
use Rattle.task_table.proofs.model.Sanity.{sane-processor, sane-stored, sane-faulted_as}
use Rattle.task_table.proofs.model.Timing.{keeps-line}

module _ (g : Setup) (s : State) (c : ℕ) where
  here : {u : State} {i : ℕ} → Sane g u → i < length g.tasks → i < length u.tasks
  here h lt = rw h.steady.as_many lt

  step_sane : (u v : Turn) → Step g s c u v → Sane g u.state → Sane g v.state
  step_sane _ _ (Notes n u plain) h = keeps-noted n u h
  step_sane _ _ (Gives i values u lt few party) h = keeps-given i values u h (here h lt) few
  step_sane _ _ (Returns i u) h = keeps-returned i u h
  step_sane _ _ (PassesSyscall u lt) h = keeps-past_syscall c u h (here h lt)
  step_sane _ _ (Runs registers flags u lt whole) h = sane-processor c registers flags u h (here h lt) whole
  step_sane _ _ (Clears mask u lt none) h = keeps-cleared c mask u h (here h lt) none
  step_sane _ _ (Posts i bits u lt) h = sane-posted i bits u h (here h lt)
  step_sane _ _ (Times timer u lt ahead) h = keeps-timer c timer u h (here h lt) (λ x. ahead)
  step_sane _ _ (Lines k line u owned) h = keeps-line k line u h owned
  step_sane _ _ (Listens l u own may) h = keeps-noted _ _ (keeps-with_listen l h may.fit may.well may.idle may.named may.unmet may.unfit)
  step_sane _ _ (Sends k u may) h = sane-offers k u h may.fit may.new.number (rw may.new.client may.well) (rw may.new.client may.idle) may.client_birth may.server_birth
  step_sane _ _ (Receives k buffer u may) h = keeps-handed Own k buffer u h (λ j ne. tt) (here h (h.steady.calls.fit k may.here).server) (within_ram-good g u.state.memory c buffer h.steady.placed may.good)
  step_sane _ _ (Stores on at bytes u all within room may) h = sane-stored on at bytes u h all within
  step_sane _ _ (Copies on from at n i r u target may) h = keeps-copied on from at n u h (rw target.base (within_ram-front u.state.memory r.base r.len n (within_ram-good g u.state.memory i r h.steady.placed target.good) target.fits))
  step_sane _ _ (Reaches devices u reached) h = sane-reached c devices u h reached
  step_sane _ _ (Looks r u alive) h = keeps-looked r u h
  step_sane _ _ (Borrows k borrow lease offset moved u alive taken fits) h = keeps-noted _ u h
  step_sane _ _ (Ceases i ending u ends) h = keeps-closed i ending u h
  step_sane _ _ (Halts fault u lt low high) h = sane-faulted_as c fault Client u h (here h lt) low high
  step_sane _ _ (Strikes i fault ending u other lt low high party ends) h = sane-faulted_as i fault ending u h (here h lt) low high
  step_sane _ _ (Restarts i start u other lt) h = sane-restarted i start u h (here h lt)

  pub chain_sane : (u v : Turn) → Chain (Step g s c) u v → Sane g u.state → Sane g v.state
  chain_sane u v x h = chain_keeps (Step g s c) (λ w. Sane g w.state) step_sane u v x h

-- ## the rows

module _ {g : Setup} (c : ℕ) (t : Turn) (h : Sane g t.state) (within : c < length t.state.tasks) where
  inside : c < length g.tasks
  inside = rw (← h.steady.as_many) within

  kept : (u : Turn) → Comes g c t u → Sane g u.state
  kept u x = chain_sane g t.state c t u (chain-outcome g t.state c t u x.outcome) h

  pub sane-misused : (usage : ℕ) → Sane g (misused g c usage t).state
  sane-misused usage = kept _ (comes-misused g c t inside usage)

  pub sane-syscall_noted : Sane g (syscall_noted c t).state
  sane-syscall_noted = chain_sane g t.state c t _ (chain-syscall_noted g c t) h

  pub sane-panicked : Sane g (panicked g c t).state
  sane-panicked = kept _ (comes-panicked g c t inside)

  pub sane-timer_set : Sane g (timer_set c t).state
  sane-timer_set = kept _ (comes-timer_set g c t inside)

  pub sane-timer_answered : Sane g (timer_answered c t).state
  sane-timer_answered = kept _ (comes-timer_answered g c t inside)

  pub sane-irq_controlled : Sane g (irq_controlled g c t).state
  sane-irq_controlled = kept _ (comes-irq_controlled g c t inside)

  pub sane-irq_answered : Sane g (irq_answered g c t).state
  sane-irq_answered = kept _ (comes-irq_answered g c t inside)

  pub sane-replied : Sane g (replied g c t).state
  sane-replied = kept _ (comes-replied g c t h inside)

  pub sane-reply_faulted : Sane g (reply_faulted g c t).state
  sane-reply_faulted = kept _ (comes-reply_faulted g c t h inside)

  pub sane-post_made : Sane g (post_made g c t).state
  sane-post_made = kept _ (comes-post_made g c t h inside)

  pub sane-refreshed : Sane g (refreshed g c t).state
  sane-refreshed = kept _ (comes-refreshed g c t h inside)

  pub sane-read : Sane g (borrowed g reading c t).state
  sane-read = kept _ (comes-read g c t h inside)

  pub sane-written : Sane g (borrowed g writing c t).state
  sane-written = kept _ (comes-written g c t h inside)

  pub sane-informed : Sane g (informed g c t).state
  sane-informed = kept _ (comes-informed g c t h inside)

  pub sane-requested : Sane g (requested g c t).state
  sane-requested = kept _ (comes-requested g c t h inside)

  module _ (ready : is_ready t.state c ≡ true) where
    pub sane-sent : Sane g (sent g c t).state
    sane-sent = kept _ (comes-sent g c t h inside ready)

    pub sane-received : (best : Option ℕ) → best ≡ best_sender g t.state c → Sane g (received g c best t).state
    sane-received best is = kept _ (comes-received g c t h inside ready best is)

    pub sane-syscall_made : Sane g (syscall_made g c t).state
    sane-syscall_made = chain_sane g t.state c t _ (chain-syscall_made g c t h inside ready) h
