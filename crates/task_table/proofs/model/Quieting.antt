-- A step that adds no note leaves each task as ready as it was.
use Rattle.std.proofs.Common.{◌≡◌, ◌<◌, ◌≤◌, ℕ, zero, suc, Option, Some, None, List, [], ◌∷◌, length, refl, ◌∙◌, arith, get_or, set}
use Rattle.kernel_abi.specs.declared.Ending.{Ending}
use Rattle.kernel_abi.specs.declared.Ending.TheVariants.{Client}
use Rattle.task_table.specs.model.State.{Setup, State, Task, Call, Slice, Ground, Own, Turn}
use Rattle.task_table.specs.model.Reading.{task_at, call_of, listen_of, is_ready, no_task}
use Rattle.task_table.specs.model.Effects.{with_task, noted, with_processor, stored, copied, looked, given, returned, past_syscall, bits_cleared, with_timer, with_line, closed, handed, with_devices}
use Rattle.task_table.specs.model.Counts.{IsAsReady}
use Rattle.task_table.specs.model.Chain.{Chain, Here, More}
use Rattle.task_table.specs.model.Step.{Step, Notes, Gives, Returns, PassesSyscall, Runs, Clears, Posts, Times, Lines, Listens, Sends, Receives, Stores, Copies, Looks, Borrows, Ceases, Halts, Strikes, Restarts, Reaches}
use Rattle.task_table.proofs.model.Changes.{call_of-with_task, listen_of-with_task, length-with_task, closed_none}
use Rattle.task_table.proofs.model.Chains.{chain_keeps}
use Rattle.task_table.proofs.model.Noting.{HasMore, none_fewer, one_longer, step_noted, more-noted, more-posted, more-faulted_as, more-offers, more-restarted}

pub ready_same : (s : State) → IsAsReady s s
ready_same s = record { count = refl; health = λ i. refl; ready = λ i. refl; current = refl }

pub ready_then : (s u v : State) → IsAsReady s u → IsAsReady u v → IsAsReady s v
ready_then s u v a b = record { count = b.count ∙ a.count; health = λ i. b.health i ∙ a.health i; ready = λ i. b.ready i ∙ a.ready i; current = b.current ∙ a.current }

-- ## a task changed, except its health

set_either : (xs : List Task) (k j : ℕ) (x : Task) → x.health ≡ (get_or xs k no_task).health → (get_or (set xs k x) j no_task).health ≡ (get_or xs j no_task).health
set_either [] k j x e = refl
set_either (y ∷ ys) zero zero x e = e
set_either (y ∷ ys) zero (suc j) x e = refl
set_either (y ∷ ys) (suc k) zero x e = refl
set_either (y ∷ ys) (suc k) (suc j) x e = set_either ys k j x e

health_kept : (s : State) (i : ℕ) (x : Task) (j : ℕ) → x.health ≡ (task_at s i).health → (task_at (with_task i x s) j).health ≡ (task_at s j).health
unfolding task_at with_task
health_kept s i x j e = set_either s.tasks i j x e

ready_by : (s u : State) (i : ℕ) → (task_at u i).health ≡ (task_at s i).health → call_of u i ≡ call_of s i → listen_of u i ≡ listen_of s i → is_ready u i ≡ is_ready s i
unfolding is_ready
ready_by s u i h c l = rw (h, c, l) refl

current-with_task : (s : State) (i : ℕ) (x : Task) → (with_task i x s).current ≡ s.current
unfolding with_task
current-with_task s i x = refl

pub ready-with_task : (s : State) (i : ℕ) (x : Task) → x.health ≡ (task_at s i).health → IsAsReady s (with_task i x s)
ready-with_task s i x e = record {
  count = length-with_task s i x;
  health = λ j. health_kept s i x j e;
  ready = λ j. ready_by s (with_task i x s) j (health_kept s i x j e) (call_of-with_task s i j x) (listen_of-with_task s i j x);
  current = current-with_task s i x;
}

-- ## steps

pub not_more : {n m : ℕ} → m ≤ n → n < m → ⊥
not_more few more = omega (arith, few, more)

more-returned : (i : ℕ) (u : Turn) → HasMore u (returned i u)
unfolding returned
more-returned i u = more-noted _ u

more-handed : (on : Ground) (k : Call) (buffer : Slice) (u : Turn) → HasMore u (handed on k buffer u)
unfolding handed looked copied given noted
more-handed on k buffer u = one_longer u.notes _

more-closed : (i : ℕ) (ending : Ending) (u : Turn) (k : Call) → call_of u.state i ≡ Some k → HasMore u (closed i ending u)
unfolding closed
more-closed i ending u k e = rw e (one_longer u.notes _)

-- if a task has no call, there is none to close; if it has one, its end is noted
ready-closed : (i : ℕ) (ending : Ending) (u : Turn) (o : Option Call) → call_of u.state i ≡ o → length (closed i ending u).notes ≤ length u.notes → IsAsReady u.state (closed i ending u).state
ready-closed i ending u None e few = rw (closed_none i ending u e) (ready_same u.state)
ready-closed i ending u (Some k) e few = absurd (not_more few (more-closed i ending u k e))

step_quiet : (g : Setup) (s : State) (c : ℕ) (u v : Turn) → Step g s c u v → length v.notes ≤ length u.notes → IsAsReady u.state v.state
unfolding given past_syscall with_processor bits_cleared with_timer with_line stored copied looked with_devices is_ready task_at call_of listen_of
step_quiet g s c _ _ (Notes n u plain) = λ few. absurd (not_more few (more-noted n u))
step_quiet g s c _ _ (Gives i values u lt short party) = λ few. ready-with_task u.state i _ refl
step_quiet g s c _ _ (Returns i u) = λ few. absurd (not_more few (more-returned i u))
step_quiet g s c _ _ (PassesSyscall u lt) = λ few. ready-with_task u.state c _ refl
step_quiet g s c _ _ (Runs registers flags u lt whole) = λ few. ready-with_task u.state c _ refl
step_quiet g s c _ _ (Clears mask u lt off) = λ few. ready-with_task u.state c _ refl
step_quiet g s c _ _ (Posts i bits u lt) = λ few. absurd (not_more few (more-posted i bits u))
step_quiet g s c _ _ (Times timer u lt ahead) = λ few. ready-with_task u.state c _ refl
step_quiet g s c _ _ (Lines k line u owned) = λ few. record { count = refl; health = λ i. refl; ready = λ i. refl; current = refl }
step_quiet g s c _ _ (Listens l u own may) = λ few. absurd (not_more few (more-noted _ _))
step_quiet g s c _ _ (Sends k u may) = λ few. absurd (not_more few (more-offers k u))
step_quiet g s c _ _ (Receives k buffer u may) = λ few. absurd (not_more few (more-handed Own k buffer u))
step_quiet g s c _ _ (Stores on at bytes u all within room may) = λ few. record { count = refl; health = λ i. refl; ready = λ i. refl; current = refl }
step_quiet g s c _ _ (Copies on from at n i r u target may) = λ few. record { count = refl; health = λ i. refl; ready = λ i. refl; current = refl }
step_quiet g s c _ _ (Reaches devices u reached) = λ few. record { count = refl; health = λ i. refl; ready = λ i. refl; current = refl }
step_quiet g s c _ _ (Looks r u alive) = λ few. ready_same u.state
step_quiet g s c _ _ (Borrows k borrow lease offset moved u alive taken fits) = λ few. absurd (not_more few (more-noted _ u))
step_quiet g s c _ _ (Ceases i ending u ends) = λ few. ready-closed i ending u (call_of u.state i) refl few
step_quiet g s c _ _ (Halts fault u lt low high) = λ few. absurd (not_more few (more-faulted_as g c fault Client u))
step_quiet g s c _ _ (Strikes i fault ending u other lt low high party ends) = λ few. absurd (not_more few (more-faulted_as g i fault ending u))
step_quiet g s c _ _ (Restarts i start u other lt) = λ few. absurd (not_more few (more-restarted g i start u))

-- ## chains

chain_grows : (g : Setup) (s : State) (c : ℕ) (u v : Turn) → Chain (Step g s c) u v → length u.notes ≤ length v.notes
chain_grows g s c u v x = chain_keeps (Step g s c) (λ (w : Turn). length u.notes ≤ length w.notes) (λ t w step le. omega (arith, le, none_fewer _ t w (step_noted g s c t w step))) u v x (omega arith)

pub chain_quiet : (g : Setup) (s : State) (c : ℕ) (u v : Turn) → Chain (Step g s c) u v → length v.notes ≤ length u.notes → IsAsReady u.state v.state
chain_quiet g s c _ _ (Here t) few = ready_same t.state
chain_quiet g s c _ _ (More t u v x step) few =
    let before = chain_grows g s c t u x in
    let last = none_fewer _ u v (step_noted g s c u v step) in
    ready_then t.state u.state v.state (chain_quiet g s c t u x (omega (arith, few, last))) (step_quiet g s c u v step (omega (arith, few, before)))
