-- What going past a system call does not change, and what the tests of RECV say.
use Rattle.std.proofs.Common.{◌≡◌, ◌<◌, ℕ, Bool, true, false, not, ◌&&◌, ◌||◌, length, Option, Some, None, refl, sym, ◌∙◌, eqb, is_some}
use Rattle.std.proofs.lemmas.Bool.{eqb-true, leb-false, false≢true, and_parts}
use Rattle.kernel_abi.specs.Ids.{index_of}
use Rattle.kernel_abi.specs.declared.Health.{Health}
use Rattle.kernel_abi.specs.declared.Health.TheVariants.{Well, Stopped, Faulted}
use Rattle.task_table.specs.model.State.{State, Birth, Any, One, KernelOnly, Turn}
use Rattle.task_table.specs.model.Reading.{task_at, is_ready, is_well, is_out, same_birth, IsIdle}
use Rattle.task_table.specs.model.Effects.{with_task, past_syscall}
use Rattle.task_table.proofs.model.Changes.{call_of-with_task, listen_of-with_task}
use Rattle.task_table.proofs.model.Keeps.{task_rule, births_kept}

-- ## what go_past_syscall does not change

pub births-past_syscall : (c : ℕ) (t : Turn) (j : ℕ) → c < length t.state.tasks → (task_at (past_syscall c t).state j).births ≡ (task_at t.state j).births
unfolding past_syscall
births-past_syscall c t j inside = births_kept t.state c _ j inside refl

pub health-past_syscall : (c : ℕ) (t : Turn) (j : ℕ) → c < length t.state.tasks → (task_at (past_syscall c t).state j).health ≡ (task_at t.state j).health
unfolding past_syscall
health-past_syscall c t j inside = task_rule (λ k x. x.health ≡ (task_at t.state k).health) t.state c _ j inside (λ same. rw same refl) (λ ne. refl)

pub posted-past_syscall : (c : ℕ) (t : Turn) (j : ℕ) → c < length t.state.tasks → (task_at (past_syscall c t).state j).posted ≡ (task_at t.state j).posted
unfolding past_syscall
posted-past_syscall c t j inside = task_rule (λ k x. x.posted ≡ (task_at t.state k).posted) t.state c _ j inside (λ same. rw same refl) (λ ne. refl)

pub idle-past_syscall : (c : ℕ) (t : Turn) (j : ℕ) → IsIdle t.state j → IsIdle (past_syscall c t).state j
unfolding past_syscall
idle-past_syscall c t j h = record { call = call_of-with_task t.state c j _ ∙ h.call; listen = listen_of-with_task t.state c j _ ∙ h.listen }

pub calls-past_syscall : (c : ℕ) (t : Turn) → (past_syscall c t).state.calls ≡ t.state.calls
unfolding past_syscall with_task
calls-past_syscall c t = refl

pub listens-past_syscall : (c : ℕ) (t : Turn) → (past_syscall c t).state.listens ≡ t.state.listens
unfolding past_syscall with_task
listens-past_syscall c t = refl

pub next-past_syscall : (c : ℕ) (t : Turn) → (past_syscall c t).state.next_call ≡ t.state.next_call
unfolding past_syscall with_task
next-past_syscall c t = refl

pub memory-past_syscall : (c : ℕ) (t : Turn) → (past_syscall c t).state.memory ≡ t.state.memory
unfolding past_syscall with_task
memory-past_syscall c t = refl

-- ## what the tests of the rows tell

pub well-ready : (s : State) (i : ℕ) → is_ready s i ≡ true → (task_at s i).health ≡ Well
unfolding is_ready
well-ready s i h = go (task_at s i).health (and_parts _ _ (and_parts _ _ h).0).0
  where
    go : (health : Health) → is_well health ≡ true → health ≡ Well
    go Well e = refl
    go Stopped e = absurd (false≢true e)
    go (Faulted f) e = absurd (false≢true e)

pub is_there : (s : State) (id : ℕ) → is_out s id ≡ false → index_of id < length s.tasks
unfolding is_out
is_there s id h = leb-false _ _ h

pub none_left : {A : Type 0} (o : Option A) → is_some o ≡ false → o ≡ None
none_left None h = refl
none_left (Some x) h = absurd (false≢true (sym h))

pub same_index : (a b : Birth) → same_birth a b ≡ true → b.index ≡ a.index
same_index a b h = sym (eqb-true _ _ (and_parts (eqb a.index b.index) (eqb a.birth b.birth) h).0)

pub no_kernel_birth : {b : Birth} {A : Type 0} → KernelOnly ≡ One b → A
no_kernel_birth e = cc

pub no_any_birth : {b : Birth} {A : Type 0} → Any ≡ One b → A
no_any_birth e = cc

pub one_birth : {a b : Birth} → One a ≡ One b → a ≡ b
one_birth e = cc

-- a closed receive that is not from the kernel only names another task that exists
pub names_another : (closed kernel out own : Bool) → closed ≡ true → ((closed && not kernel) && (out || own)) ≡ false → (closed && kernel) ≡ false → (out ≡ false) × (own ≡ false)
names_another true false false false a b d = (refl, refl)
names_another true false false true a b d = absurd (false≢true (sym b))
names_another true false true own a b d = absurd (false≢true (sym b))
names_another true true out own a b d = absurd (false≢true (sym d))
names_another false kernel out own a b d = absurd (false≢true a)
