-- The functions of a state after a change of it.
use Rattle.std.proofs.Common.{◌≡◌, ◌≢◌, ◌<◌, ℕ, false, cond, not, List, [], ◌∷◌, length, Some, None, inl, inr, refl, sym, ◌∙◌, ap, eqb, get_or-set_same, get_or-set_other, length-set}
use Rattle.std.specs.Prelude.{find, filter}
use Rattle.std.proofs.lemmas.Bool.{ne_eqb}
use Rattle.std.proofs.lemmas.List.{append-nil}
use Rattle.std.proofs.lemmas.Bool.Decides.{eqb_tells}
use Rattle.task_table.specs.model.State.{Task, State, Turn}
use Rattle.task_table.specs.model.Reading.{task_at, call_of, listen_of, no_task, IsSameBut, WaitsAlike, TimersAlike}
use Rattle.kernel_abi.specs.declared.Ending.{Ending}
use Rattle.task_table.specs.model.Effects.{with_task, without_call, without_listen, closed}

-- ## a task changed

pub task_at-with_task : (s : State) (i : ℕ) (x : Task) → i < length s.tasks → task_at (with_task i x s) i ≡ x
unfolding task_at with_task
task_at-with_task s i x h = get_or-set_same s.tasks i x no_task h

pub task_at-with_task_other : (s : State) (i j : ℕ) (x : Task) → j ≢ i → task_at (with_task i x s) j ≡ task_at s j
unfolding task_at with_task
task_at-with_task_other s i j x ne = get_or-set_other s.tasks i j x no_task ne

pub call_of-with_task : (s : State) (i j : ℕ) (x : Task) → call_of (with_task i x s) j ≡ call_of s j
unfolding call_of with_task
call_of-with_task s i j x = refl

pub listen_of-with_task : (s : State) (i j : ℕ) (x : Task) → listen_of (with_task i x s) j ≡ listen_of s j
unfolding listen_of with_task
listen_of-with_task s i j x = refl

pub length-with_task : (s : State) (i : ℕ) (x : Task) → length (with_task i x s).tasks ≡ length s.tasks
unfolding with_task
length-with_task s i x = length-set s.tasks i x

-- ## a call or a listen dropped

find_dropped : {X : Type 0} (key : X → ℕ) (i : ℕ) (xs : List X) → find (λ x. eqb (key x) i) (filter (λ x. not (eqb (key x) i)) xs) ≡ None
find_dropped key i [] = refl
find_dropped key i (x ∷ xs) =
    elim (eqb_tells (key x) i) [
      | inl t ↦ simp t.0 (find_dropped key i xs)
      | inr f ↦ simp f.0 (find_dropped key i xs)
    ]

find_kept : {X : Type 0} (key : X → ℕ) (i j : ℕ) (xs : List X) → j ≢ i → find (λ x. eqb (key x) j) (filter (λ x. not (eqb (key x) i)) xs) ≡ find (λ x. eqb (key x) j) xs
find_kept key i j [] ne = refl
find_kept key i j (x ∷ xs) ne =
    elim (eqb_tells (key x) i) [
      | inl t ↦ let other : eqb (key x) j ≡ false = ne_eqb _ _ (λ e. ne (sym e ∙ t.1)) in simp (t.0, other) (find_kept key i j xs ne)
      | inr f ↦ simp f.0 (ap (cond (eqb (key x) j) (Some x)) (find_kept key i j xs ne))
    ]

pub call_of-without_call : (s : State) (i : ℕ) → call_of (without_call i s) i ≡ None
unfolding call_of without_call
call_of-without_call s i = find_dropped (λ c. c.client.index) i s.calls

pub call_of-without_call_other : (s : State) (i j : ℕ) → j ≢ i → call_of (without_call i s) j ≡ call_of s j
unfolding call_of without_call
call_of-without_call_other s i j ne = find_kept (λ c. c.client.index) i j s.calls ne

pub listen_of-without_listen : (s : State) (i : ℕ) → listen_of (without_listen i s) i ≡ None
unfolding listen_of without_listen
listen_of-without_listen s i = find_dropped (λ l. l.task) i s.listens

pub listen_of-without_listen_other : (s : State) (i j : ℕ) → j ≢ i → listen_of (without_listen i s) j ≡ listen_of s j
unfolding listen_of without_listen
listen_of-without_listen_other s i j ne = find_kept (λ l. l.task) i j s.listens ne

pub task_at-without_call : (s : State) (i j : ℕ) → task_at (without_call i s) j ≡ task_at s j
unfolding task_at without_call
task_at-without_call s i j = refl

pub task_at-without_listen : (s : State) (i j : ℕ) → task_at (without_listen i s) j ≡ task_at s j
unfolding task_at without_listen
task_at-without_listen s i j = refl

pub listen_of-without_call : (s : State) (i j : ℕ) → listen_of (without_call i s) j ≡ listen_of s j
unfolding listen_of without_call
listen_of-without_call s i j = refl

pub call_of-without_listen : (s : State) (i j : ℕ) → call_of (without_listen i s) j ≡ call_of s j
unfolding call_of without_listen
call_of-without_listen s i j = refl

-- ## what a change leaves

pub same_but-with_task : (s : State) (i : ℕ) (x : Task) → IsSameBut i s (with_task i x s)
unfolding with_task
same_but-with_task s i x = record {
  count = length-with_task s i x;
  task = λ j ne. task_at-with_task_other s i j x ne;
  call = λ j ne. call_of-with_task s i j x;
  listen = λ j ne. listen_of-with_task s i j x;
  memory = refl;
  now = refl;
  current = refl;
  next_call = refl;
  lines = refl;
  turn = refl;
  devices = refl;
}

-- the wait of the task does not change
pub waits_alike : (s : State) (i : ℕ) (x : Task) → i < length s.tasks → x.health ≡ (task_at s i).health → WaitsAlike i s (with_task i x s)
waits_alike s i x there well = record {
  health = ap (λ (y : Task). y.health) (task_at-with_task s i x there) ∙ well;
  call = call_of-with_task s i i x;
  listen = listen_of-with_task s i i x;
}

-- the timer of the task does not change
pub timers_alike : (s : State) (i : ℕ) (x : Task) → i < length s.tasks → x.timer ≡ (task_at s i).timer → TimersAlike i s (with_task i x s)
timers_alike s i x there same = ap (λ (y : Task). y.timer) (task_at-with_task s i x there) ∙ same

pub timers_same : (s u : State) (i : ℕ) → task_at u i ≡ task_at s i → TimersAlike i s u
timers_same s u i same = ap (λ (y : Task). y.timer) same

-- the same task changed twice
pub same_but-with_task_again : (s : State) (i : ℕ) (x y : Task) → IsSameBut i (with_task i x s) (with_task i y s)
unfolding with_task
same_but-with_task_again s i x y = record {
  count = length-with_task s i y ∙ sym (length-with_task s i x);
  task = λ j ne. task_at-with_task_other s i j y ne ∙ sym (task_at-with_task_other s i j x ne);
  call = λ j ne. call_of-with_task s i j y ∙ sym (call_of-with_task s i j x);
  listen = λ j ne. listen_of-with_task s i j y ∙ sym (listen_of-with_task s i j x);
  memory = refl;
  now = refl;
  current = refl;
  next_call = refl;
  lines = refl;
  turn = refl;
  devices = refl;
}

pub same_but-without_call : (s : State) (i : ℕ) → IsSameBut i s (without_call i s)
unfolding without_call
same_but-without_call s i = record {
  count = refl;
  task = λ j ne. task_at-without_call s i j;
  call = λ j ne. call_of-without_call_other s i j ne;
  listen = λ j ne. listen_of-without_call s i j;
  memory = refl;
  now = refl;
  current = refl;
  next_call = refl;
  lines = refl;
  turn = refl;
  devices = refl;
}

pub same_but-without_listen : (s : State) (i : ℕ) → IsSameBut i s (without_listen i s)
unfolding without_listen
same_but-without_listen s i = record {
  count = refl;
  task = λ j ne. task_at-without_listen s i j;
  call = λ j ne. call_of-without_listen s i j;
  listen = λ j ne. listen_of-without_listen_other s i j ne;
  memory = refl;
  now = refl;
  current = refl;
  next_call = refl;
  lines = refl;
  turn = refl;
  devices = refl;
}

-- one change after another; no change
pub same_but_then : (i : ℕ) (s u v : State) → IsSameBut i s u → IsSameBut i u v → IsSameBut i s v
same_but_then i s u v a b = record {
  count = b.count ∙ a.count;
  task = λ j ne. b.task j ne ∙ a.task j ne;
  call = λ j ne. b.call j ne ∙ a.call j ne;
  listen = λ j ne. b.listen j ne ∙ a.listen j ne;
  memory = b.memory ∙ a.memory;
  now = b.now ∙ a.now;
  current = b.current ∙ a.current;
  next_call = b.next_call ∙ a.next_call;
  lines = b.lines ∙ a.lines;
  turn = b.turn ∙ a.turn;
  devices = b.devices ∙ a.devices;
}

pub same_but_here : (i : ℕ) (s : State) → IsSameBut i s s
same_but_here i s = record { count = refl; task = λ j ne. refl; call = λ j ne. refl; listen = λ j ne. refl; memory = refl; now = refl; current = refl; next_call = refl; lines = refl; turn = refl; devices = refl }

-- ## dropping what is not there

filter_none : {X : Type 0} (key : X → ℕ) (i : ℕ) (xs : List X) → find (λ x. eqb (key x) i) xs ≡ None → filter (λ x. not (eqb (key x) i)) xs ≡ xs
filter_none key i [] h = refl
filter_none key i (x ∷ xs) h =
    elim (eqb_tells (key x) i) [
      | inl t ↦ absurd (no_some (rw t.0 at h))
      | inr f ↦ rw f.0 (ap (λ ys. x ∷ ys) (filter_none key i xs (rw f.0 at h)))
    ]
  where
    no_some : {A : Type 0} {a : A} → Some a ≡ None → ⊥
    no_some e = cc

pub without_listen_none : (s : State) (i : ℕ) → listen_of s i ≡ None → without_listen i s ≡ s
unfolding without_listen listen_of
without_listen_none s i h = ap (λ ls. record s { listens = ls }) (filter_none (λ l. l.task) i s.listens h)

pub without_call_none : (s : State) (i : ℕ) → call_of s i ≡ None → without_call i s ≡ s
unfolding without_call call_of
without_call_none s i h = ap (λ cs. record s { calls = cs }) (filter_none (λ c. c.client.index) i s.calls h)

pub closed_none : (i : ℕ) (ending : Ending) (t : Turn) → call_of t.state i ≡ None → closed i ending t ≡ t
unfolding closed
closed_none i ending t h = rw (h, without_call_none t.state i h, append-nil) refl
