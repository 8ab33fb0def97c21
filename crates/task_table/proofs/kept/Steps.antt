-- How a change of the code's kernel corresponds to one of the turn.
use Rattle.std.proofs.Common.{◌≡◌, ◌≢◌, ◌<◌, ◌≤◌, ◌+◌, ◌-◌, ℕ, Bool, true, false, ◌&&◌, List, [], ◌∷◌, ◌++◌, length, Option, Some, None, inl, inr, refl, sym, ◌∙◌, ap, subst, get_or, set, get_or-set_same, get_or-set_other, length-set, IfSome, is_some, is_none}
use Rattle.std.specs.Option.{option_map}
use Rattle.std.proofs.lemmas.Bool.Decides.{eqb_tells}
use Rattle.std.proofs.lemmas.Bool.{false≢true}
use Rattle.std.proofs.lemmas.List.{set_past}
use Rattle.kernel_abi.specs.declared.Note.{Note}
use Rattle.mem_banks.specs.Memory.{Memory, with_bytes, IsWithinRam}
use Rattle.mem_banks.proofs.Stores.{flash-with_bytes, length-with_bytes}
use Rattle.task_table.specs.model.State.{Setup, Task, Call, Listen, State, Turn, Ground}
use Rattle.task_table.specs.model.Reading.{task_at, call_of, listen_of, is_ready, is_well, IsSameBut, WaitsAlike, TimersAlike}
use Rattle.task_table.specs.declared.Line.{Line}
use Rattle.task_table.specs.model.Effects.{with_task, without_call, without_listen, noted, with_line, stored}
use Rattle.task_table.specs.model.Start.{begun}
use Rattle.task_table.specs.kept.Holds.{Shows, Kept, IsKept, packed, packed_task, kept_call, kept_listen, wait_of, call_in, listen_in}
use Rattle.task_table.specs.kept.Readiness.{is_nothing, is_free}
use Rattle.task_table.specs.declared.slot.Slot.{Slot}
use Rattle.task_table.specs.declared.slot.Wait.TheVariants as wait
use Rattle.task_table.proofs.model.Changes.{task_at-with_task, call_of-with_task, listen_of-with_task, call_of-without_call, listen_of-without_call, task_at-without_call, call_of-without_listen, listen_of-without_listen, task_at-without_listen}

-- the slot of a task depends only on that task, its call and its listen
packed_by : (u s : State) (i : ℕ) → task_at u i ≡ task_at s i → call_of u i ≡ call_of s i → listen_of u i ≡ listen_of s i → packed u i ≡ packed s i
packed_by u s i t c l = rw (t, c, l)

pub kept_same : (s u : State) (i : ℕ) (slot : Slot) → task_at u i ≡ task_at s i → call_of u i ≡ call_of s i → listen_of u i ≡ listen_of s i → IsKept s i slot → IsKept u i slot
kept_same s u i slot t c l h = record {
  is = h.is ∙ sym (packed_by u s i t c l);
  alone = rw (c, l) h.alone;
}

-- a note is added
pub holds_noted : (g : Setup) (k : Kept) (t : Turn) (n : Note) (notes : List Note) → Shows g k t → notes ≡ k.notes ++ n ∷ [] → Shows g record k { notes = notes } (noted n t)
unfolding noted
holds_noted g k t n notes h e = record {
  setup = h.setup;
  count = h.count;
  many = h.many;
  tasks = h.tasks;
  notes = e ∙ ap (λ xs. xs ++ n ∷ []) h.notes;
  memory = h.memory;
  now = h.now;
  lines = h.lines;
  current = h.current;
  next_call = h.next_call;
}

-- one task is changed, or its call, or its listen
kept_after : (s u : State) (xs : List Slot) (i j : ℕ) (slot d : Slot) → i < length xs → IsSameBut i s u → IsKept u i slot → IsKept s j (get_or xs j d) → IsKept u j (get_or (set xs i slot) j d)
kept_after s u xs i j slot d there same kept before =
    elim (eqb_tells j i) [
      | inl e ↦ rw (e.1, get_or-set_same) kept
      | inr other ↦
          let ne : j ≢ i = other.1 in
          rw get_or-set_other (kept_same s u j _ (same.task j ne) (same.call j ne) (same.listen j ne) before)
    ]

pub holds_slot : (g : Setup) (k : Kept) (t : Turn) (u : State) (i : ℕ) (slot : Slot) (slots : List Slot) → Shows g k t → i < length k.slots → slots ≡ set k.slots i slot → IsKept u i slot → IsSameBut i t.state u → Shows g record k { slots = slots } record t { state = u }
holds_slot g k t u i slot slots h there e kept same = record {
  setup = h.setup;
  count = ap length e ∙ length-set k.slots i slot ∙ h.count ∙ sym same.count;
  many = h.many ∙ sym same.count;
  tasks = λ j below d. rw e (kept_after t.state u k.slots i j slot d there same kept (h.tasks j (rw (e, length-set) at below) d));
  notes = h.notes;
  memory = h.memory ∙ sym same.memory;
  now = h.now ∙ sym same.now;
  lines = h.lines ∙ sym same.lines;
  current = h.current ∙ sym same.current;
  next_call = h.next_call ∙ sym same.next_call;
}

-- the slot of a task except its timer
kept_timer : (s u : State) (i : ℕ) (old slot : Slot) → IsKept s i old → IsKept u i slot → TimersAlike i s u → IsKept u i record slot { timer = old.timer }
kept_timer s u i old slot was kept same =
    let timer : old.timer ≡ (task_at u i).timer = ap (λ (o : Slot). o.timer) was.is ∙ sym same in
    record { is = rw timer (ap (λ (o : Slot). record o { timer = (task_at u i).timer }) kept.is); alone = kept.alone }

pub holds_timer_kept : (g : Setup) (k : Kept) (t : Turn) (u : State) (i : ℕ) (old slot : Slot) (slots : List Slot) → Shows g k t → i < length k.slots → old ≡ get_or k.slots i old → slots ≡ set k.slots i record slot { timer = old.timer } → IsKept u i slot → IsSameBut i t.state u → TimersAlike i t.state u → Shows g record k { slots = slots } record t { state = u }
holds_timer_kept g k t u i old slot slots h there is e kept same timers =
    let was = subst (λ (o : Slot). IsKept t.state i o) (sym is) (h.tasks i there old) in
    holds_slot g k t u i record slot { timer = old.timer } slots h there e (kept_timer t.state u i old slot was kept timers) same

-- the slot of a task except its health, its wait and its timer
kept_rest : (s u : State) (i : ℕ) (old rest : Slot) → IsKept s i old → IsKept u i rest → WaitsAlike i s u → TimersAlike i s u → IsKept u i record rest { health = old.health; wait = old.wait; timer = old.timer }
kept_rest s u i old rest was kept alike timers =
    let health : old.health ≡ (task_at u i).health = ap (λ (o : Slot). o.health) was.is ∙ sym alike.health in
    let same : wait_of (call_of u i) (listen_of u i) ≡ wait_of (call_of s i) (listen_of s i) = rw (alike.call, alike.listen) refl in
    let waits : old.wait ≡ wait_of (call_of u i) (listen_of u i) = ap (λ (o : Slot). o.wait) was.is ∙ sym same in
    let timer : old.timer ≡ (task_at u i).timer = ap (λ (o : Slot). o.timer) was.is ∙ sym timers in
    record { is = rw (health, waits, timer) (ap (λ (o : Slot). record o { health = (task_at u i).health; wait = wait_of (call_of u i) (listen_of u i); timer = (task_at u i).timer }) kept.is); alone = kept.alone }

pub holds_rest : (g : Setup) (k : Kept) (t : Turn) (u : State) (i : ℕ) (old rest : Slot) (slots : List Slot) → Shows g k t → i < length k.slots → old ≡ get_or k.slots i old → slots ≡ set k.slots i record rest { health = old.health; wait = old.wait; timer = old.timer } → IsKept u i rest → IsSameBut i t.state u → WaitsAlike i t.state u → TimersAlike i t.state u → Shows g record k { slots = slots } record t { state = u }
holds_rest g k t u i old rest slots h there is e kept same alike timers =
    let was = subst (λ (o : Slot). IsKept t.state i o) (sym is) (h.tasks i there old) in
    holds_slot g k t u i record rest { health = old.health; wait = old.wait; timer = old.timer } slots h there e (kept_rest t.state u i old rest was kept alike timers) same

-- the slot of a task that changed, but whose wait did not
pub kept_task : (s : State) (i : ℕ) (x : Task) (old slot : Slot) → i < length s.tasks → IsKept s i old → slot ≡ packed_task x (wait_of (call_of s i) (listen_of s i)) → IsKept (with_task i x s) i slot
kept_task s i x old slot there kept is = record {
  is = rw (task_at-with_task, call_of-with_task, listen_of-with_task) is;
  alone = rw (call_of-with_task, listen_of-with_task) kept.alone;
}

-- ## what a wait says

-- what is found where an option is mapped
pub some_mapped : {A B : Type 0} (f : A → B) (o : Option A) (b : B) → option_map f o ≡ Some b → (a : A) × (o ≡ Some a) × (f a ≡ b)
some_mapped {A} {B} f None b h = absurd (no_some h)
  where
    no_some : None ≡ Some b → ⊥
    no_some e = cc
some_mapped f (Some a) b h = (a, refl, cc)

pub none_mapped : {A B : Type 0} (f : A → B) (o : Option A) → option_map f o ≡ None → o ≡ None
none_mapped f None h = refl
none_mapped {A} {B} f (Some a) h = absurd (no_none h)
  where
    no_none : Some (f a) ≡ None → ⊥
    no_none e = cc

call_of_wait : (co : Option Call) (lo : Option Listen) → call_in (wait_of co lo) ≡ option_map kept_call co
call_of_wait None None = refl
call_of_wait None (Some l) = refl
call_of_wait (Some c) lo = refl

listen_of_wait : (co : Option Call) (lo : Option Listen) → IfSome co (λ c. lo ≡ None) → listen_in (wait_of co lo) ≡ option_map kept_listen lo
listen_of_wait None None alone = refl
listen_of_wait None (Some l) alone = refl
listen_of_wait (Some c) lo alone = rw alone refl

nothing_waits : (co : Option Call) (lo : Option Listen) → is_nothing (wait_of co lo) ≡ (is_none co && is_none lo)
nothing_waits None None = refl
nothing_waits None (Some l) = refl
nothing_waits (Some c) lo = refl

pub call_kept : (s : State) (i : ℕ) (slot : Slot) → IsKept s i slot → call_in slot.wait ≡ option_map kept_call (call_of s i)
call_kept s i slot h = ap (λ (o : Slot). call_in o.wait) h.is ∙ call_of_wait (call_of s i) (listen_of s i)

pub listen_kept : (s : State) (i : ℕ) (slot : Slot) → IsKept s i slot → listen_in slot.wait ≡ option_map kept_listen (listen_of s i)
listen_kept s i slot h = ap (λ (o : Slot). listen_in o.wait) h.is ∙ listen_of_wait (call_of s i) (listen_of s i) h.alone

-- a task that listens is client of no call; a task that does not listen has no listen
listens_alone : (co : Option Call) (lo : Option Listen) → IfSome co (λ c. lo ≡ None) → is_some (option_map kept_listen lo) ≡ true → co ≡ None
listens_alone None lo alone h = refl
listens_alone (Some c) lo alone h = absurd (false≢true (rw alone at h))

none_kept : (lo : Option Listen) → is_some (option_map kept_listen lo) ≡ false → lo ≡ None
none_kept None h = refl
none_kept (Some l) h = absurd (false≢true (sym h))

pub listens_no_call : (s : State) (i : ℕ) (slot : Slot) → IsKept s i slot → is_some (listen_in slot.wait) ≡ true → call_of s i ≡ None
listens_no_call s i slot h e = listens_alone (call_of s i) (listen_of s i) h.alone (sym (ap is_some (listen_kept s i slot h)) ∙ e)

pub no_listen : (s : State) (i : ℕ) (slot : Slot) → IsKept s i slot → is_some (listen_in slot.wait) ≡ false → listen_of s i ≡ None
no_listen s i slot h e = none_kept (listen_of s i) (sym (ap is_some (listen_kept s i slot h)) ∙ e)

-- ## who is ready

and_assoc : (a b c : Bool) → (a && (b && c)) ≡ ((a && b) && c)
and_assoc true b c = refl
and_assoc false b c = refl

pub free_packed : (s : State) (i : ℕ) → is_free (packed s i) ≡ is_ready s i
unfolding is_ready
free_packed s i =
    ap (λ b. is_well (task_at s i).health && b) (nothing_waits (call_of s i) (listen_of s i))
    ∙ and_assoc (is_well (task_at s i).health) (is_none (call_of s i)) (is_none (listen_of s i))

pub free_kept : (s : State) (i : ℕ) (slot : Slot) → IsKept s i slot → is_free slot ≡ is_ready s i
free_kept s i slot h = ap is_free h.is ∙ free_packed s i

-- ## dropped

-- the call is dropped
pub kept_no_call : (s : State) (i : ℕ) (c : Call) (slot : Slot) → IsKept s i slot → call_of s i ≡ Some c → IsKept (without_call i s) i record slot { wait = wait.Nothing }
kept_no_call s i c slot h e =
    let no_listen : listen_of s i ≡ None = rw e at h.alone in
    record {
      is = rw (call_of-without_call, listen_of-without_call, task_at-without_call, no_listen) (ap (λ (o : Slot). record o { wait = wait.Nothing }) h.is);
      alone = rw call_of-without_call tt;
    }

-- the listen is dropped
pub kept_no_listen : (s : State) (i : ℕ) (slot : Slot) → IsKept s i slot → call_of s i ≡ None → IsKept (without_listen i s) i record slot { wait = wait.Nothing }
kept_no_listen s i slot h e = record {
  is = rw (call_of-without_listen, listen_of-without_listen, task_at-without_listen, e) (ap (λ (o : Slot). record o { wait = wait.Nothing }) h.is);
  alone = rw (call_of-without_listen, e) tt;
}

-- ## all but the tasks

pub holds_begun : (g : Setup) (k : Kept) (t : Turn) (notes : List Note) → Shows g k t → notes ≡ [] → Shows g record k { notes = notes } (begun t.state)
unfolding begun
holds_begun g k t notes h e = record {
  setup = h.setup;
  count = h.count;
  many = h.many;
  tasks = h.tasks;
  notes = e;
  memory = h.memory;
  now = h.now;
  lines = h.lines;
  current = h.current;
  next_call = h.next_call;
}

pub holds_current : (g : Setup) (k : Kept) (t : Turn) (i : ℕ) → Shows g k t → Shows g record k { current = i } record t { state = record t.state { current = i } }
unfolding task_at call_of listen_of
holds_current g k t i h = record {
  setup = h.setup;
  count = h.count;
  many = h.many;
  notes = h.notes;
  memory = h.memory;
  now = h.now;
  lines = h.lines;
  next_call = h.next_call;
  tasks = λ j below d. kept_same t.state _ j _ refl refl refl (h.tasks j below d);
  current = refl;
}

-- the number of the next call is used
pub holds_next_call : (g : Setup) (k : Kept) (t : Turn) → Shows g k t → Shows g record k { next_call = k.next_call + 1 } record t { state = record t.state { next_call = t.state.next_call + 1 } }
unfolding task_at call_of listen_of
holds_next_call g k t h = record {
  setup = h.setup;
  count = h.count;
  many = h.many;
  notes = h.notes;
  memory = h.memory;
  now = h.now;
  lines = h.lines;
  current = h.current;
  tasks = λ j below d. kept_same t.state _ j _ refl refl refl (h.tasks j below d);
  next_call = ap (λ (n : ℕ). n + 1) h.next_call;
}

-- the time goes on, before it is noted
pub holds_now : (g : Setup) (k : Kept) (t : Turn) (n : ℕ) → Shows g k t → n ≡ t.state.now → Shows g record k { clock = n + 1 } record t { state = record t.state { now = t.state.now + 1 } }
unfolding task_at call_of listen_of
holds_now g k t n h e = record {
  setup = h.setup;
  count = h.count;
  many = h.many;
  notes = h.notes;
  memory = h.memory;
  lines = h.lines;
  current = h.current;
  next_call = h.next_call;
  tasks = λ j below d. kept_same t.state _ j _ refl refl refl (h.tasks j below d);
  now = ap (λ (x : ℕ). x + 1) e;
}

-- a line changes; the setup has only the number of lines
pub holds_line : (g : Setup) (k : Kept) (t : Turn) (n : ℕ) (line : Line) (setup : Setup) → Shows g k t → setup ≡ k.setup → Shows g record k { setup = setup; lines = set k.lines n line } (with_line n line t)
unfolding with_line task_at call_of listen_of
holds_line g k t n line setup h e = record {
  setup = e ∙ h.setup;
  count = h.count;
  many = h.many;
  notes = h.notes;
  memory = h.memory;
  now = h.now;
  current = h.current;
  next_call = h.next_call;
  tasks = λ j below d. kept_same t.state _ j _ refl refl refl (h.tasks j below d);
  lines = ap (λ xs. set xs n line) h.lines;
}

-- if there is no such line, nothing changes
pub line_away : (t : Turn) (n : ℕ) (line : Line) → length t.state.lines ≤ n → with_line n line t ≡ t
unfolding with_line
line_away t n line h = ap (λ xs. record t { state = record t.state { lines = xs } }) (set_past t.state.lines n line h)

-- the board keeps the number of the turn
pub holds_turn : (g : Setup) (k : Kept) (t : Turn) (n : ℕ) → Shows g k t → Shows g k record t { state = record t.state { turn = n } }
unfolding task_at call_of listen_of
holds_turn g k t n h = record {
  setup = h.setup;
  count = h.count;
  many = h.many;
  notes = h.notes;
  memory = h.memory;
  now = h.now;
  lines = h.lines;
  current = h.current;
  next_call = h.next_call;
  tasks = λ j below d. kept_same t.state _ j _ refl refl refl (h.tasks j below d);
}

pub holds_stored : (g : Setup) (k : Kept) (t : Turn) (on : Ground) (a : ℕ) (bytes : List ℕ) (setup : Setup) (memory : Memory) → Shows g k t → setup ≡ k.setup → memory ≡ with_bytes k.memory a bytes → Shows g record k { setup = setup; memory = memory } (stored on a bytes t)
unfolding stored task_at call_of listen_of
holds_stored g k t on a bytes setup memory h same e = record {
  setup = same ∙ h.setup;
  count = h.count;
  many = h.many;
  notes = h.notes;
  now = h.now;
  lines = h.lines;
  current = h.current;
  next_call = h.next_call;
  tasks = λ j below d. kept_same t.state _ j _ refl refl refl (h.tasks j below d);
  memory = e ∙ ap (λ m. with_bytes m a bytes) h.memory;
}

-- so the setup that the kernel keeps does not change
pub setup_stored : (f : List ℕ → ℕ → Setup) (m new : Memory) (a : ℕ) (bytes : List ℕ) → IsWithinRam m a (length bytes) → new ≡ with_bytes m a bytes → f new.flash (length new.ram) ≡ f m.flash (length m.ram)
setup_stored f m new a bytes within e =
    let ram : length new.ram ≡ length m.ram = ap (λ x. length x.ram) e ∙ length-with_bytes m a bytes within in
    let flash : new.flash ≡ m.flash = ap (λ x. x.flash) e ∙ flash-with_bytes m a bytes within in
    rw (ram, flash) refl
