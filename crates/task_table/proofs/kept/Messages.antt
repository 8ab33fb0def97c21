-- How the code's kernel follows a message.
use Rattle.std.proofs.Common.{◌≡◌, ◌<◌, ◌≤◌, ◌+◌, ◌^◌, ◌%◌, ◌&&◌, ℕ, Bool, true, false, cond, List, length, take, drop, set, Option, Some, None, inl, inr, refl, ◌∙◌, ap, arith, eqb, IfSome}
use Rattle.std.specs.Prelude.{slice_range}
use Rattle.std.specs.Option.{option_map}
use Rattle.std.proofs.lemmas.Bool.{eq-eqb}
use Rattle.std.proofs.lemmas.List.{take-set-le, drop-set-add}
use Rattle.kernel_abi.specs.Ids.{id_of, index_of}
use Rattle.kernel_abi.specs.declared.FromIndex.{FromIndex}
use Rattle.kernel_abi.specs.declared.FromIndex.TheVariants as from_index
use Rattle.mem_banks.specs.Memory.{Memory, bytes_at, copied as copied_memory, IsWithin, IsWithinRam}
use Rattle.task_table.specs.model.State.{Setup, Task, Call, Listen, State, Birth, One, Ground, Read, Turn}
use Rattle.task_table.specs.model.Reading.{task_at, register, arguments, call_of, listen_of, present, is_offered, offer_by, IsIdle}
use Rattle.task_table.specs.model.Effects.{with_listen, with_taken, taken_from, past_syscall, copied, looked}
use Rattle.task_table.specs.model.Rows.{listened_from}
use Rattle.task_table.specs.kept.Messages.{from_of}
use Rattle.task_table.specs.model.Sane.{Sane}
use Rattle.task_table.specs.kept.Holds.{Shows, Kept, IsKept, kept_call, kept_listen, wait_of, is_offer_to, offered_in, taken_wait}
use Rattle.task_table.specs.declared.slot.Slot.{Slot}
use Rattle.task_table.specs.declared.slot.Wait.{Wait}
use Rattle.task_table.specs.declared.slot.Wait.TheVariants as wait
use Rattle.task_table.proofs.kept.Steps.{kept_same, setup_stored}
use Rattle.task_table.proofs.model.Handing.{few_bytes}
use Rattle.task_table.proofs.model.Ranges.{within_ram-front}
use Rattle.task_table.proofs.model.Receives.{births-past_syscall}
use Rattle.task_table.proofs.model.Changes.{task_at-with_task}
use Rattle.task_table.proofs.model.Waiting.{listen_of-with_listen, call_of-with_listen, task_at-with_listen, call_of-with_taken, listen_of-with_taken, task_at-with_taken}
use Rattle.task_table.proofs.model.Clients.{option_cases, found_call, client_is, offer_by_none, offer_by_call}

-- ## an offered call

pub index_of-id_of : (i b : ℕ) → i < 1024 → index_of (id_of i b) ≡ i
index_of-id_of i b h = omega arith

-- it is offered to a server by the id that is kept
offer_to_kept : (c : Call) (j : ℕ) → c.server.index < 1024 → is_offer_to (kept_call c) j ≡ (eqb c.server.index j && is_offered c.phase)
offer_to_kept c j small = ap (λ (n : ℕ). eqb n j && is_offered c.phase) (index_of-id_of c.server.index c.server.birth small)

pub kept_if : (b : Bool) (c : Call) → cond b (Some (kept_call c)) None ≡ option_map kept_call (cond b (Some c) None)
kept_if true c = refl
kept_if false c = refl

no_offered : (lo : Option Listen) (j : ℕ) → offered_in (wait_of None lo) j ≡ None
no_offered None j = refl
no_offered (Some l) j = refl

offered_of : (c : Call) (lo : Option Listen) (j : ℕ) → c.server.index < 1024 → offered_in (wait_of (Some c) lo) j ≡ option_map kept_call (cond (eqb c.server.index j && is_offered c.phase) (Some c) None)
offered_of c lo j small = ap (λ (b : Bool). cond b (Some (kept_call c)) None) (offer_to_kept c j small) ∙ kept_if (eqb c.server.index j && is_offered c.phase) c

pub offered_kept : (g : Setup) (s : State) (i j : ℕ) (slot : Slot) → Sane g s → length s.tasks ≤ 1024 → IsKept s i slot → offered_in slot.wait j ≡ option_map kept_call (offer_by s i j)
offered_kept g s i j slot sane small h =
    let waits : offered_in slot.wait j ≡ offered_in (wait_of (call_of s i) (listen_of s i)) j = ap (λ (o : Slot). offered_in o.wait j) h.is in
    elim (option_cases (call_of s i)) [
      | inl none ↦ waits ∙ rw (none, offer_by_none s i j none) (no_offered (listen_of s i) j)
      | inr some ↦
          let c = some.0 in
          let fit = sane.steady.calls.fit c (found_call s i c some.1) in
          let there = fit.server in
          let many = sane.steady.as_many in
          waits ∙ rw (some.1, offer_by_call g s i j c sane some.1) (offered_of c (listen_of s i) j (omega (arith, there, many)))
    ]

-- ## a call taken

once_taken : (i : ℕ) (co : Option Call) (lo : Option Listen) → IfSome co (λ c. c.client.index ≡ i) → taken_wait (wait_of co lo) ≡ wait_of (option_map (taken_from i) co) lo
once_taken i None None e = refl
once_taken i None (Some l) e = refl
once_taken i (Some c) lo e = rw (eq-eqb _ _ e) refl

alone_taken : (i : ℕ) (P : Type 0) (co : Option Call) → IfSome co (λ c. P) → IfSome (option_map (taken_from i) co) (λ c. P)
alone_taken i P None h = tt
alone_taken i P (Some c) h = h

of_client : (s : State) (i : ℕ) → IfSome (call_of s i) (λ c. c.client.index ≡ i)
of_client s i = go (call_of s i) refl
  where
    go : (o : Option Call) → call_of s i ≡ o → IfSome o (λ c. c.client.index ≡ i)
    go None e = tt
    go (Some c) e = client_is s i c e

pub kept_taken : (s : State) (i : ℕ) (slot : Slot) (w : Wait) → IsKept s i slot → w ≡ taken_wait slot.wait → IsKept (with_taken i s) i record slot { wait = w }
kept_taken s i slot w h e = record {
  is = rw (call_of-with_taken, task_at-with_taken, listen_of-with_taken, e, ← once_taken i (call_of s i) (listen_of s i) (of_client s i)) (ap (λ (o : Slot). record o { wait = taken_wait o.wait }) h.is);
  alone = rw (call_of-with_taken, listen_of-with_taken) (alone_taken i _ (call_of s i) h.alone);
}

-- ## a task that waits for nothing listens

pub kept-with_listen : (s : State) (l : Listen) (slot : Slot) (w : Wait) → IsKept s l.task slot → IsIdle s l.task → w ≡ wait.Listen (kept_listen l) → IsKept (with_listen l s) l.task record slot { wait = w }
kept-with_listen s l slot w h idle e = record {
  is = rw (listen_of-with_listen s l idle.listen, call_of-with_listen, task_at-with_listen, idle.call, e) (ap (λ (o : Slot). record o { wait = wait.Listen (kept_listen l) }) h.is);
  alone = rw (call_of-with_listen, idle.call) tt;
}

pub answered_as : (s : State) (from : FromIndex) → listened_from (from_of s from) ≡ from
answered_as s from_index.Any = refl
answered_as s from_index.Kernel = refl
answered_as s (from_index.One i) = refl

-- ## who goes past a call keeps its arguments, its births and the memory

task-past_syscall : (c : ℕ) (t : Turn) → c < length t.state.tasks → task_at (past_syscall c t).state c ≡ record (task_at t.state c) { registers = set (task_at t.state c).registers 15 ((register t.state c 15 + 2) % 2 ^ 32) }
unfolding past_syscall
task-past_syscall c t h = task_at-with_task t.state c _ h

before_last : (rs : List ℕ) (x : ℕ) → slice_range (set rs 15 x) 4 12 ≡ slice_range rs 4 12
before_last rs x = ap (take 8) (drop-set-add 4 rs 11 x) ∙ take-set-le 8 (drop 4 rs) 11 x (omega arith)

pub arguments-past_syscall : (c : ℕ) (t : Turn) → c < length t.state.tasks → arguments (past_syscall c t).state c ≡ arguments t.state c
unfolding arguments
arguments-past_syscall c t h =
    ap (λ (x : Task). slice_range x.registers 4 12) (task-past_syscall c t h) ∙ before_last (task_at t.state c).registers _

pub present-past_syscall : (c : ℕ) (t : Turn) (j : ℕ) → c < length t.state.tasks → present (past_syscall c t).state j ≡ present t.state j
present-past_syscall c t j h = ap (λ b. let x : Birth = record { index = j; birth = b } in x) (births-past_syscall c t j h)

pub from-past_syscall : (c : ℕ) (t : Turn) (from : FromIndex) → c < length t.state.tasks → from_of (past_syscall c t).state from ≡ from_of t.state from
from-past_syscall c t from_index.Any h = refl
from-past_syscall c t from_index.Kernel h = refl
from-past_syscall c t (from_index.One i) h = ap One (present-past_syscall c t i h)

-- ## bytes are copied, and a call is handed over

-- the front of a range
pub within-front : (m : Memory) (a k n : ℕ) → k ≤ n → IsWithin m a n → IsWithin m a k
within-front m a k n h w = elim w [ inl r ↦ inl (within_ram-front m a n k r h) | inr x ↦ inr (x.0, omega arith) ]

-- the kernel does not keep what was read
pub holds_looked : (g : Setup) (k : Kept) (t : Turn) (r : Read) → Shows g k t → Shows g k (looked r t)
unfolding looked
holds_looked g k t r h = record {
  setup = h.setup;
  count = h.count;
  many = h.many;
  tasks = h.tasks;
  notes = h.notes;
  memory = h.memory;
  now = h.now;
  lines = h.lines;
  current = h.current;
  next_call = h.next_call;
}

pub holds_copied : (g : Setup) (k : Kept) (t : Turn) (on : Ground) (from to n : ℕ) (setup : Setup) (memory : Memory) → Shows g k t → setup ≡ k.setup → memory ≡ copied_memory k.memory from to n → Shows g record k { setup = setup; memory = memory } (copied on from to n t)
unfolding copied task_at call_of listen_of
holds_copied g k t on from to n setup memory h same e = record {
  setup = same ∙ h.setup;
  count = h.count;
  many = h.many;
  notes = h.notes;
  now = h.now;
  lines = h.lines;
  current = h.current;
  next_call = h.next_call;
  tasks = λ j below d. kept_same t.state _ j _ refl refl refl (h.tasks j below d);
  memory = e ∙ ap (λ m. copied_memory m from to n) h.memory;
}

-- the setup that the kernel keeps does not change
pub setup_copied : (f : List ℕ → ℕ → Setup) (m new : Memory) (from to n : ℕ) → IsWithinRam m to n → new ≡ copied_memory m from to n → f new.flash (length new.ram) ≡ f m.flash (length m.ram)
unfolding copied_memory
setup_copied f m new from to n within e =
    setup_stored f m new to (bytes_at m from n) (within_ram-front m to n (length (bytes_at m from n)) within (few_bytes m from n)) e
