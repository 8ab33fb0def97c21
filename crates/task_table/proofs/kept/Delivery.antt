-- How the code's kernel follows SEND, REPLY and REPLY_FAULT.
use Rattle.std.proofs.Common.{◌≡◌, ◌+◌, ◌<◌, ◌≤◌, ◌&&◌, ℕ, Bool, true, false, cond, length, Option, Some, None, inl, inr, refl, sym, subst, ◌∙◌, ap, arith, eqb}
use Rattle.std.specs.Option.{option_map}
use Rattle.std.proofs.lemmas.Bool.{eq-eqb, ne_eqb}
use Rattle.std.proofs.lemmas.Bool.Decides.{eqb_tells}
use Rattle.kernel_abi.specs.Ids.{id_of}
use Rattle.kernel_abi.specs.declared.TaskId.{TaskId}
use Rattle.mem_banks.specs.Memory.{IsWithinRam}
use Rattle.task_table.specs.model.State.{Setup, Call, Listen, State, Birth, From, Any, One, KernelOnly, Slice, Message, Turn}
use Rattle.task_table.specs.model.Reading.{task_at, call_of, listen_of, present, admits, is_taken, taken_by, IsIdle, IsSameBut}
use Rattle.task_table.specs.model.Effects.{with_task, with_call, returned, handed, past_syscall, offered, noted}
use Rattle.task_table.specs.model.Sends.{taken_at_once}
use Rattle.task_table.specs.kept.Messages.{buffer_for}
use Rattle.task_table.specs.model.Sane.{Sane}
use Rattle.task_table.specs.kept.Holds.{IsKept, kept_call, id_at, from_id_of, wait_of, taken_in, hears, buffer_in}
use Rattle.task_table.specs.declared.slot.OpenCall.{OpenCall}
use Rattle.task_table.specs.declared.slot.Slot.{Slot}
use Rattle.task_table.specs.declared.slot.Wait.TheVariants as wait
use Rattle.task_table.proofs.model.Changes.{listen_of-with_task}
use Rattle.task_table.proofs.model.Clients.{option_cases, found_call, taken_by_none, taken_by_call, no_some, same_some}
use Rattle.task_table.proofs.kept.Messages.{index_of-id_of, kept_if}
use Rattle.task_table.proofs.model.Posting.{found_listen}
use Rattle.task_table.proofs.model.Ranges.{within_ram-good}
use Rattle.task_table.proofs.model.Waiting.{find_added, find_added_other}

-- ## a taken call

not_taken : (lo : Option Listen) (j : ℕ) → taken_in (wait_of None lo) j ≡ None
not_taken None j = refl
not_taken (Some l) j = refl

taken_of : (c : Call) (lo : Option Listen) (j : ℕ) → c.server.index < 1024 → taken_in (wait_of (Some c) lo) j ≡ option_map kept_call (cond (eqb c.server.index j && is_taken c.phase) (Some c) None)
taken_of c lo j small =
    ap (λ (n : ℕ). cond (eqb n j && is_taken c.phase) (Some (kept_call c)) None) (index_of-id_of c.server.index c.server.birth small) ∙ kept_if (eqb c.server.index j && is_taken c.phase) c

pub taken_kept : (g : Setup) (s : State) (i j : ℕ) (slot : Slot) → Sane g s → length s.tasks ≤ 1024 → IsKept s i slot → taken_in slot.wait j ≡ option_map kept_call (taken_by s i j)
taken_kept g s i j slot sane small h =
    let waits : taken_in slot.wait j ≡ taken_in (wait_of (call_of s i) (listen_of s i)) j = ap (λ (o : Slot). taken_in o.wait j) h.is in
    elim (option_cases (call_of s i)) [
      | inl none ↦ waits ∙ rw (none, taken_by_none s i j none) (not_taken (listen_of s i) j)
      | inr some ↦
          let c = some.0 in
          let fit = sane.steady.calls.fit c (found_call s i c some.1) in
          let there = fit.server in
          let many = sane.steady.as_many in
          waits ∙ rw (some.1, taken_by_call g s i j c sane some.1) (taken_of c (listen_of s i) j (omega (arith, there, many)))
    ]

-- ## a listen that is open to a client

-- two present births are the same if their ids are
same_id : (a b : Birth) → a.index < 1024 → b.index < 1024 → (a.index ≡ b.index → a.birth ≡ b.birth) → eqb (id_of a.index a.birth) (id_of b.index b.birth) ≡ (eqb a.index b.index && eqb a.birth b.birth)
same_id a b small few same = elim (eqb_tells a.index b.index) [
  | inl here ↦ let births = same here.1 in rw (here.0, eq-eqb a.birth b.birth births) (eq-eqb _ _ (rw (here.1, births) refl))
  | inr other ↦ rw other.0 (ne_eqb _ _ (λ ids. other.1 (omega (arith, ids))))
]

hears_kept : (from : From) (client : Birth) → client.index < 1024 → ((b : Birth) → from ≡ One b → (b.index < 1024) × (b.index ≡ client.index → b.birth ≡ client.birth)) → hears (from_id_of from) (id_at client) ≡ admits from client
hears_kept Any client small named = refl
hears_kept KernelOnly client small named = refl
hears_kept (One b) client small named = let n = named b refl in same_id b client n.0 small n.1

pub buffer_kept : (g : Setup) (s : State) (i j : ℕ) (slot : Slot) → Sane g s → length s.tasks ≤ 1024 → i < length s.tasks → IsKept s j slot → buffer_in slot.wait (id_at (present s i)) ≡ buffer_for (present s i) (listen_of s j)
buffer_kept g s i j slot sane small inside h =
    let id = id_at (present s i) in
    let waits : buffer_in slot.wait id ≡ buffer_in (wait_of (call_of s j) (listen_of s j)) id = ap (λ (o : Slot). buffer_in o.wait id) h.is in
    waits ∙ elim (option_cases (call_of s j)) [
      | inl none ↦ elim (option_cases (listen_of s j)) [
        | inl quiet ↦ rw (none, quiet) refl
        | inr l ↦ rw (none, l.1) (ap (λ (b : Bool). cond b (Some l.0.buffer) None) (heard l.0 l.1))
      ]
      | inr some ↦ let quiet : listen_of s j ≡ None = rw some.1 at h.alone in rw (some.1, quiet) refl
    ]
  where
    heard : (l : Listen) → listen_of s j ≡ Some l → hears (from_id_of l.from) (id_at (present s i)) ≡ admits l.from (present s i)
    heard l e =
        let here = (found_listen s j l e).0 in
        hears_kept l.from (present s i) (omega (arith, inside, small)) (λ b from.
        let there = ((sane.steady.listens.fit l here).names b from).0 in
        let many = sane.steady.as_many in
        (omega (arith, there, many, small), λ same. sym (sane.present.named l b here from tt) ∙ ap (λ k. (task_at s k).births) same))

-- ## a call is offered

call_of-with_call : (s : State) (k : Call) → call_of s k.client.index ≡ None → call_of (with_call k s) k.client.index ≡ Some k
unfolding call_of with_call
call_of-with_call s k none = find_added (λ x. eqb x.client.index k.client.index) s.calls k none (eq-eqb k.client.index k.client.index refl)

pub task_at-with_call : (s : State) (k : Call) (j : ℕ) → task_at (with_call k s) j ≡ task_at s j
unfolding task_at with_call
task_at-with_call s k j = refl

listen_of-with_call : (s : State) (k : Call) (j : ℕ) → listen_of (with_call k s) j ≡ listen_of s j
unfolding listen_of with_call
listen_of-with_call s k j = refl

-- the call is offered, after its number is used
abbrev numbered : State → State
numbered s = record s { next_call = s.next_call + 1 }

same_but : (s : State) (k : Call) → IsSameBut k.client.index (numbered s) (with_call k s)
unfolding with_call task_at call_of listen_of
same_but s k = record {
  count = refl;
  task = λ j ne. refl;
  call = λ j ne. find_added_other (λ x. eqb x.client.index j) s.calls k (ne_eqb _ _ (λ e. ne (sym e)));
  listen = λ j ne. refl;
  memory = refl;
  now = refl;
  current = refl;
  next_call = refl;
  lines = refl;
  turn = refl;
  devices = refl;
}

pub same_but-with_call : (s : State) (k : Call) (i : ℕ) → k.client.index ≡ i → IsSameBut i (numbered s) (with_call k s)
same_but-with_call s k i e = subst (λ (n : ℕ). IsSameBut n (numbered s) (with_call k s)) e (same_but s k)

kept : (s : State) (k : Call) (slot : Slot) → IsKept s k.client.index slot → IsIdle s k.client.index → IsKept (with_call k s) k.client.index record slot { wait = wait.Call (kept_call k) }
kept s k slot h idle = record {
  is = rw (call_of-with_call s k idle.call, task_at-with_call) (ap (λ (o : Slot). record o { wait = wait.Call (kept_call k) }) h.is);
  alone = rw (call_of-with_call s k idle.call, listen_of-with_call) idle.listen;
}

pub kept-with_call : (s : State) (k : Call) (i : ℕ) (slot : Slot) (call : OpenCall) → k.client.index ≡ i → IsKept s i slot → IsIdle s i → kept_call k ≡ call → IsKept (with_call k s) i record slot { wait = wait.Call call }
kept-with_call s k i slot call client h idle same =
    subst (λ (x : OpenCall). IsKept (with_call k s) i record slot { wait = wait.Call x }) same
    (subst (λ (n : ℕ). IsKept s n slot → IsIdle s n → IsKept (with_call k s) n record slot { wait = wait.Call (kept_call k) }) client (kept s k slot) h idle)

pub id_is : (id : TaskId) (b : Birth) → id.number ≡ id_of b.index b.birth → id ≡ id_at b
id_is id b e = ap (λ (n : ℕ). let x : TaskId = record { number = n } in x) e

-- ## the call is taken at once, or not

pub taken_into : (k : Call) (lo : Option Listen) (buffer : Slice) (t : Turn) → buffer_for k.client lo ≡ Some buffer → taken_at_once k lo t ≡ returned k.server.index (handed (Message k.number) k buffer t)
taken_into k None buffer t e = no_some e
taken_into k (Some l) buffer t e = go (admits l.from k.client) e
  where
    go : (b : Bool) → cond b (Some l.buffer) None ≡ Some buffer → cond b (returned k.server.index (handed (Message k.number) k l.buffer t)) t ≡ returned k.server.index (handed (Message k.number) k buffer t)
    go true h = ap (λ (r : Slice). returned k.server.index (handed (Message k.number) k r t)) (same_some h)
    go false h = no_some h

pub not_taken_into : (k : Call) (lo : Option Listen) (t : Turn) → buffer_for k.client lo ≡ None → taken_at_once k lo t ≡ t
not_taken_into k None t e = refl
not_taken_into k (Some l) t e = go (admits l.from k.client) e
  where
    go : (b : Bool) → cond b (Some l.buffer) None ≡ None → cond b (returned k.server.index (handed (Message k.number) k l.buffer t)) t ≡ t
    go true h = no_some (sym h)
    go false h = refl

-- a listener's buffer lies in RAM
pub listener_ram : (g : Setup) (s : State) (client : Birth) (j : ℕ) (buffer : Slice) → Sane g s → buffer_for client (listen_of s j) ≡ Some buffer → IsWithinRam s.memory buffer.base buffer.len
listener_ram g s client j buffer sane e = go (listen_of s j) refl e
  where
    of_listen : (b : Bool) (l : Listen) → IsWithinRam s.memory l.buffer.base l.buffer.len → cond b (Some l.buffer) None ≡ Some buffer → IsWithinRam s.memory buffer.base buffer.len
    of_listen true l w h = let same : l.buffer ≡ buffer = same_some h in rw (← same) w
    of_listen false l w h = no_some h

    go : (o : Option Listen) → listen_of s j ≡ o → buffer_for client o ≡ Some buffer → IsWithinRam s.memory buffer.base buffer.len
    go None listens h = no_some h
    go (Some l) listens h =
        let fit = sane.steady.listens.fit l (found_listen s j l listens).0 in
        of_listen (admits l.from client) l (within_ram-good g s.memory l.task l.buffer sane.steady.placed fit.writable) h

-- ## what going past a call and offering one leave alone

pub listen_of-past_syscall : (c : ℕ) (t : Turn) (j : ℕ) → listen_of (past_syscall c t).state j ≡ listen_of t.state j
unfolding past_syscall
listen_of-past_syscall c t j = listen_of-with_task t.state c j _

pub next_call-past_syscall : (c : ℕ) (t : Turn) → (past_syscall c t).state.next_call ≡ t.state.next_call
unfolding past_syscall with_task
next_call-past_syscall c t = refl

pub memory-offered : (k : Call) (t : Turn) → (offered k t).state.memory ≡ t.state.memory
unfolding offered noted with_call
memory-offered k t = refl
