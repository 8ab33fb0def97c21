-- A part of a state is set, and the kernel keeps what was set.
use Rattle.std.proofs.Common.{◌≡◌, ◌+◌, ◌-◌, ◌*◌, ◌/◌, ◌%◌, ◌<◌, ◌≤◌, ◌⊎◌, inl, inr, ℕ, true, false, List, [], ◌∷◌, length, take, Option, Some, None, refl, sym, ◌∙◌, ap, arith, eqb, leb, ltb, cond, IfSome}
use Rattle.std.proofs.lemmas.Bool.{ne_eqb, eq-eqb, lt-leb, le-leb, ltb-true, false≢true, cases_lt}
use Rattle.kernel_abi.specs.declared.TaskId.{TaskId}
use Rattle.mem_banks.specs.Memory.{Memory, bytes_at, number_at, number_of, with_bytes, pasted, is_held, IsWithin}
use Rattle.mem_banks.proofs.Copies.{with_bytes_flash, bytes_flash, bytes_ram, bytes_none}
use Rattle.mem_banks.proofs.Lists.{part_below}
use Rattle.mem_banks.proofs.ReadPieces.{all_written, all_in_ram}
use Rattle.mem_banks.proofs.Stores.{length-with_bytes}
use Rattle.task_table.specs.model.State.{Setup, Task, Call, Listen, State, Turn}
use Rattle.task_table.specs.model.Reading.{task_at, call_of, listen_of, IsSameBut, TimersAlike}
use Rattle.task_table.specs.model.Effects.{with_task, without_call, without_listen}
use Rattle.task_table.specs.kept.Holds.{Shows, Kept, IsKept, id_at, kept_call, kept_listen, from_id_of, packed_task, wait_of}
use Rattle.task_table.specs.kept.Entries.{kept_at, meets, entry_at, AreFresh}
use Rattle.task_table.specs.declared.entry.KeptEntry.{KeptEntry}
use Rattle.task_table.specs.declared.slot.Listening.{Listening}
use Rattle.task_table.specs.declared.slot.OpenCall.{OpenCall}
use Rattle.task_table.specs.declared.slot.Slot.{Slot}
use Rattle.task_table.specs.declared.slot.FromId.{FromId}
use Rattle.task_table.specs.declared.slot.FromId.TheVariants as from_id
use Rattle.task_table.specs.declared.slot.Wait.{Wait}
use Rattle.task_table.specs.declared.slot.Wait.TheVariants as wait
use Rattle.task_table.specs.kept.Setting.{birth_of, call_told, from_told, listen_told, task_told, with_open_call, with_wait, with_slot, IsTold}
use Rattle.task_table.proofs.model.Changes.{task_at-with_task, same_but_here, same_but_then, same_but-with_task_again, same_but-without_call, same_but-without_listen, call_of-without_call, listen_of-without_listen, task_at-without_call, task_at-without_listen, call_of-without_listen}
use Rattle.task_table.proofs.model.Waiting.{find_added, find_added_other, listen_of-with_listen, same_but-with_listen, task_at-with_listen, call_of-with_listen}
use Rattle.task_table.proofs.kept.KeptEntries.{drop_pasted, meets_not, fresh_stored}
use Rattle.task_table.proofs.kept.Steps.{kept_same}

-- ## ids

id_again : (id : TaskId) → id.number < 65536 → id_at (birth_of id) ≡ id
id_again id small =
    let e : id.number % 1024 + 1024 * (id.number / 1024 % 64 % 64) ≡ id.number = omega (arith, small) in
    λ k. record { number = e k }

call_again : (c : OpenCall) → c.client.number < 65536 → c.server.number < 65536 → kept_call (call_told c) ≡ c
call_again c client server = λ k. record c { client = id_again c.client client k; server = id_again c.server server k }

from_again : (f : FromId) → ((id : TaskId) → f ≡ from_id.One id → id.number < 65536) → from_id_of (from_told f) ≡ f
from_again from_id.Any h = refl
from_again (from_id.One id) h = ap from_id.One (id_again id (h id refl))
from_again from_id.Kernel h = refl

listen_again : (i : ℕ) (l : Listening) → ((id : TaskId) → l.from ≡ from_id.One id → id.number < 65536) → kept_listen (listen_told i l) ≡ l
listen_again i l h = ap (λ f. record l { from = f }) (from_again l.from h)

-- ## one more open call

call_of-with_open_call : (s : State) (c : Call) (i : ℕ) → c.client.index ≡ i → call_of s i ≡ None → call_of (with_open_call c s) i ≡ Some c
unfolding call_of with_open_call
call_of-with_open_call s c i same none = find_added (λ x. eqb x.client.index i) s.calls c none (eq-eqb c.client.index i same)

same_but-with_open_call : (s : State) (c : Call) (i : ℕ) → c.client.index ≡ i → IsSameBut i s (with_open_call c s)
unfolding task_at call_of listen_of with_open_call
same_but-with_open_call s c i same = record {
  count = refl;
  task = λ j ne. refl;
  call = λ j ne. find_added_other (λ x. eqb x.client.index j) s.calls c (ne_eqb _ _ (λ e. ne (sym e ∙ same)));
  listen = λ j ne. refl;
  memory = refl;
  now = refl;
  current = refl;
  next_call = refl;
  lines = refl;
  turn = refl;
  devices = refl;
}

task_open : (s : State) (c : Call) (i : ℕ) → task_at (with_open_call c s) i ≡ task_at s i
unfolding task_at with_open_call
task_open s c i = refl

listen_open : (s : State) (c : Call) (i : ℕ) → listen_of (with_open_call c s) i ≡ listen_of s i
unfolding listen_of with_open_call
listen_open s c i = refl

-- ## the task of a slot

-- the client of a call that is set for task i is task i
told_client : (i : ℕ) (slot : Slot) (c : OpenCall) → i < 1024 → IsTold i slot → slot.wait ≡ wait.Call c → (call_told c).client.index ≡ i
told_client i slot c small h e = let n = h.client c e in omega (arith, n, small)

same_but-with_wait : (i : ℕ) (s : State) (w : Wait) → ((c : OpenCall) → w ≡ wait.Call c → (call_told c).client.index ≡ i) → IsSameBut i s (with_wait i w s)
same_but-with_wait i s (wait.Call c) h = same_but-with_open_call s (call_told c) i (h c refl)
same_but-with_wait i s (wait.Listen l) h = same_but-with_listen s (listen_told i l)
same_but-with_wait i s wait.Nothing h = same_but_here i s

-- the rest of the state does not depend on what task i was before
pub same_but-with_slot : (s : State) (i : ℕ) (old : Task) (slot : Slot) → i < 1024 → IsTold i slot → IsSameBut i (with_task i old s) (with_slot i slot s)
unfolding with_slot
same_but-with_slot s i old slot small h =
    same_but_then i _ _ _ (same_but-with_task_again s i old (task_told slot))
    (same_but_then i _ _ _ (same_but-without_call _ i)
    (same_but_then i _ _ _ (same_but-without_listen _ i) (same_but-with_wait i _ slot.wait (λ c e. told_client i slot c small h e))))

-- a state in which a task waits for nothing
record IsFree (i : ℕ) (x : Task) (s : State) : Type 0 where
  task : task_at s i ≡ x
  call : call_of s i ≡ None
  listen : listen_of s i ≡ None

packed_again : (slot : Slot) (w : Wait) → slot.generation.number < 64 → w ≡ slot.wait → slot ≡ packed_task (task_told slot) w
packed_again slot w small e =
    let g : slot.generation.number ≡ slot.generation.number % 64 = omega (arith, small) in
    λ k. record slot { generation = record { number = g k }; wait = sym e k }

kept_by : (i : ℕ) (slot : Slot) (u : State) (co : Option Call) (lo : Option Listen) → slot.generation.number < 64 → task_at u i ≡ task_told slot → call_of u i ≡ co → listen_of u i ≡ lo → wait_of co lo ≡ slot.wait → IfSome co (λ c. lo ≡ None) → IsKept u i slot
kept_by i slot u co lo small task call listen waits alone = record {
  is = rw (task, call, listen) (packed_again slot (wait_of co lo) small waits);
  alone = rw (call, listen) alone;
}

kept-with_wait : (i : ℕ) (slot : Slot) (s : State) (w : Wait) → i < 1024 → IsTold i slot → slot.wait ≡ w → IsFree i (task_told slot) s → IsKept (with_wait i w s) i slot
kept-with_wait i slot s (wait.Call c) small h e free =
    let client = h.client c e in
    let few = h.generation in
    let mine : c.client.number < 65536 = omega (arith, client, few, small) in
    kept_by i slot _ (Some (call_told c)) None few (task_open s (call_told c) i ∙ free.task) (call_of-with_open_call s (call_told c) i (told_client i slot c small h e) free.call) (listen_open s (call_told c) i ∙ free.listen)
    (ap wait.Call (call_again c mine (h.server c e)) ∙ sym e) refl
kept-with_wait i slot s (wait.Listen l) small h e free =
    kept_by i slot _ None (Some (listen_told i l)) h.generation (task_at-with_listen s (listen_told i l) i ∙ free.task) (call_of-with_listen s (listen_told i l) i ∙ free.call) (listen_of-with_listen s (listen_told i l) free.listen)
    (ap wait.Listen (listen_again i l (λ id f. h.named l id e f)) ∙ sym e) tt
kept-with_wait i slot s wait.Nothing small h e free =
    kept_by i slot s None None h.generation free.task free.call free.listen (sym e) tt

pub kept-with_slot : (s : State) (i : ℕ) (slot : Slot) → i < length s.tasks → i < 1024 → IsTold i slot → IsKept (with_slot i slot s) i slot
unfolding with_slot
kept-with_slot s i slot there small h =
    let a = with_task i (task_told slot) s in
    let b = without_call i a in
    let d = without_listen i b in
    let free : IsFree i (task_told slot) d = record {
      task = task_at-without_listen b i i ∙ task_at-without_call a i i ∙ task_at-with_task s i (task_told slot) there;
      call = call_of-without_listen b i i ∙ call_of-without_call a i;
      listen = listen_of-without_listen b i;
    } in
    kept-with_wait i slot d slot.wait small h refl free

pub timers-with_slot : (s : State) (i : ℕ) (old : Task) (slot : Slot) → i < length s.tasks → i < 1024 → IsTold i slot → old.timer ≡ slot.timer → TimersAlike i (with_task i old s) (with_slot i slot s)
timers-with_slot s i old slot there small h same =
    let kept = kept-with_slot s i slot there small h in
    sym (ap (λ (o : Slot). o.timer) kept.is) ∙ sym same ∙ sym (ap (λ (x : Task). x.timer) (task_at-with_task s i old there))

-- ## time and the number of the next call

pub holds_set_now : (g : Setup) (k : Kept) (t : Turn) (n : ℕ) → Shows g k t → Shows g record k { clock = n } record t { state = record t.state { now = n } }
unfolding task_at call_of listen_of
holds_set_now g k t n h = record {
  setup = h.setup;
  count = h.count;
  many = h.many;
  notes = h.notes;
  memory = h.memory;
  lines = h.lines;
  current = h.current;
  next_call = h.next_call;
  tasks = λ j below d. kept_same t.state _ j _ refl refl refl (h.tasks j below d);
  now = refl;
}

pub holds_set_next_call : (g : Setup) (k : Kept) (t : Turn) (n : ℕ) → Shows g k t → Shows g record k { next_call = n } record t { state = record t.state { next_call = n } }
unfolding task_at call_of listen_of
holds_set_next_call g k t n h = record {
  setup = h.setup;
  count = h.count;
  many = h.many;
  notes = h.notes;
  memory = h.memory;
  lines = h.lines;
  current = h.current;
  now = h.now;
  tasks = λ j below d. kept_same t.state _ j _ refl refl refl (h.tasks j below d);
  next_call = refl;
}

-- ## a byte

-- if memory has the byte
pub held_cases : (m : Memory) (a : ℕ) → is_held m a ≡ true → ((0x20000000 ≤ a) × (a + 1 ≤ 0x20000000 + length m.ram)) ⊎ ((a < 0x20000000) × (0x08000000 ≤ a) × (a + 1 ≤ 0x08000000 + length m.flash))
held_cases m a h = elim (cases_lt a 0x20000000) [
  | inl low ↦
      let t : leb 0x20000000 a ≡ false = lt-leb _ _ low in
      in_flash low (rw t at h)
  | inr high ↦
      let t : leb 0x20000000 a ≡ true = le-leb _ _ high in
      let lt : a - 0x20000000 < length m.ram = ltb-true _ _ (rw t at h) in
      inl (high, omega (arith, high, lt))
]
  where
    in_flash : a < 0x20000000 → cond (leb 0x08000000 a) (ltb (a - 0x08000000) (length m.flash)) false ≡ true → ((0x20000000 ≤ a) × (a + 1 ≤ 0x20000000 + length m.ram)) ⊎ ((a < 0x20000000) × (0x08000000 ≤ a) × (a + 1 ≤ 0x08000000 + length m.flash))
    in_flash low h = elim (cases_lt a 0x08000000) [
      | inl below ↦
          let t : leb 0x08000000 a ≡ false = lt-leb _ _ below in
          absurd (false≢true (rw t at h))
      | inr above ↦
          let t : leb 0x08000000 a ≡ true = le-leb _ _ above in
          let lt : a - 0x08000000 < length m.flash = ltb-true _ _ (rw t at h) in
          inr (low, above, omega (arith, above, lt))
    ]

pub held_within : (m : Memory) (a : ℕ) → is_held m a ≡ true → IsWithin m a 1
held_within m a h = elim (held_cases m a h) [ inl ram ↦ inl (inr ram) | inr flash ↦ inr (flash.1, flash.2) ]

apart_flash : (m : Memory) (a : ℕ) (ys : List ℕ) (b n : ℕ) → a < 0x20000000 → 0x08000000 ≤ a → a + length ys ≤ 0x08000000 + length m.flash → (b + n ≤ a) ⊎ (a + length ys ≤ b) → bytes_at (with_bytes m a ys) b n ≡ bytes_at m b n
apart_flash m a ys b n low above fits apart =
    let v : Memory = record m { flash = pasted m.flash (a - 0x08000000) ys } in
    ap (λ (x : Memory). bytes_at x b n) (with_bytes_flash m a ys low)
    ∙ elim (cases_lt b 0x20000000) [
      | inr high ↦ bytes_ram v b n high ∙ sym (bytes_ram m b n high)
      | inl below ↦ elim (cases_lt b 0x08000000) [
        | inl none ↦ bytes_none v b n none ∙ sym (bytes_none m b n none)
        | inr there ↦
            bytes_flash v b n below there
            ∙ elim apart [
              | inl before ↦ part_below m.flash ys (a - 0x08000000) (b - 0x08000000) n (omega (arith, above, fits)) (omega (arith, above, there, before))
              | inr behind ↦ ap (take n) (drop_pasted m.flash (a - 0x08000000) ys (b - 0x08000000) (omega (arith, above, fits)) (omega (arith, above, there, behind)))
            ]
            ∙ sym (bytes_flash m b n below there)
      ]
    ]

entry_apart_flash : (m : Memory) (a : ℕ) (ys : List ℕ) (b : ℕ) → a < 0x20000000 → 0x08000000 ≤ a → a + length ys ≤ 0x08000000 + length m.flash → (b + 12 ≤ a) ⊎ (a + length ys ≤ b) → entry_at (with_bytes m a ys) b ≡ entry_at m b
entry_apart_flash m a ys b low above fits apart =
    let part : (k : ℕ) → k + 4 ≤ 12 → number_at (with_bytes m a ys) (b + k) 4 ≡ number_at m (b + k) 4 = λ k small.
    ap number_of (apart_flash m a ys (b + k) 4 low above fits (elim apart [ inl below ↦ inl (omega (arith, below, small)) | inr behind ↦ inr (omega (arith, behind)) ])) in
    let none : b + 0 ≡ b = omega arith in
    let first : number_at (with_bytes m a ys) b 4 ≡ number_at m b 4 = rw none at (part 0 (omega arith)) in
    let second = part 4 (omega arith) in
    let third = part 8 (omega arith) in
    rw (first, second, third) refl

pub fresh_byte : (m : Memory) (low span : ℕ) (entries : List (Option KeptEntry)) (a x : ℕ) → AreFresh m low span entries → ((i : ℕ) (y : KeptEntry) → kept_at entries i ≡ Some y → meets y a 1 ≡ false) → is_held m a ≡ true → AreFresh (with_bytes m a (x ∷ [])) low span entries
fresh_byte m low span entries a x h apart held = elim (held_cases m a held) [
  | inl ram ↦ fresh_stored m low span entries a 1 (x ∷ []) h apart (inr ram) (omega arith)
  | inr flash ↦ record {
    is = λ i y k. entry_apart_flash m a (x ∷ []) y.base flash.0 flash.1 flash.2 (meets_not y a 1 (apart i y k)) ∙ h.is i y k;
    watched = h.watched;
  }
]

pub ram_byte : (m : Memory) (a x : ℕ) → is_held m a ≡ true → length (with_bytes m a (x ∷ [])).ram ≡ length m.ram
ram_byte m a x held = elim (held_cases m a held) [
  | inl ram ↦ length-with_bytes m a (x ∷ []) (inr ram)
  | inr flash ↦ ap (λ (v : Memory). length v.ram) (with_bytes_flash m a (x ∷ []) flash.0)
]

pub holds_set_byte : (g : Setup) (k : Kept) (t : Turn) (a : ℕ) (bytes : List ℕ) (memory : Memory) → Shows g k t → memory ≡ with_bytes k.memory a bytes → length memory.ram ≡ k.setup.ram → Shows record g { flash = memory.flash } record k { setup = record k.setup { flash = memory.flash; ram = length memory.ram }; memory = memory } record t { state = record t.state { memory = with_bytes t.state.memory a bytes } }
unfolding task_at call_of listen_of
holds_set_byte g k t a bytes memory h e ram = record {
  setup = (λ i. record k.setup { flash = memory.flash; ram = ram i }) ∙ ap (λ (x : Setup). record x { flash = memory.flash }) h.setup;
  count = h.count;
  many = h.many;
  notes = h.notes;
  now = h.now;
  lines = h.lines;
  current = h.current;
  next_call = h.next_call;
  tasks = λ j below d. kept_same t.state _ j _ refl refl refl (h.tasks j below d);
  memory = e ∙ ap (λ m. with_bytes m a bytes) h.memory;
}

-- ## all bytes of the RAM

pub fresh_ram : (m : Memory) (low span : ℕ) (entries : List (Option KeptEntry)) (bytes : List ℕ) (n : ℕ) → AreFresh m low span entries → ((i : ℕ) (y : KeptEntry) → kept_at entries i ≡ Some y → meets y 0x20000000 n ≡ false) → n ≡ length bytes → length bytes ≡ length m.ram → AreFresh (record m { ram = bytes }) low span entries
fresh_ram m low span entries bytes n h apart e long =
    rw (← all_written m bytes long) (fresh_stored m low span entries 0x20000000 n bytes h apart (all_in_ram m (length bytes) long) (omega (arith, e)))

pub holds_set_ram : (g : Setup) (k : Kept) (t : Turn) (bytes : List ℕ) (memory : Memory) → Shows g k t → memory ≡ record k.memory { ram = bytes } → memory.flash ≡ k.setup.flash → length memory.ram ≡ k.setup.ram → Shows g record k { setup = record k.setup { flash = memory.flash; ram = length memory.ram }; memory = memory } record t { state = record t.state { memory = record t.state.memory { ram = bytes } } }
unfolding task_at call_of listen_of
holds_set_ram g k t bytes memory h e flash ram = record {
  setup = (λ i. record k.setup { flash = flash i; ram = ram i }) ∙ h.setup;
  count = h.count;
  many = h.many;
  notes = h.notes;
  now = h.now;
  lines = h.lines;
  current = h.current;
  next_call = h.next_call;
  tasks = λ j below d. kept_same t.state _ j _ refl refl refl (h.tasks j below d);
  memory = e ∙ ap (λ (m : Memory). record m { ram = bytes }) h.memory;
}
