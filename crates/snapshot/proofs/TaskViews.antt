-- The view of a task that is made from its record: a board may be set to it, and for a saved state it is what
-- the board kept of the task.
use Rattle.std.proofs.Common.{◌≡◌, ◌∙◌, ◌+◌, ◌*◌, ◌/◌, ◌%◌, ◌<◌, ◌≤◌, ℕ, Bool, true, false, ◌||◌, cond, eqb, leb, length, Option, Some, None, arith, ap, sym, refl}
use Rattle.std.specs.Option.{option_map}
use Rattle.std.proofs.lemmas.Bool.{and_parts, eqb-true, leb-true, lt-leb, ne_eqb}
use Rattle.kernel_abi.specs.Ids.{id_of}
use Rattle.kernel_abi.specs.declared.Health.{Health}
use Rattle.kernel_abi.specs.declared.Health.TheVariants.{Well, Stopped, Faulted}
use Rattle.kernel_abi.specs.declared.TaskId.{TaskId}
use Rattle.kernel_abi.specs.declared.Timer.{Timer}
use Rattle.task_table.specs.model.State.{Setup, Task, Call, Listen, From, Any, One, KernelOnly, State}
use Rattle.task_table.specs.declared.slot.FromId.TheVariants as from_id
use Rattle.task_table.specs.declared.slot.Listening.{Listening}
use Rattle.task_table.specs.declared.slot.OpenCall.{OpenCall}
use Rattle.task_table.specs.declared.slot.Phase.{Phase}
use Rattle.task_table.specs.declared.slot.Phase.TheVariants.{Offered, Taken}
use Rattle.task_table.specs.declared.slot.Slice.{Slice}
use Rattle.task_table.specs.declared.slot.Wait.TheVariants as wait
use Rattle.task_table.specs.model.Reading.{task_at, call_of, listen_of, is_offered}
use Rattle.task_table.specs.kept.Holds.{kept_call, from_id_of, wait_of, packed, packed_task}
use Rattle.task_table.specs.model.Sane.{Sane}
use Rattle.task_table.specs.kept.Setting.{IsTold}
use Rattle.board_model.specs.Alike.{reduced}
use Rattle.board_core.specs.Setting.{timer_told, slot_told}
use Rattle.snapshot.specs.declared.records.TaskRecord.{TaskRecord}
use Rattle.snapshot.specs.Causes.{word, has_words}
use Rattle.snapshot.specs.Waits.{is_call, is_listen}
use Rattle.snapshot.specs.Accepted.{IsGoodRecord}
use Rattle.snapshot.specs.Saved.{health_number, fault_of, flags_number, timer_flag, timer_of, from_number, from_id as sender_id, record_told, record_of}
use Rattle.snapshot.specs.Restored.{health_from, flags_from, phase_from}
use Rattle.snapshot.specs.Views.{timer_view, call_view, from_view, listen_view, wait_by, wait_view, view_of}
use Rattle.snapshot.proofs.Saves.{the_call, births_small}

-- ## what a record may tell

-- the id of the one that is listened to has 16 bits
pub id_small : (r : TaskRecord) → has_words r ≡ true → 3 ≤ r.wait → word r 1 < 65536
id_small r ok from =
    let not_none = ne_eqb r.wait 0 (λ e. omega (arith, e, from)) in
    let no_call = lt-leb r.wait 2 (omega (arith, from)) in
    let rest = and_parts _ _ (rw (not_none, no_call) at ok) in
    by (eqb r.wait 5) (word r 1) rest.1
  where
    by : (b : Bool) (n : ℕ) → cond b (leb n 65535) (eqb n 0) ≡ true → n < 65536
    by true n e = let few = leb-true n 65535 e in omega (arith, few)
    by false n e = let none = eqb-true n 0 e in omega (arith, none)

called : (calls listens : Bool) (a : OpenCall) (l : Listening) (c : OpenCall) → wait_by calls listens a l ≡ wait.Call c → a ≡ c
called true listens a l c e = cc
called false true a l c e = cc
called false false a l c e = cc

heard : (calls listens : Bool) (a : OpenCall) (l m : Listening) → wait_by calls listens a l ≡ wait.Listen m → (listens ≡ true) × (l ≡ m)
heard true listens a l m e = cc
heard false true a l m e = (refl, cc)
heard false false a l m e = cc

named : (any none : Bool) (n : ℕ) (id : TaskId) → cond any from_id.Any (cond none from_id.Kernel (from_id.One record { number = n })) ≡ from_id.One id → n ≡ id.number
named true none n id e = cc
named false true n id e = cc
named false false n id e =
    let one : TaskId = record { number = n } in
    let is : one ≡ id = cc in
    ap (λ (x : TaskId). x.number) is

pub is_told : (clock i : ℕ) (r : TaskRecord) → i < 1024 → IsGoodRecord clock r → IsTold i (slot_told (view_of r i))
is_told clock i r few good = record {
  generation = let low = good.generation in omega (arith, low);
  client = λ c e. ap (λ (x : OpenCall). x.client.number) (sym (called (is_call r) (is_listen r) (call_view r i) (listen_view r) c e));
  server = λ c e.
      let is = ap (λ (x : OpenCall). x.server.number) (called (is_call r) (is_listen r) (call_view r i) (listen_view r) c e) in
      omega (arith, is);
  named = λ l id e f.
      let h = heard (is_call r) (is_listen r) (call_view r i) (listen_view r) l e in
      let is = named (eqb r.wait 3) (eqb r.wait 4) (word r 1) id (ap (λ (x : Listening). x.from) h.1 ∙ f) in
      let small = id_small r good.words (leb-true 3 r.wait h.0) in
      omega (arith, is, small);
}

-- ## what it tells of a state

health_again : (h : Health) → health_from (health_number h) record { number = (fault_of h).number; x = (fault_of h).x; y = (fault_of h).y } ≡ h
health_again Well = refl
health_again Stopped = refl
health_again (Faulted f) = refl

bit_again : (n z c v : Bool) → flags_from (flags_number record { n = n; z = z; c = c; v = v }) ≡ record { n = n; z = z; c = c; v = v }
bit_again true true true true = refl
bit_again true true true false = refl
bit_again true true false true = refl
bit_again true true false false = refl
bit_again true false true true = refl
bit_again true false true false = refl
bit_again true false false true = refl
bit_again true false false false = refl
bit_again false true true true = refl
bit_again false true true false = refl
bit_again false true false true = refl
bit_again false true false false = refl
bit_again false false true true = refl
bit_again false false true false = refl
bit_again false false false true = refl
bit_again false false false false = refl

timer_again : (o : Option Timer) → option_map timer_told (timer_view (timer_flag o) (timer_of o).deadline (timer_of o).bits) ≡ o
timer_again None = refl
timer_again (Some x) = refl

phase_again : (p : Phase) → phase_from (cond (is_offered p) 1 2) ≡ p
phase_again Offered = refl
phase_again Taken = refl

-- the client of a call is the task, and its server has an index of ten bits
record IsOf (i births : ℕ) (c : Call) : Type 0 where
  index : c.client.index ≡ i
  birth : births ≡ c.client.birth
  few : c.server.index < 1024

call_again : (t : Task) (c : Call) (lo : Option Listen) (i : ℕ) → t.births < 64 → IsOf i t.births c → call_view (record_told t (Some c) lo) i ≡ kept_call c
call_again t c lo i small h =
    let id = id_of c.server.index c.server.birth in
    let low : id < 65536 = let few = h.few in omega (arith, few) in
    let client : i + 1024 * t.births ≡ id_of c.client.index c.client.birth = let index = h.index in let birth = h.birth in omega (arith, index, birth, small) in
    let server : (id + 65536 * c.operation) % 65536 ≡ id = omega (arith, low) in
    let operation : (id + 65536 * c.operation) / 65536 ≡ c.operation = omega (arith, low) in
    λ j. record {
      number = c.number;
      client = record { number = client j };
      server = record { number = server j };
      operation = operation j;
      message = c.message;
      reply = c.reply;
      table = c.table;
      leases = c.leases;
      phase = phase_again c.phase j;
    }

called_by : (p : Phase) (a : OpenCall) (l : Listening) → wait_by (eqb (cond (is_offered p) 1 2) 1 || eqb (cond (is_offered p) 1 2) 2) (leb 3 (cond (is_offered p) 1 2)) a l ≡ wait.Call a
called_by Offered a l = refl
called_by Taken a l = refl

heard_by : (f : From) (a : OpenCall) (mask : ℕ) (buffer : Slice) → wait_by (eqb (from_number f) 1 || eqb (from_number f) 2) (leb 3 (from_number f)) a record { from = from_view (from_number f) (sender_id f); mask = mask; buffer = buffer } ≡ wait.Listen record { from = from_id_of f; mask = mask; buffer = buffer }
heard_by Any a mask buffer = refl
heard_by (One b) a mask buffer = refl
heard_by KernelOnly a mask buffer = refl

wait_again : (t : Task) (co : Option Call) (lo : Option Listen) (i : ℕ) → t.births < 64 → ((c : Call) → co ≡ Some c → IsOf i t.births c) → wait_view (record_told t co lo) i ≡ wait_of co lo
wait_again t (Some c) lo i small h = called_by c.phase _ _ ∙ ap wait.Call (call_again t c lo i small (h c refl))
wait_again t None (Some l) i small h = heard_by l.from _ l.mask l.buffer
wait_again t None None i small h = refl

view_again : (t : Task) (co : Option Call) (lo : Option Listen) (i : ℕ) → t.births < 64 → ((c : Call) → co ≡ Some c → IsOf i t.births c) → slot_told (view_of (record_told t co lo) i) ≡ packed_task t (wait_of co lo)
view_again t co lo i small h =
    let generation : t.births ≡ t.births % 64 = omega (arith, small) in
    λ j. record {
      generation = record { number = generation j };
      registers = t.registers;
      flags = bit_again t.flags.n t.flags.z t.flags.c t.flags.v j;
      health = health_again t.health j;
      posted = t.posted;
      timer = timer_again t.timer j;
      wait = wait_again t co lo i small h j;
    }

-- of a sane state with births below 64 it is what is kept of the task
pub viewed_again : (g : Setup) (s : State) (i : ℕ) → Sane g s → length g.tasks ≤ 1024 → reduced s ≡ s → slot_told (view_of (record_of s i) i) ≡ packed s i
viewed_again g s i sane few small =
    view_again (task_at s i) (call_of s i) (listen_of s i) i (births_small s i small) (λ c e.
    let here = the_call s i c e in
    let fit = sane.steady.calls.fit c here.0 in
    record {
      index = here.1;
      birth = ap (λ k. (task_at s k).births) (sym here.1) ∙ sane.present.client c here.0;
      few = let server = fit.server in omega (arith, server, few);
    })
