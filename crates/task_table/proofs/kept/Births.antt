-- A task that is born again, and who waits for it.
use Rattle.std.proofs.Common.{◌≡◌, ◌<◌, ◌≤◌, ◌%◌, ℕ, false, length, Option, Some, None, refl, ◌∙◌, ap, arith, eqb, IfSome}
use Rattle.kernel_abi.specs.Ids.{id_of, index_of}
use Rattle.kernel_abi.specs.declared.Health.{Health}
use Rattle.task_table.specs.declared.slot.Slot.{Slot}
use Rattle.task_table.specs.declared.slot.Wait.{Wait}
use Rattle.task_table.specs.model.State.{Setup, TaskSetup, Call, Listen, State, Birth, From, Any, One, KernelOnly}
use Rattle.task_table.specs.model.Reading.{call_of, listen_of}
use Rattle.task_table.specs.model.Effects.{at_birth, is_to, awaits}
use Rattle.task_table.specs.model.Sane.{Sane}
use Rattle.task_table.specs.kept.Holds.{IsKept, packed_task, from_id_of, wait_of}
use Rattle.task_table.specs.kept.Waits.{is_one, is_to_in, awaits_in, AreFew}
use Rattle.task_table.proofs.model.Posting.{found_listen}
use Rattle.task_table.proofs.model.Clients.{found_call}

-- the slot of a task at birth depends on its number of births only modulo 64
pub born_as : (x y : TaskSetup) (m n : ℕ) (health : Health) (v w : Wait) → x ≡ y → m % 64 ≡ n % 64 → v ≡ w → packed_task (at_birth x m health) v ≡ packed_task (at_birth y n health) w
born_as x y m n health v w same births waits = rw (same, births, waits) refl

-- ## who waits for a task

index_of-id_of : (i b : ℕ) → i < 1024 → index_of (id_of i b) ≡ i
index_of-id_of i b h = omega arith

few_called : (s : State) (j : ℕ) → AreFew s → IfSome (call_of s j) (λ c. c.server.index < 1024)
few_called s j few = go (call_of s j) refl
  where
    go : (o : Option Call) → call_of s j ≡ o → IfSome o (λ c. c.server.index < 1024)
    go None e = tt
    go (Some c) e = few.called c (found_call s j c e)

few_heard : (s : State) (j : ℕ) → AreFew s → IfSome (listen_of s j) (λ l. (b : Birth) → l.from ≡ One b → b.index < 1024)
few_heard s j few = go (listen_of s j) refl
  where
    go : (o : Option Listen) → listen_of s j ≡ o → IfSome o (λ l. (b : Birth) → l.from ≡ One b → b.index < 1024)
    go None e = tt
    go (Some l) e = λ b named. few.heard l b (found_listen s j l e).0 named

to_wait : (co : Option Call) (lo : Option Listen) (i : ℕ) → IfSome co (λ c. c.server.index < 1024) → is_to_in (wait_of co lo) i ≡ is_to i co
to_wait None None i h = refl
to_wait None (Some l) i h = refl
to_wait (Some c) lo i h = ap (λ n. eqb n i) (index_of-id_of c.server.index c.server.birth h)

pub to_kept : (s : State) (i j : ℕ) (slot : Slot) → AreFew s → IsKept s j slot → is_to_in slot.wait i ≡ is_to i (call_of s j)
to_kept s i j slot few h = ap (λ (o : Slot). is_to_in o.wait i) h.is ∙ to_wait (call_of s j) (listen_of s j) i (few_called s j few)

one_kept : (from : From) (i : ℕ) → ((b : Birth) → from ≡ One b → b.index < 1024) → is_one (from_id_of from) i ≡ elim from [ Any ↦ false | One b ↦ eqb b.index i | KernelOnly ↦ false ]
one_kept Any i h = refl
one_kept (One b) i h = ap (λ n. eqb n i) (index_of-id_of b.index b.birth (h b refl))
one_kept KernelOnly i h = refl

awaits_wait : (co : Option Call) (lo : Option Listen) (i : ℕ) → IfSome co (λ c. lo ≡ None) → IfSome lo (λ l. (b : Birth) → l.from ≡ One b → b.index < 1024) → awaits_in (wait_of co lo) i ≡ awaits i lo
awaits_wait None None i alone h = refl
awaits_wait None (Some l) i alone h = one_kept l.from i h
awaits_wait (Some c) lo i alone h = rw alone refl

pub awaits_kept : (s : State) (i j : ℕ) (slot : Slot) → AreFew s → IsKept s j slot → awaits_in slot.wait i ≡ awaits i (listen_of s j)
awaits_kept s i j slot few h = ap (λ (o : Slot). awaits_in o.wait i) h.is ∙ awaits_wait (call_of s j) (listen_of s j) i h.alone (few_heard s j few)

-- the tasks that wait in a sane state are few if its tasks are
pub few_sane : (g : Setup) (s : State) → Sane g s → length s.tasks ≤ 1024 → AreFew s
few_sane g s h small = record {
  called = λ c inside. let below = (h.steady.calls.fit c inside).server in omega (arith, below, h.steady.as_many);
  heard = λ l b inside named. let below = ((h.steady.listens.fit l inside).names b named).0 in omega (arith, below, h.steady.as_many);
}
