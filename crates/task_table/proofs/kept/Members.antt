-- The sets of tasks that the kernel keeps.
use Rattle.std.proofs.Common.{◌≡◌, ◌<◌, ◌≤◌, ℕ, zero, suc, Bool, true, false, cond, ◌&&◌, List, [], ◌∷◌, length, map, Option, Some, None, is_none, is_some, inl, inr, refl, sym, subst, ◌∙◌, ap, arith, eqb, get_or}
use Rattle.std.specs.Option.{option_map}
use Rattle.std.proofs.lemmas.Bool.{false≢true, cases_lt}
use Rattle.std.proofs.lemmas.List.{get_or_past}
use Rattle.kernel_abi.specs.Ids.{index_of}
use Rattle.kernel_abi.specs.declared.Health.TheVariants.{Stopped}
use Rattle.task_table.specs.model.State.{State, Task, Setup, Turn, Call, Phase, Offered, Taken}
use Rattle.task_table.specs.model.Sane.{Sane}
use Rattle.task_table.specs.model.Reading.{is_ready, is_well, is_offered, task_at, call_of, listen_of, offer_by, offers, no_task, no_flags}
use Rattle.task_table.specs.kept.TaskSets.{has}
use Rattle.task_table.specs.kept.Order.{AreOrdered, ArePlaces, has_task, place_in, priorities_of}
use Rattle.task_table.specs.kept.Readiness.{is_free, is_at, server_in, is_client_of, AreThose, AreOffers}
use Rattle.task_table.specs.kept.Holds.{Holds, Shows, Kept, kept_call, offered_in}
use Rattle.task_table.specs.declared.kernel.Kernel.{Kernel}
use Rattle.task_table.specs.declared.slot.Slot.{Slot}
use Rattle.task_table.specs.declared.slot.OpenCall.{OpenCall}
use Rattle.task_table.specs.declared.slot.Wait.{Wait}
use Rattle.task_table.specs.declared.slot.Wait.TheVariants as wait
use Rattle.task_table.specs.declared.task_set.TaskSet.{TaskSet}
use Rattle.task_table.proofs.kept.Steps.{free_kept}
use Rattle.task_table.proofs.kept.Messages.{offered_kept}
use Rattle.task_table.proofs.kept.Ordered.{as_many_priorities, own_places}

-- the slot of a task that does not exist
pub no_slot : Slot
no_slot = record {
  generation = record { number = 0 };
  registers = [];
  flags = no_flags;
  health = Stopped;
  posted = 0;
  timer = None;
  wait = wait.Nothing;
}

-- the order that a kernel keeps is that of its setup
pub kernel_ordered : (g : Setup) (k : Kernel) (t : Turn) → Holds g k t → AreOrdered (priorities_of g.tasks) k.order.keys.items k.order.places.items
kernel_ordered g k t h = subst (λ (x : Setup). AreOrdered (priorities_of x.tasks) k.order.keys.items k.order.places.items) h.setup k.order_is

-- each task of a kernel has a place of its own
pub kernel_places : (k : Kernel) → ArePlaces (length k.slots.items) k.order.places.items
kernel_places k = own_places _ k.order.keys.items k.order.places.items (length k.slots.items) k.order_is (as_many_priorities k.tasks.items ∙ k.many)

-- ## who is ready

pub those_there : (test : Slot → Bool) (slots : List Slot) (places words : List ℕ) (p : ℕ) → AreThose test slots places words → has words p ≡ true → p < length slots
those_there test slots places words p h is = elim (cases_lt p (length slots)) [
  | inl lt ↦ lt
  | inr past ↦ absurd (false≢true (sym (h.no_others p past) ∙ is))
]

-- a task that does not exist is not ready
pub unready_past : (s : State) (i : ℕ) → length s.tasks ≤ i → is_ready s i ≡ false
unfolding is_ready task_at
unready_past s i past = ap (λ (x : Task). is_well x.health && is_none (call_of s i) && is_none (listen_of s i)) (get_or_past s.tasks i no_task past)

pub ready_kept : (g : Setup) (k : Kept) (t : Turn) (places words : List ℕ) → Shows g k t → AreThose is_free k.slots places words → (i : ℕ) → i < length g.tasks → has_task places words i ≡ is_ready t.state i
ready_kept g k t places words h those i there =
    let inside : i < length k.slots = omega (arith, there, h.many, h.count) in
    those.each i inside no_slot ∙ free_kept t.state i _ (h.tasks i inside no_slot)

-- ## which task offers a call to which server

waits_for : (c : OpenCall) (k : ℕ) (p : Phase) → is_at k (cond (is_offered p) (Some (index_of c.server.number)) None) ≡ is_some (cond (eqb (index_of c.server.number) k && is_offered p) (Some c) None)
waits_for c k Offered = by_index (eqb (index_of c.server.number) k)
  where
    by_index : (b : Bool) → b ≡ is_some (cond (b && true) (Some c) None)
    by_index true = refl
    by_index false = refl
waits_for c k Taken = by_index (eqb (index_of c.server.number) k)
  where
    by_index : (b : Bool) → false ≡ is_some (cond (b && false) (Some c) None)
    by_index true = refl
    by_index false = refl

client_offered : (w : Wait) (k : ℕ) → is_at k (server_in w) ≡ is_some (offered_in w k)
client_offered (wait.Call c) k = waits_for c k c.phase
client_offered (wait.Listen l) k = refl
client_offered wait.Nothing k = refl

some_kept : (o : Option Call) → is_some (option_map kept_call o) ≡ is_some o
some_kept None = refl
some_kept (Some k) = refl

pub offers_kept : (g : Setup) (k : Kept) (t : Turn) (server : ℕ) (places words : List ℕ) → Shows g k t → Sane g t.state → length k.slots ≤ 1024 → AreThose (is_client_of server) k.slots places words
    → (i : ℕ) → i < length g.tasks → has_task places words i ≡ offers t.state server i
offers_kept g k t server places words h sane small those i there =
    let inside : i < length k.slots = omega (arith, there, h.many, h.count) in
    let few : length t.state.tasks ≤ 1024 = omega (arith, small, h.count) in
    let slot = get_or k.slots i no_slot in
    those.each i inside no_slot
    ∙ client_offered slot.wait server
    ∙ ap is_some (offered_kept g t.state i server slot sane few (h.tasks i inside no_slot))
    ∙ some_kept (offer_by t.state i server)

-- ## at first

-- no task passes a test that each task fails
pub none_at : {X : Type 0} (f : X → Slot) (test : Slot → Bool) → ((x : X) → test (f x) ≡ false) → (xs : List X) (i : ℕ) (d : Slot) → i < length (map f xs) → test (get_or (map f xs) i d) ≡ false
none_at f test fails [] i d below = absurd (omega arith)
none_at f test fails (x ∷ xs) zero d below = fails x
none_at f test fails (x ∷ xs) (suc i) d below = none_at f test fails xs i d (omega (arith, below))

-- if each task waits for nothing, no task offers a call
pub no_offers : {X : Type 0} (f : X → Slot) (xs : List X) (slots : List Slot) (places : List ℕ) (sets : List TaskSet) → slots ≡ map f xs → ((x : X) → (f x).wait ≡ wait.Nothing) → length sets ≡ length slots → ((k i : ℕ) (d : TaskSet) → k < length sets → has (get_or sets k d).words i ≡ false) → AreOffers slots places sets
no_offers f xs slots places sets e idle count none = record {
  count = count;
  each = λ k inside d. record {
    each = λ i below x. none k (place_in places i) d inside ∙ sym (ap (λ (ys : List Slot). is_client_of k (get_or ys i x)) e ∙ none_at f (is_client_of k) (λ y. ap (λ (w : Wait). is_at k (server_in w)) (idle y)) xs i x (rw e at below));
    no_others = λ p past. none k p d inside;
  };
}
