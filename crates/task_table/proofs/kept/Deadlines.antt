-- The sets of tasks by the deadlines of their timers, once the slot of a task is written.
use Rattle.std.proofs.Common.{◌≡◌, ◌<◌, ◌≤◌, ◌%◌, ℕ, Bool, true, false, cond, List, length, map, set, Option, Some, None, inl, inr, sym, ◌∙◌, ap, arith, eqb, get_or, get_or-set_other, length-set, IfSome}
use Rattle.std.proofs.lemmas.Bool.{cases_lt, eq-eqb, false≢true, ne_eqb}
use Rattle.std.proofs.lemmas.Bool.Decides.{eqb_tells}
use Rattle.std.proofs.lemmas.Grind.{get_or-set_at}
use Rattle.kernel_abi.specs.declared.Timer.{Timer}
use Rattle.task_table.specs.kept.Limits.{wheel_sets}
use Rattle.task_table.specs.model.State.{Setup, Turn}
use Rattle.task_table.specs.model.Reading.{task_at}
use Rattle.task_table.specs.kept.TaskSets.{has}
use Rattle.task_table.specs.kept.Readiness.{is_at}
use Rattle.task_table.specs.kept.Holds.{Shows, Kept}
use Rattle.task_table.specs.kept.Deadlines.{wheel_set, is_timed_at, AreTimed, HasDue}
use Rattle.task_table.specs.declared.slot.Slot.{Slot}
use Rattle.task_table.specs.declared.task_set.TaskSet.{TaskSet}
use Rattle.task_table.proofs.kept.Members.{no_slot, none_at}

-- one slot is written, and the sets are brought up to date
pub timed_set : (slots : List Slot) (i : ℕ) (slot : Slot) (sets new : List TaskSet) → AreTimed slots sets → i < length slots → length new ≡ length sets
    → ((k p : ℕ) (e : TaskSet) → k < length sets → has (get_or new k e).words p ≡ cond (eqb p i) (is_timed_at k slot) (has (get_or sets k e).words p)) → AreTimed (set slots i slot) new
timed_set slots i slot sets new h there count follows = record {
  count = count ∙ h.count;
  each = λ k inside e j below d.
      let under : k < length sets = omega (arith, inside, count) in
      elim (eqb_tells j i) [
        | inl same ↦ rw same.0 at (follows k j e under) ∙ sym (ap (is_timed_at k) (get_or-set_at slots i j slot d same.1 there))
        | inr other ↦
            let here : j < length slots = omega (arith, below, length-set slots i slot) in
            rw other.0 at (follows k j e under) ∙ h.each k under e j here d ∙ sym (ap (is_timed_at k) (get_or-set_other slots i j slot d other.1))
      ];
  no_others = λ k inside e j past.
      let under : k < length sets = omega (arith, inside, count) in
      let out : length slots ≤ j = omega (arith, past, length-set slots i slot) in
      let away : eqb j i ≡ false = ne_eqb _ _ (λ same. omega (arith, out, same, there)) in
      rw away at (follows k j e under) ∙ h.no_others k under e j out;
}

-- or the slot is written with the timer that it had, and the sets do not change
pub timed_same : (slots : List Slot) (i : ℕ) (old slot : Slot) (sets : List TaskSet) → AreTimed slots sets → i < length slots → old ≡ get_or slots i old → slot.timer ≡ old.timer → AreTimed (set slots i slot) sets
timed_same slots i old slot sets h there is same = record {
  count = h.count;
  each = λ k inside e j below d. elim (eqb_tells j i) [
    | inl here ↦
        let its : is_timed_at k old ≡ is_timed_at k slot = ap (λ (o : Option Timer). is_at k (wheel_set o)) (sym same) in
        ap (has (get_or sets k e).words) here.1 ∙ h.each k inside e i there old ∙ sym (ap (is_timed_at k) is) ∙ its ∙ sym (ap (is_timed_at k) (get_or-set_at slots i j slot d here.1 there))
    | inr other ↦ h.each k inside e j (omega (arith, below, length-set slots i slot)) d ∙ sym (ap (is_timed_at k) (get_or-set_other slots i j slot d other.1))
  ];
  no_others = λ k inside e j past. h.no_others k inside e j (omega (arith, past, length-set slots i slot));
}

-- at first no timer is set, and each set is empty
pub none_timed : {X : Type 0} (f : X → Slot) (xs : List X) (slots : List Slot) (sets : List TaskSet) → slots ≡ map f xs → ((x : X) → (f x).timer ≡ None) → length sets ≡ wheel_sets
    → ((k i : ℕ) (e : TaskSet) → k < length sets → has (get_or sets k e).words i ≡ false) → AreTimed slots sets
none_timed f xs slots sets is off count none = record {
  count = count;
  each = λ k inside e i below d.
      let never : is_timed_at k (get_or (map f xs) i d) ≡ false = none_at f (is_timed_at k) (λ x. ap (λ (o : Option Timer). is_at k (wheel_set o)) (off x)) xs i d (rw is at below) in
      none k i e inside ∙ sym (ap (λ (ys : List Slot). is_timed_at k (get_or ys i d)) is ∙ never);
  no_others = λ k inside e i past. none k i e inside;
}

-- each member of a set is a task
pub timed_there : (slots : List Slot) (sets : List TaskSet) (k : ℕ) (e : TaskSet) (i : ℕ) → AreTimed slots sets → k < length sets → has (get_or sets k e).words i ≡ true → i < length slots
timed_there slots sets k e i h inside is = elim (cases_lt i (length slots)) [
  | inl lt ↦ lt
  | inr past ↦ absurd (false≢true (sym (h.no_others k inside e i past) ∙ is))
]

due_at : (o : Option Timer) (now k : ℕ) (member : Bool) → member ≡ is_at k (wheel_set o) → k ≡ now % wheel_sets → IfSome o (λ x. x.deadline ≡ now → member ≡ true)
due_at None now k member is same = tt
due_at (Some x) now k member is same = λ due. is ∙ eq-eqb _ _ (ap (λ (n : ℕ). n % wheel_sets) due ∙ sym same)

-- the set of the present time has the tasks whose timers are due now
pub due_kept : (g : Setup) (k : Kept) (t : Turn) (sets : List TaskSet) (e : TaskSet) → Shows g k t → AreTimed k.slots sets → HasDue t.state (get_or sets (k.clock % wheel_sets) e).words
due_kept g k t sets e h timed = λ i below.
    let here : i < length k.slots = omega (arith, below, h.count) in
    let under : k.clock % wheel_sets < length sets = omega (arith, timed.count) in
    let timer = ap (λ (o : Slot). is_at (k.clock % wheel_sets) (wheel_set o.timer)) (h.tasks i here no_slot).is in
    due_at (task_at t.state i).timer t.state.now (k.clock % wheel_sets) _ (timed.each (k.clock % wheel_sets) under e i here no_slot ∙ timer) (ap (λ (n : ℕ). n % wheel_sets) h.now)
