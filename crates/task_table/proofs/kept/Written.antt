-- The sets of tasks that the kernel keeps, once the slot of a task is written.
use Rattle.std.proofs.Common.{◌≡◌, ◌<◌, ◌≤◌, ℕ, Bool, true, false, cond, List, ◌++◌, length, take, drop, set, inl, inr, sym, ◌∙◌, ap, arith, eqb, get_or, get_or-set_other, length-set}
use Rattle.std.proofs.lemmas.Bool.{eq-eqb, ne_eqb}
use Rattle.std.proofs.lemmas.Bool.Decides.{eqb_tells}
use Rattle.std.proofs.lemmas.List.{take-append-le, take_all}
use Rattle.std.proofs.lemmas.Grind.{get_or-set_at}
use Rattle.task_table.specs.kept.TaskSets.{has}
use Rattle.task_table.specs.kept.Order.{ArePlaces, has_task, place_in}
use Rattle.task_table.specs.kept.Readiness.{is_client_of, AreThose, AreOffers}
use Rattle.task_table.specs.declared.slot.Slot.{Slot}
use Rattle.task_table.specs.declared.task_set.TaskSet.{TaskSet}

-- a list that is written back without a change
pub front : {X : Type 0} (n : ℕ) (xs ys : List X) → length xs ≡ n → take n (xs ++ drop (length xs) ys) ≡ xs
front n xs ys count = let inside : n ≤ length xs = omega (arith, count) in let whole : length xs ≤ n = omega (arith, count) in take-append-le n xs (drop (length xs) ys) inside ∙ take_all n xs whole

-- the set is brought up to date with the slot of the task
pub those_set : (test : Slot → Bool) (slots : List Slot) (places : List ℕ) (i : ℕ) (slot : Slot) (words new : List ℕ) → AreThose test slots places words → ArePlaces (length slots) places → i < length slots
    → ((p : ℕ) → has new p ≡ cond (eqb p (place_in places i)) (test slot) (has words p)) → AreThose test (set slots i slot) places new
those_set test slots places i slot words new h own there follows = record {
  each = λ j below d.
      let many = length-set slots i slot in
      elim (eqb_tells j i) [
        | inl same ↦
            let here : eqb (place_in places j) (place_in places i) ≡ true = eq-eqb _ _ (ap (place_in places) same.1) in
            rw here at (follows (place_in places j)) ∙ sym (ap test (get_or-set_at slots i j slot d same.1 there))
        | inr other ↦
            let inside : j < length slots = omega (arith, below, many) in
            let away : eqb (place_in places j) (place_in places i) ≡ false = ne_eqb _ _ (λ e. other.1 (own.apart j i inside there e)) in
            rw away at (follows (place_in places j)) ∙ h.each j inside d ∙ sym (ap test (get_or-set_other slots i j slot d other.1))
      ];
  no_others = λ p past.
      let out : length slots ≤ p = omega (arith, past, length-set slots i slot) in
      let away : eqb p (place_in places i) ≡ false = ne_eqb _ _ (λ e. omega (arith, out, e, own.below i there)) in
      rw away at (follows p) ∙ h.no_others p out;
}

-- or the set does not change, if the test gives the same for both slots
pub those_same : (test : Slot → Bool) (slots : List Slot) (places : List ℕ) (i : ℕ) (old slot : Slot) (words : List ℕ) → AreThose test slots places words → i < length slots → old ≡ get_or slots i old → test slot ≡ test old
    → AreThose test (set slots i slot) places words
those_same test slots places i old slot words h there is same = record {
  each = λ j below d. elim (eqb_tells j i) [
    | inl here ↦ ap (has_task places words) here.1 ∙ h.each i there old ∙ sym (ap test is) ∙ sym same ∙ sym (ap test (get_or-set_at slots i j slot d here.1 there))
    | inr other ↦ h.each j (omega (arith, below, length-set slots i slot)) d ∙ sym (ap test (get_or-set_other slots i j slot d other.1))
  ];
  no_others = λ p past. h.no_others p (omega (arith, past, length-set slots i slot));
}

pub offers_same : (slots : List Slot) (places : List ℕ) (i : ℕ) (old slot : Slot) (sets : List TaskSet) → AreOffers slots places sets → i < length slots → old ≡ get_or slots i old → ((k : ℕ) → is_client_of k slot ≡ is_client_of k old)
    → AreOffers (set slots i slot) places sets
offers_same slots places i old slot sets h there is same = record {
  count = h.count ∙ sym (length-set slots i slot);
  each = λ k inside d. those_same (is_client_of k) slots places i old slot (get_or sets k d).words (h.each k inside d) there is (same k);
}

pub offers_set : (slots : List Slot) (places : List ℕ) (i : ℕ) (slot : Slot) (sets new : List TaskSet) → AreOffers slots places sets → ArePlaces (length slots) places → i < length slots → length new ≡ length sets
    → ((k p : ℕ) (d : TaskSet) → k < length sets → has (get_or new k d).words p ≡ cond (eqb p (place_in places i)) (is_client_of k slot) (has (get_or sets k d).words p)) → AreOffers (set slots i slot) places new
offers_set slots places i slot sets new h own there count follows = record {
  count = count ∙ h.count ∙ sym (length-set slots i slot);
  each = λ k inside d.
      let under : k < length sets = omega (arith, inside, count) in
      those_set (is_client_of k) slots places i slot (get_or sets k d).words (get_or new k d).words (h.each k under d) own there (λ p. follows k p d under);
}
