use Rattle.std.proofs.Common.{◌≡◌, ◌<◌, ℕ, true, false, length, inl, inr, get_or, eqb, sym, ◌∙◌, ap, arith}
use Rattle.std.proofs.lemmas.Bool.{eq-eqb, ne_eqb}
use Rattle.std.proofs.lemmas.Bool.Decides.{eqb_tells}
use Rattle.std.proofs.lemmas.List.{get_or_default}
use Rattle.task_table.specs.kept.Order.{place_in}
use Rattle.task_table.specs.kept.Readiness.{is_free}
use Rattle.task_table.proofs.readiness.ready_tasks.Goals as goal

pub place-requires : goal.place-requires
place-requires c = omega (arith, c.requires.places.count, c.loop-task-test.true)

pub set-requires : goal.set-requires
set-requires c = omega (arith, c.place.ensures, c.requires.places.below c.loop-task.task c.loop-task-test.true, c.requires.few)

pub loop-task-init : goal.loop-task-init
loop-task-init c = record { before = λ i below. absurd (omega arith); others = λ p past. c.empty-ready.ensures p }

pub loop-task-preserved : goal.loop-task-preserved
loop-task-preserved c =
    let own = c.requires.places in
    let places = c.args.order.now.places.items in
    let task = c.loop-task.task in
    let there = c.loop-task-test.true in
    record {
      before = λ i below d. elim (eqb_tells i task) [
        | inl same ↦
            let here : eqb (place_in places i) c.place.result ≡ true = eq-eqb _ _ (ap (place_in places) same.1 ∙ sym c.place.ensures) in
            rw here at (c.set.ensures (place_in places i)) ∙ c.is_ready.ensures
            ∙ ap is_free (get_or_default c.args.slots.now task _ d there)
            ∙ ap (λ (k : ℕ). is_free (get_or c.args.slots.now k d)) (sym same.1)
        | inr other ↦
            let under : i < task = omega (arith, below, other.1) in
            let inside : i < length c.args.slots.now = omega (arith, under, there) in
            let away : eqb (place_in places i) c.place.result ≡ false = ne_eqb _ _ (λ e. other.1 (own.apart i task inside there (e ∙ c.place.ensures))) in
            rw away at (c.set.ensures (place_in places i)) ∙ c.loop-task.invariant.before i under d
      ];
      others = λ p past.
          let away : eqb p c.place.result ≡ false = ne_eqb _ _ (λ e. omega (arith, past, e, c.place.ensures, own.below task there)) in
          rw away at (c.set.ensures p) ∙ c.loop-task.invariant.others p past;
    }

pub returns : goal.returns
returns c = record {
  each = λ i below d. c.loop-task.invariant.before i (omega (arith, below, c.loop-task-test.false)) d;
  no_others = λ p past. c.loop-task.invariant.others p past;
}
