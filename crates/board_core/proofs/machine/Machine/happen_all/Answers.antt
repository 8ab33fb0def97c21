use Rattle.std.proofs.Common.{◌≡◌, ◌≤◌, ℕ, zero, suc, List, [], ◌∷◌, Option, None, length, take, refl, ap, subst, arith}
use Rattle.std.specs.Prelude.{fold, slice_get}
use Rattle.run_script.specs.declared.events.Event.{Event}
use Rattle.run_script.specs.Events.{script_data}
use Rattle.run_script.specs.Scripts.{events_of}
use Rattle.task_table.specs.model.State.{Turn}
use Rattle.board_core.specs.Machine.{MachineStands}
use Rattle.board_model.specs.Turn.{happened, happened_next}
use Rattle.board_model.proofs.Counts.{later-events}
use Rattle.board_model.proofs.Outside.{one_more, take_whole, take_few}
use Rattle.board_core.specs.Data.{boxed}
use Rattle.board_core.proofs.machine.Machine.happen_all.Goals as goal

pub happen_at-requires-clause-stands : goal.happen_at-requires-clause-stands
happen_at-requires-clause-stands boxes c =
    let g = c.requires.stands.0 in
    let t = c.requires.stands.1 in
    let events = take c.loop-k.k (events_of (script_data c.args.script.now) c.args.turn) in
    let later = later-events g events t in
    let few = take_few (events_of (script_data c.args.script.now) c.args.turn) c.loop-k.k in
    let small = c.requires.stands.3 in
    (g, fold (happened g) t events, c.loop-k.invariant.stands g t c.requires.stands.2, omega (arith, later.now, few, small, c.loop-k-test.true))

pub loop-k-preserved : goal.loop-k-preserved
loop-k-preserved boxes c =
    let shown = boxed (λ p. (goal.Device-dyn boxes p).shown p.1) in
    record {
      room = omega (arith, c.happen_at.ensures.count, c.loop-k.invariant.room);
      stands = λ g t st.
          let P : Turn → Type 0 = λ u. MachineStands shown g c.happen_at.new.self u in
          subst P (one_more g t (events_of (script_data c.args.script.now) c.args.turn) c.loop-k.k) (c.happen_at.ensures.stands g _ (c.loop-k.invariant.stands g t st));
    }

pub returns-clause-stands : goal.returns-clause-stands
returns-clause-stands boxes c =
    let shown = boxed (λ p. (goal.Device-dyn boxes p).shown p.1) in
    λ g t st.
    let events = events_of (script_data c.args.script.now) c.args.turn in
    let few : length events ≤ c.loop-k.k = omega (arith, (c.facts.ensures.turn c.args.turn).few, c.loop-k-test.false) in
    let P : List Event → Type 0 = λ es. MachineStands shown g c.loop-k.self (fold (happened g) t es) in
    subst P (take_whole events c.loop-k.k few) (c.loop-k.invariant.stands g t st)

-- a list without a k-th element ends before it
all_taken : {A : Type 0} (xs : List A) (k : ℕ) → slice_get xs k ≡ None → take k xs ≡ xs
all_taken [] zero none = refl
all_taken [] (suc k) none = refl
all_taken (x ∷ xs) zero none = cc
all_taken (x ∷ xs) (suc k) none = ap (λ ys. x ∷ ys) (all_taken xs k none)

pub returns-then-not-happen_at-clause-stands : goal.returns-then-not-happen_at-clause-stands
returns-then-not-happen_at-clause-stands boxes c =
    let shown = boxed (λ p. (goal.Device-dyn boxes p).shown p.1) in
    λ g t st.
    let events = events_of (script_data c.args.script.now) c.args.turn in
    let none : slice_get events c.loop-k.k ≡ None = c.happen_at.ensures.over c.if-not-happen_at.true in
    let N : Option Event → Type 0 = λ next. MachineStands shown g c.happen_at.new.self (happened_next g next (fold (happened g) t (take c.loop-k.k events))) in
    let P : List Event → Type 0 = λ es. MachineStands shown g c.happen_at.new.self (fold (happened g) t es) in
    subst P (all_taken events c.loop-k.k none) (subst N none (c.happen_at.ensures.stands g _ (c.loop-k.invariant.stands g t st)))
