-- The tasks that a tick does not have to look at.
use Rattle.std.proofs.Common.{◌≡◌, ◌+◌, ◌<◌, ◌≤◌, ℕ, zero, suc, Bool, true, false, cond, List, length, inl, inr, Option, Some, None, refl, sym, subst, ◌∙◌, ap, arith, leb, IfSome}
use Rattle.std.specs.Prelude.{fold}
use Rattle.std.specs.List.{range_with_len}
use Rattle.std.proofs.lemmas.Bool.{false≢true, lt-leb}
use Rattle.std.proofs.lemmas.Bool.Decides.{eqb_tells}
use Rattle.kernel_abi.specs.declared.Timer.{Timer}
use Rattle.task_table.specs.model.State.{State, Turn}
use Rattle.task_table.specs.model.Reading.{task_at, IsSameBut}
use Rattle.task_table.specs.kept.TaskSets.{has}
use Rattle.task_table.specs.kept.Deadlines.{HasDue}
use Rattle.task_table.specs.model.Sane.{AreAhead, Every}
use Rattle.task_table.specs.model.Effects.{clocked, noted, posted, with_timer}
use Rattle.task_table.specs.model.Events.{expired, expired_by}
use Rattle.task_table.proofs.model.Changes.{same_but-with_task, same_but_here, same_but_then}
use Rattle.task_table.proofs.model.Frames.{same_but-posted}
use Rattle.timer_irq.specs.Midway.{AreNotPast}
use Rattle.timer_irq.proofs.Lines.{fold_range_more}

pub length-clocked : (t : Turn) → length (clocked t).state.tasks ≡ length t.state.tasks
unfolding clocked noted
length-clocked t = refl

-- ## a timer that is ahead has not passed after the time advances by one

not_past : (o : Option Timer) (now : ℕ) → IfSome o (λ x. now < x.deadline) → IfSome o (λ x. now + 1 ≤ x.deadline)
not_past None now ahead = tt
not_past (Some x) now ahead = omega (arith, ahead)

pub not_past-clocked : (t : Turn) → AreAhead Every t.state → AreNotPast (clocked t).state
unfolding clocked noted task_at
not_past-clocked t ahead = λ i below. not_past (task_at t.state i).timer t.state.now (ahead i below tt)

-- ## the timer of a task changes no other task

same_but-with_timer : (i : ℕ) (o : Option Timer) (t : Turn) → IsSameBut i t.state (with_timer i o t).state
unfolding with_timer
same_but-with_timer i o t = same_but-with_task t.state i _

same_but-expired : (t : Turn) (i : ℕ) → IsSameBut i t.state (expired t i).state
same_but-expired t i = by_timer (task_at t.state i).timer
  where
    by_timer : (o : Option Timer) → IsSameBut i t.state (expired_by i o t).state
    by_timer None = same_but_here i t.state
    by_timer (Some x) = by_due (leb x.deadline t.state.now)
      where
        by_due : (b : Bool) → IsSameBut i t.state (cond b (posted i x.bits (with_timer i None t)) t).state
        by_due true = let u = with_timer i None t in same_but_then i t.state u.state (posted i x.bits u).state (same_but-with_timer i None t) (same_but-posted i x.bits u)
        by_due false = same_but_here i t.state

-- the first m tasks are done: the time and the tasks from m on are as before
record IsAfter (m : ℕ) (s u : State) : Type 0 where
  now : u.now ≡ s.now
  task : (i : ℕ) → m ≤ i → task_at u i ≡ task_at s i

after : (t : Turn) (m : ℕ) → IsAfter m t.state (fold expired t (range_with_len 0 m)).state
after t zero = record { now = refl; task = λ i from. refl }
after t (suc m) =
    let more : suc m ≡ m + 1 = omega arith in
    let before = after t m in
    let u = fold expired t (range_with_len 0 m) in
    let here = same_but-expired u m in
    let next : IsAfter (suc m) t.state (expired u m).state = record { now = here.now ∙ before.now; task = λ i from. here.task i (λ same. omega (arith, same, from)) ∙ before.task i (omega (arith, from)) } in
    let is : fold expired t (range_with_len 0 (suc m)) ≡ expired u m = ap (λ (k : ℕ). fold expired t (range_with_len 0 k)) more ∙ fold_range_more expired t m in
    subst (λ (v : Turn). IsAfter (suc m) t.state v.state) (sym is) next

-- ## a task whose timer is not due is skipped

not_due : (i : ℕ) (o : Option Timer) (u : Turn) → IfSome o (λ x. u.state.now < x.deadline) → expired_by i o u ≡ u
not_due i None u later = refl
not_due i (Some x) u later = let e : leb x.deadline u.state.now ≡ false = lt-leb _ _ later in rw e refl

later : (o : Option Timer) (now : ℕ) (member : Bool) → member ≡ false → IfSome o (λ x. now ≤ x.deadline) → IfSome o (λ x. x.deadline ≡ now → member ≡ true) → IfSome o (λ x. now < x.deadline)
later None now member out reached due = tt
later (Some x) now member out reached due = elim (eqb_tells x.deadline now) [
  | inl same ↦ absurd (false≢true (sym out ∙ due same.1))
  | inr other ↦ omega (arith, reached, other.1)
]

passed_over : (t : Turn) (words : List ℕ) (m : ℕ) → AreNotPast t.state → HasDue t.state words → m < length t.state.tasks → has words m ≡ false → expired (fold expired t (range_with_len 0 m)) m ≡ fold expired t (range_with_len 0 m)
passed_over t words m reached due inside out =
    let u = fold expired t (range_with_len 0 m) in
    let seen = after t m in
    let ahead : IfSome (task_at t.state m).timer (λ x. t.state.now < x.deadline) = later (task_at t.state m).timer t.state.now (has words m) out (reached m inside) (due m inside) in
    let same : task_at u.state m ≡ task_at t.state m = seen.task m (omega arith) in
    not_due m (task_at u.state m).timer u (rw (same, seen.now) ahead)

-- so are n tasks from m on, if none of them is in the set
pub skipped : (t : Turn) (words : List ℕ) (m n : ℕ) → AreNotPast t.state → HasDue t.state words → m + n ≤ length t.state.tasks → ((i : ℕ) → m ≤ i → i < m + n → has words i ≡ false) → fold expired t (range_with_len 0 (m + n)) ≡ fold expired t (range_with_len 0 m)
skipped t words m zero reached due inside none = let e : m + 0 ≡ m = omega arith in ap (λ (k : ℕ). fold expired t (range_with_len 0 k)) e
skipped t words m (suc n) reached due inside none =
    let e : m + suc n ≡ m + n + 1 = omega arith in
    let before = skipped t words m n reached due (omega (arith, inside)) (λ i from below. none i from (omega (arith, below))) in
    ap (λ (k : ℕ). fold expired t (range_with_len 0 k)) e
    ∙ fold_range_more expired t (m + n)
    ∙ passed_over t words (m + n) reached due (omega (arith, inside)) (none (m + n) (omega arith) (omega arith))
    ∙ before
