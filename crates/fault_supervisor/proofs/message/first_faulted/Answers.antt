use Rattle.std.proofs.Common.{◌≡◌, ◌+◌, ◌-◌, ◌<◌, ℕ, Bool, true, false, length, sym, ◌∙◌, ap, arith}
use Rattle.std.specs.Prelude.{find, unwrap_or}
use Rattle.std.specs.List.{range_with_len}
use Rattle.task_table.specs.model.Reading.{task_at, is_faulted}
use Rattle.fault_supervisor.proofs.Searching.{found_next, none_next}
use Rattle.fault_supervisor.proofs.message.first_faulted.Goals as goal

pub loop-task-preserved : goal.loop-task-preserved
loop-task-preserved c = (
  omega (arith, c.loop-task.invariant.0),
  λ g t h.
      let p : ℕ → Bool = λ i. is_faulted (task_at t.state i).health in
      let i = c.args.index in
      let k = c.loop-task.task - i in
      let at : i + k ≡ c.loop-task.task = omega (arith, c.loop-task.invariant.0) in
      let next : c.loop-task.task + 1 - i ≡ k + 1 = omega (arith, c.loop-task.invariant.0) in
      let here : p (i + k) ≡ false = ap p at ∙ ap is_faulted (sym (c.health.ensures g t h)) ∙ sym c.is_faulted.ensures ∙ c.if-is_faulted.false in
      ap (λ n. find p (range_with_len i n)) next ∙ none_next p i k (c.loop-task.invariant.1 g t h) here,
)

pub returns-then-is_faulted-clause-value : goal.returns-then-is_faulted-clause-value
returns-then-is_faulted-clause-value c = λ g t h.
    let p : ℕ → Bool = λ i. is_faulted (task_at t.state i).health in
    let i = c.args.index in
    let k = c.loop-task.task - i in
    let n = length t.state.tasks - i in
    let at : i + k ≡ c.loop-task.task = omega (arith, c.loop-task.invariant.0) in
    let below : k < n = omega (arith, c.loop-task.invariant.0, c.loop-task-test.true, c.task_count-task-end.ensures.value, h.count) in
    let here : p (i + k) ≡ true = ap p at ∙ ap is_faulted (sym (c.health.ensures g t h)) ∙ sym c.is_faulted.ensures ∙ c.if-is_faulted.true in
    sym at ∙ sym (ap (λ o. unwrap_or o 0) (found_next p i k n (c.loop-task.invariant.1 g t h) here below))

pub returns-clause-value : goal.returns-clause-value
returns-clause-value c = λ g t h.
    let p : ℕ → Bool = λ i. is_faulted (task_at t.state i).health in
    let whole : c.loop-task.task - c.args.index ≡ length t.state.tasks - c.args.index = omega (arith, c.task_count-task-end.ensures.value, c.loop-task-test.false, c.loop-task.auto.task-end, h.count) in
    sym (ap (λ o. unwrap_or o 0) (ap (λ n. find p (range_with_len c.args.index n)) (sym whole) ∙ c.loop-task.invariant.1 g t h))
