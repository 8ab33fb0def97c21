use Rattle.std.proofs.Common.{◌≡◌, ◌∙◌, ◌<◌, ◌+◌, ℕ, zero, suc, false, List, [], ◌∷◌, ◌++◌, length, length-append, get_or, arith, ap}
use Rattle.task_table.specs.kept.TaskSets.{has}
use Rattle.task_table.specs.declared.task_set.TaskSet.{TaskSet}
use Rattle.task_table.proofs.readiness.empty_sets.Goals as goal

-- one more that is empty
one_more : (xs : List TaskSet) (x : TaskSet) → ((i : ℕ) → has x.words i ≡ false) → ((k i : ℕ) (d : TaskSet) → k < length xs → has (get_or xs k d).words i ≡ false) → (k i : ℕ) (d : TaskSet) → k < length (xs ++ x ∷ []) → has (get_or (xs ++ x ∷ []) k d).words i ≡ false
one_more [] x none all zero i d below = none i
one_more [] x none all (suc k) i d below = absurd (omega (arith, below))
one_more (y ∷ ys) x none all zero i d below = all zero i d (omega arith)
one_more (y ∷ ys) x none all (suc k) i d below = one_more ys x none (λ j n e inside. all (suc j) n e (omega (arith, inside))) k i d (omega (arith, below))

pub loop-init : goal.loop-init
loop-init c = record { count = ap length c.new-sets.ensures.items; empty = λ k i d below. absurd (omega (arith, below, ap length c.new-sets.ensures.items)) }

pub loop-preserved : goal.loop-preserved
loop-preserved c =
    let more : c.push.new.self.items ≡ c.loop.sets.items ++ c.empty.result ∷ [] = c.in_ok-push.ensures.items in
    record {
      count = ap length more ∙ length-append c.loop.sets.items (c.empty.result ∷ []) ∙ ap (λ (n : ℕ). n + 1) c.loop.invariant.count;
      empty = rw more (one_more c.loop.sets.items c.empty.result c.empty.ensures c.loop.invariant.empty);
    }

pub returns-clause-count : goal.returns-clause-count
returns-clause-count c = omega (arith, c.loop.invariant.count, c.loop-test.false, c.loop.auto.counter-end)

pub returns-clause-empty : goal.returns-clause-empty
returns-clause-empty c = c.loop.invariant.empty
