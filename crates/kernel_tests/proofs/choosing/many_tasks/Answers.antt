use Rattle.std.proofs.Common.{◌≡◌, ◌+◌, ℕ, zero, suc, List, [], ◌∷◌, ◌++◌, length, map, All, ap, sym, ◌∙◌, arith}
use Rattle.std.specs.Prelude.{Contains}
use Rattle.std.proofs.lemmas.List.{length_push}
use Rattle.std.proofs.lemmas.List.Elements.{All-push}
use Rattle.task_table.specs.declared.start.TaskStart.{TaskStart}
use Rattle.task_table.specs.kept.Openable.{AreOpenable}
use Rattle.task_table.specs.kept.Parts.{task_setup}
use Rattle.task_table.specs.model.State.{TaskSetup}
use Rattle.kernel_tests.proofs.choosing.many_tasks.Goals as goal

nothing_in : {X P : Type 0} (xs : List X) (x : X) → xs ≡ [] → Contains xs x → P
nothing_in xs x e h = let below = rw e at h.1 in absurd (omega (arith, below))

-- tasks that have no regions
bare : (xs : List TaskStart) → All (λ (x : TaskStart). x.regions.items ≡ []) xs → (s : TaskSetup) → Contains (map task_setup xs) s → s.regions ≡ []
bare [] all s h = absurd (omega (arith, h.1))
bare (x ∷ xs) all s (zero, lt, same) = ap (λ (q : TaskSetup). q.regions) (sym same) ∙ all 0 x (omega arith)
bare (x ∷ xs) all s (suc k, lt, same) = bare xs (λ i d below. all (suc i) d (omega arith)) s (k, omega arith, same)

bare_lendable : (given : List (ℕ × ℕ)) (xs : List TaskStart) → All (λ (x : TaskStart). x.regions.items ≡ []) xs → AreOpenable given (map task_setup xs)
bare_lendable given xs all s r here within no_device = nothing_in s.regions r (bare xs all s here) within

pub start-requires-clause-given : goal.start-requires-clause-given
start-requires-clause-given c = bare_lendable _ c.deref.result.now (rw c.deref.ensures.value c.loop-i.invariant.1)

-- one more that has none
one_more : (xs ys : List TaskStart) (x : TaskStart) (i : ℕ) → ys ≡ xs ++ x ∷ [] → (length xs ≡ i) × All (λ (t : TaskStart). t.regions.items ≡ []) xs → x.regions.items ≡ [] → (length ys ≡ i + 1) × All (λ (t : TaskStart). t.regions.items ≡ []) ys
one_more xs ys x i is before none = rw is (length_push xs x ∙ ap (λ n. n + 1) before.0, All-push (λ (t : TaskStart). t.regions.items ≡ []) xs x before.1 none)

pub loop-i-preserved : goal.loop-i-preserved
loop-i-preserved c = one_more c.loop-i.tasks.items c.push.new.self.items c.a_task.result c.loop-i.i c.in_ok-push.ensures.items c.loop-i.invariant c.a_task.ensures
