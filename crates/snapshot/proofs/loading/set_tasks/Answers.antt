use Rattle.std.proofs.Common.{◌≡◌, ◌∙◌, ℕ, refl, subst, add-one, arith}
use Rattle.board_core.specs.Data.{boxed}
use Rattle.board_core.specs.Stands.{Holds}
use Rattle.snapshot.specs.Records.{header_at, task_in}
use Rattle.snapshot.specs.Loaded.{with_tasks}
use Rattle.snapshot.proofs.TaskViews.{id_small, is_told}
use Rattle.snapshot.proofs.loading.set_tasks.Goals as goal

pub loop-i-init : goal.loop-i-init
unfolding with_tasks
loop-i-init g c = record { holds = λ x s h. h; count = refl }

pub view_of-requires-clause-generation : goal.view_of-requires-clause-generation
view_of-requires-clause-generation g c = rw c.task_record.ensures (c.requires.good c.loop-i.i c.loop-i-test.true).generation

pub view_of-requires-clause-id : goal.view_of-requires-clause-id
view_of-requires-clause-id g c = rw c.task_record.ensures (id_small (task_in c.args.bytes.now c.loop-i.i) (c.requires.good c.loop-i.i c.loop-i-test.true).words)

pub set_task-requires-clause-told : goal.set_task-requires-clause-told
set_task-requires-clause-told g c = rw (c.view_of.ensures, c.task_record.ensures) (is_told (header_at c.args.bytes.now).clock c.loop-i.i (task_in c.args.bytes.now c.loop-i.i) (omega arith) (c.requires.good c.loop-i.i c.loop-i-test.true))

pub loop-i-preserved : goal.loop-i-preserved
unfolding with_tasks
loop-i-preserved g c = record {
  holds = λ x s h. rw (add-one) (rw (c.view_of.ensures, c.task_record.ensures) at (c.set_task.ensures.holds x _ (c.loop-i.invariant.holds x s h)));
  count = c.set_task.ensures.count ∙ c.loop-i.invariant.count;
}

pub returns-clause-holds : goal.returns-clause-holds
returns-clause-holds g c =
    let shown = boxed (λ p. (goal.Device-dyn g p).shown p.1) in
    let last : c.loop-i.i ≡ c.args.tasks = omega arith in
    λ x s h.
    let P : ℕ → Type 0 = λ n. Holds shown x c.loop-i.board (with_tasks c.args.bytes.now n s) in
    subst P last (c.loop-i.invariant.holds x s h)

pub returns-clause-count : goal.returns-clause-count
returns-clause-count g c = c.loop-i.invariant.count
