use Rattle.std.proofs.Common.{◌≡◌, ◌+◌, ◌%◌, ◌<◌, ap, sym, ◌∙◌, arith, length, [], None, false, cond}
use Rattle.std.proofs.lemmas.List.{get_or-map}
use Rattle.kernel_abi.specs.declared.Health.{Health}
use Rattle.kernel_abi.specs.declared.Health.TheVariants.{Well, Stopped}
use Rattle.task_table.specs.model.State.{Task, TaskSetup}
use Rattle.task_table.specs.model.Reading.{task_at, setup_at}
use Rattle.task_table.specs.kept.Parts.{task_setup}
use Rattle.task_table.specs.model.Effects.{at_birth, reborn, with_task, with_timer}
use Rattle.task_table.specs.declared.slot.Slot.{Slot}
use Rattle.task_table.proofs.kept.Steps as steps
use Rattle.task_table.proofs.model.Changes.{task_at-with_task, same_but-with_task_again}
use Rattle.task_table.proofs.kept.Births.{born_as}
use Rattle.task_table.proofs.kernel.Kernel.reset_task.Goals as goal

-- a task that does not exist
abbrev no_setup : TaskSetup
no_setup = record { priority = 0; entry = 0; stack = 0; regions = []; start = false }

pub returns-clause-holds : goal.returns-clause-holds
unfolding reborn with_timer
returns-clause-holds c = λ g t h.
    let i = c.args.task in
    let starts = c.args.self.now.tasks.items in
    let kept = c.slot-before.ensures g t h in
    let health : Health = cond c.args.start Well Stopped in
    let b = (task_at t.state i).births + 1 in
    let x : Task = at_birth (setup_at g i) b health in
    let there : i < length t.state.tasks = omega (arith, h.count, c.requires.there) in
    let listed : i < length starts = omega (arith, c.requires.there, c.args.self.now.many) in
    let same : task_setup c.index.result.now ≡ setup_at g i = rw (← h.setup) (ap task_setup c.index.ensures ∙ sym (get_or-map task_setup starts i c.index.result.now no_setup listed)) in
    let known : c.slot-before.result.generation.number ≡ (task_at t.state i).births % 64 = ap (λ (o : Slot). o.generation.number) kept.is in
    let births : (c.slot-before.result.generation.number + 1) % 256 % 64 % 64 ≡ b % 64 = omega (arith, known) in
    let off : Task = record (task_at t.state i) { timer = None } in
    let timers : x.timer ≡ (task_at (with_task i off t.state) i).timer = sym (ap (λ (y : Task). y.timer) (task_at-with_task t.state i off there)) in
    c.set_slot.ensures.holds g _ _ (c.set_timer.ensures.holds g t h)
    (steps.kept_task t.state i x _ _ there kept (ap (λ (o : Slot). record o { wait = c.slot-before.result.wait }) c.birth_slot-slot.ensures ∙ born_as _ _ _ _ health _ _ same births (ap (λ (o : Slot). o.wait) kept.is)))
    (same_but-with_task_again t.state i off x)
    (ap (λ (y : Task). y.timer) (task_at-with_task t.state i x there) ∙ timers)
