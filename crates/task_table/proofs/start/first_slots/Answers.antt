use Rattle.std.proofs.Common.{◌≡◌, ◌∙◌, ◌+◌, ◌<◌, ◌++◌, ◌∷◌, [], ℕ, List, ap, sym, length, get_or, map, take, take_all}
use Rattle.std.proofs.lemmas.List.{map_more}
use Rattle.task_table.specs.kept.Parts.{task_setup}
use Rattle.task_table.specs.model.Start.{born}
use Rattle.task_table.specs.kept.Holds.{packed_task}
use Rattle.task_table.specs.declared.slot.Slot.{Slot}
use Rattle.task_table.specs.declared.slot.Wait.TheVariants.{Nothing}
use Rattle.task_table.specs.declared.start.TaskStart.{TaskStart}
use Rattle.task_table.proofs.start.first_slots.Goals as goal

abbrev first : TaskStart → Slot
first x = packed_task (born (task_setup x)) Nothing

one_more : (slots pushed : List Slot) (tasks : List TaskStart) (k : ℕ) (x : TaskStart) (slot : Slot)
    → pushed ≡ slots ++ slot ∷ [] → slots ≡ map first (take k tasks) → slot ≡ first x → x ≡ get_or tasks k x → k < length tasks → pushed ≡ map first (take (k + 1) tasks)
one_more slots pushed tasks k x slot is so_far one at there =
    is
    ∙ ap (λ (ss : List Slot). ss ++ slot ∷ []) so_far
    ∙ ap (λ (s : Slot). map first (take k tasks) ++ s ∷ []) (one ∙ ap first at)
    ∙ sym (map_more first tasks k x there)

pub loop-task-init : goal.loop-task-init
loop-task-init c = c.new-slots.ensures.items

pub loop-task-preserved : goal.loop-task-preserved
loop-task-preserved c = one_more c.loop-task.slots.items c.push.new.self.items c.args.tasks.now c.loop-task.task-index c.task-item.result c.first_slot.result c.in_ok-push.ensures.items c.loop-task.invariant c.first_slot.ensures c.task-item.is c.loop-task-test.true

pub returns : goal.returns
returns c = c.loop-task.invariant ∙ ap (map first) (take_all c.loop-task.task-index c.args.tasks.now c.loop-task-test.false)
