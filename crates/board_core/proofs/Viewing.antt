-- What is shown of a task while a context is loaded.
use Rattle.std.proofs.Common.{◌≡◌, ◌≢◌, ◌⊎◌, inl, inr, ◌%◌, ◌<◌, ℕ, Bool, true, false, length, sym, ◌∙◌, ap, subst}
use Rattle.std.specs.Option.{option_map}
use Rattle.std.proofs.lemmas.Bool.{false≢true}
use Rattle.thumb_exec.specs.declared.cpu.Cpu.{Cpu}
use Rattle.task_table.specs.model.State.{Setup, Task, Turn}
use Rattle.task_table.specs.model.Reading.{task_at}
use Rattle.task_table.specs.model.Effects.{with_task, with_processor}
use Rattle.task_table.specs.kept.Holds.{Holds, current_of}
use Rattle.task_table.proofs.model.Changes.{task_at-with_task, task_at-with_task_other, call_of-with_task, listen_of-with_task, length-with_task}
use Rattle.board_core.specs.declared.views.TaskView.{TaskView}
use Rattle.board_core.specs.declared.space.AddressSpace.{AddressSpace}
use Rattle.board_core.specs.Views.{IsTask}
use Rattle.board_core.specs.Machine.{with_cpu, IsLoaded, HoldsBy}
use Rattle.board_core.specs.Data.{Shows}

other_at : (cpu : Cpu) (s : Turn) (i : ℕ) (v : TaskView) → i ≢ s.state.current → IsTask s.state i v → IsTask (with_cpu cpu s).state i v
unfolding with_processor
other_at cpu s i v ne b =
    let c = s.state.current in
    let x : Task = record (task_at s.state c) { registers = cpu.regs.words; flags = cpu.flags } in
    let at : task_at s.state i ≡ task_at (with_task c x s.state) i = sym (task_at-with_task_other s.state c i x ne) in
    let n : length (with_task c x s.state).tasks ≡ length s.state.tasks = length-with_task s.state c x in
    let inside : i < length (with_task c x s.state).tasks = subst (λ (m : ℕ). i < m) (sym n) b.inside in
    record {
      inside = inside;
      generation = b.generation ∙ ap (λ (y : Task). y.births % 64) at;
      regs = b.regs ∙ ap (λ (y : Task). y.registers) at;
      flags = b.flags ∙ ap (λ (y : Task). y.flags) at;
      health = b.health ∙ ap (λ (y : Task). y.health) at;
      posted = b.posted ∙ ap (λ (y : Task). y.posted) at;
      timer = b.timer ∙ ap (λ (y : Task). option_map (λ x. (x.deadline, x.bits)) y.timer) at;
      wait = rw (call_of-with_task s.state c i x, listen_of-with_task s.state c i x) b.wait;
    }

own_at : (cpu : Cpu) (s : Turn) (v : TaskView) → IsTask s.state s.state.current v → IsTask (with_cpu cpu s).state s.state.current record v { regs = cpu.regs.words; flags = cpu.flags }
unfolding with_processor
own_at cpu s v b =
    let c = s.state.current in
    let x : Task = record (task_at s.state c) { registers = cpu.regs.words; flags = cpu.flags } in
    let at : x ≡ task_at (with_task c x s.state) c = sym (task_at-with_task s.state c x b.inside) in
    let n : length (with_task c x s.state).tasks ≡ length s.state.tasks = length-with_task s.state c x in
    let inside : c < length (with_task c x s.state).tasks = subst (λ (m : ℕ). c < m) (sym n) b.inside in
    record {
      inside = inside;
      generation = b.generation ∙ ap (λ (y : Task). y.births % 64) at;
      regs = ap (λ (y : Task). y.registers) at;
      flags = ap (λ (y : Task). y.flags) at;
      health = b.health ∙ ap (λ (y : Task). y.health) at;
      posted = b.posted ∙ ap (λ (y : Task). y.posted) at;
      timer = b.timer ∙ ap (λ (y : Task). option_map (λ x. (x.deadline, x.bits)) y.timer) at;
      wait = rw (call_of-with_task s.state c c x, listen_of-with_task s.state c c x) b.wait;
    }

-- no context is loaded, or that of another task
pub other_view : {X : Type 0} {H : X → Type 0} (shown : Shows X H) (loaded : Bool) (g : Setup) (r : AddressSpace X H) (cpu : Cpu) (t : Turn) (i : ℕ) (v : TaskView) → (loaded ≡ false) ⊎ (current_of r.kernel ≢ i) → HoldsBy shown loaded g r cpu t → ((u : Turn) → Holds g r.kernel u → IsTask u.state i v) → IsTask t.state i v
other_view shown false g r cpu t i v d h f = f t h.kernel
other_view shown true g r cpu t i v (inl e) h f = absurd (false≢true (sym e))
other_view shown true g r cpu t i v (inr ne) h f =
    let P : Turn → Type 0 = λ u. IsTask u.state i v in
    subst P (sym h.is) (other_at cpu h.saved i v (λ e. ne (h.holds.kernel.current ∙ sym e)) (f h.saved h.holds.kernel))

-- it is this one's
pub own_view : {X : Type 0} {H : X → Type 0} (shown : Shows X H) (g : Setup) (r : AddressSpace X H) (cpu : Cpu) (t : Turn) (i : ℕ) (v : TaskView) → current_of r.kernel ≡ i → IsLoaded shown g r cpu t → ((u : Turn) → Holds g r.kernel u → IsTask u.state i v) → IsTask t.state i record v { regs = cpu.regs.words; flags = cpu.flags }
own_view shown g r cpu t i v e h f =
    let same : h.saved.state.current ≡ i = sym h.holds.kernel.current ∙ e in
    let P : Turn → Type 0 = λ u. IsTask u.state i record v { regs = cpu.regs.words; flags = cpu.flags } in
    let Q : ℕ → Type 0 = λ j. IsTask (with_cpu cpu h.saved).state j record v { regs = cpu.regs.words; flags = cpu.flags } in
    let R : ℕ → Type 0 = λ j. IsTask h.saved.state j v in
    subst P (sym h.is) (subst Q same (own_at cpu h.saved v (subst R (sym same) (f h.saved h.holds.kernel))))
