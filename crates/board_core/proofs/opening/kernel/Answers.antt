use Rattle.std.proofs.Common.{◌≡◌, length, sym, ap, subst}
use Rattle.std.specs.Prelude.{Result, Ok, Err, IfOk}
use Rattle.image_format.specs.Images.{image_data}
use Rattle.task_table.specs.declared.kernel.Kernel.{Kernel}
use Rattle.task_table.specs.model.State.{Setup}
use Rattle.task_table.specs.model.Start.{start, begun}
use Rattle.task_table.specs.kept.Parts.{IsSound}
use Rattle.task_table.specs.kept.Holds.{Stands}
use Rattle.board_core.specs.Machine.{IsStarted}
use Rattle.mem_banks.specs.Memory.{Opened, AreRegions}
use Rattle.board_core.proofs.Opens.{parts_are, sound_setup, places_are, openable, few_lines, few_tasks}
use Rattle.board_core.proofs.opening.kernel.Goals as goal

started : {E : Type 0} (g g' : Setup) (r : Result Kernel E) → g ≡ g' → IfOk r (λ k. Stands g k (begun (start g))) → IfOk r (IsStarted g')
started g g' (Ok k) same h = let P : Setup → Type 0 = λ x. Stands x k (begun (start x)) in record { stands = subst P same h }
started g g' (Err e) same h = tt

pub open-requires-clause-regions : goal.open-requires-clause-regions
open-requires-clause-regions c =
    let p = image_data c.args.image.now in
    let at : AreRegions (length p.flash) p.ram c.deref.result.now = places_are p c.deref.result.now c.facts.ensures.facts (rw (← c.deref.ensures.value) at c.in_ok-places.ensures.places) in
    rw (← c.flash-flash.ensures, ← c.ram.ensures) at at

pub start-requires-clause-given : goal.start-requires-clause-given
start-requires-clause-given c =
    let p = image_data c.args.image.now in
    let given : c.in_ok-memory.memory.regions ≡ c.deref.result.now = ap (λ (o : Opened). o.regions) c.in_ok-memory.ensures.value in
    rw given (openable p c.deref.result.now c.deref-2.result.now (rw (← c.deref.ensures.value) at c.in_ok-places.ensures.all) (rw (← c.deref-2.ensures.value) at c.in_ok-tasks.ensures))

pub start-requires-clause-few : goal.start-requires-clause-few
start-requires-clause-few c =
    let p = image_data c.args.image.now in
    few_tasks p c.deref-2.result.now c.facts.ensures.facts (rw (← c.deref-2.ensures.value) at c.in_ok-tasks.ensures)

pub start-requires-clause-few_owners : goal.start-requires-clause-few_owners
start-requires-clause-few_owners c =
    let p = image_data c.args.image.now in
    few_lines p c.deref-3.result.now c.facts.ensures.facts (rw (← c.deref-3.ensures.value) at c.in_ok-lines.ensures)

pub returns : goal.returns
returns c =
    let p = image_data c.args.image.now in
    let memory = ap (λ (o : Opened). o.bytes) (rw (c.flash-flash.ensures, c.ram.ensures) at c.in_ok-memory.ensures.value) in
    let tasks = rw (← c.deref-2.ensures.value) at c.in_ok-tasks.ensures in
    let lines = rw (← c.deref-3.ensures.value) at c.in_ok-lines.ensures in
    let same = parts_are p c.in_ok-memory.memory.bytes c.fault_bits.result c.deref-2.result.now c.deref-3.result.now memory c.fault_bits.ensures tasks lines in
    started _ _ c.start.result same (c.start.ensures.stands (subst IsSound (sym same) (sound_setup p c.facts.ensures.facts (rw c.flash-flash.ensures at c.open.ensures.bytes))))
