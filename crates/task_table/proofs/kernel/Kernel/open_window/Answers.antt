use Rattle.std.proofs.Common.{[], ◌∷◌, ◌∙◌, ap, sym, subst, map, arith}
use Rattle.mem_banks.specs.Memory.{Opened}
use Rattle.task_table.specs.kept.Holds.{kept_of, setup_of, memory_of}
use Rattle.task_table.specs.kept.Openable.{span_of, AreUsable}
use Rattle.task_table.specs.kept.Parts.{task_setup}
use Rattle.task_table.specs.model.Reading.{setup_at}
use Rattle.task_table.proofs.kept.Openings.{AreClear, holds_all, loan_of, lent_or_not, setup_lent, fresh_lent, usable_given, lendable_same, answered}
use Rattle.task_table.proofs.kernel.Kernel.open_window.Goals as goal

pub returns-clause-opened : goal.returns-clause-opened
returns-clause-opened g c = λ yes.
    let a = c.args in
    let k = c.area_touched-2.new.self in
    let loan = c.open_window.ensures.opened yes in
    let over = lent_or_not g.B.WindowUser.did c.open_window.result k.memory.bytes (span_of a.flash.now) (span_of a.ram.now) (span_of a.area.now) (span_of a.second.now) a.user.now c.open_window.new.user c.open_window.new.self.bytes c.open_window.ensures.opened (λ refused. ap (λ (m : Opened). m.bytes) (c.open_window.ensures.kept refused)) in
    let same = setup_lent (λ flash ram. record (setup_of k) { flash = flash; ram = ram }) (span_of a.ram.now ∷ span_of a.area.now ∷ span_of a.second.now ∷ []) k.memory.bytes c.open_window.new.self.bytes over in
    record {
      window = loan_of g.B.WindowUser.did (memory_of a.self.now) k.memory.bytes (span_of a.flash.now) (span_of a.ram.now) (span_of a.area.now) (span_of a.second.now) a.user.now c.open_window.new.user c.open_window.new.self.bytes (c.area_touched-2.ensures.memory ∙ (c.area_touched.ensures.memory ∙ c.touched.ensures.memory)) loan;
      holds = λ s t h. holds_all s (kept_of k) t a.ram.now a.area.now a.second.now loan.after loan.area_after loan.second_after _ _ (c.area_touched-2.ensures.holds s t (c.area_touched.ensures.holds s t (c.touched.ensures.holds s t h))) same loan.left;
    }

pub returns-clause-frame : goal.returns-clause-frame
returns-clause-frame g c =
    let a = c.args in
    let k = c.area_touched-2.new.self in
    let over = lent_or_not g.B.WindowUser.did c.open_window.result k.memory.bytes (span_of a.flash.now) (span_of a.ram.now) (span_of a.area.now) (span_of a.second.now) a.user.now c.open_window.new.user c.open_window.new.self.bytes c.open_window.ensures.opened (λ refused. ap (λ (m : Opened). m.bytes) (c.open_window.ensures.kept refused)) in
    record {
      notes = omega (arith, c.area_touched-2.ensures.frame.notes, c.area_touched.ensures.frame.notes, c.touched.ensures.frame.notes);
      tasks = c.area_touched-2.ensures.frame.tasks ∙ (c.area_touched.ensures.frame.tasks ∙ c.touched.ensures.frame.tasks);
      setup = setup_lent (λ flash ram. record (setup_of k) { flash = flash; ram = ram }) (span_of a.ram.now ∷ span_of a.area.now ∷ span_of a.second.now ∷ []) k.memory.bytes c.open_window.new.self.bytes over ∙ (c.area_touched-2.ensures.frame.setup ∙ (c.area_touched.ensures.frame.setup ∙ c.touched.ensures.frame.setup));
    }

pub invariant_of-self-clause-fresh : goal.invariant_of-self-clause-fresh
invariant_of-self-clause-fresh g c =
    let a = c.args in
    let k = c.area_touched-2.new.self in
    let over = lent_or_not g.B.WindowUser.did c.open_window.result k.memory.bytes (span_of a.flash.now) (span_of a.ram.now) (span_of a.area.now) (span_of a.second.now) a.user.now c.open_window.new.user c.open_window.new.self.bytes c.open_window.ensures.opened (λ refused. ap (λ (m : Opened). m.bytes) (c.open_window.ensures.kept refused)) in
    let clear : AreClear k.entries.items (span_of a.ram.now ∷ span_of a.area.now ∷ span_of a.second.now ∷ []) = (
      λ _ i x here. c.touched.ensures.apart i x (c.area_touched.ensures.there i x (c.area_touched-2.ensures.there i x here)),
      (λ some i x here. c.area_touched.ensures.apart some i x (c.area_touched-2.ensures.there i x here), (c.area_touched-2.ensures.apart, tt)),
    ) in
    fresh_lent (span_of a.ram.now ∷ span_of a.area.now ∷ span_of a.second.now ∷ []) k.memory.bytes c.open_window.new.self.bytes k.watch.low k.watch.span k.entries.items k.fresh clear over

pub returns-clause-given : goal.returns-clause-given
returns-clause-given g c = λ task usable.
    let a = c.args in
    let k = c.area_touched-2.new.self in
    let setup = c.area_touched-2.ensures.frame.setup ∙ (c.area_touched.ensures.frame.setup ∙ c.touched.ensures.frame.setup) in
    let here : AreUsable (setup_at (setup_of k) task).regions a.flash.now a.ram.now a.area.now a.second.now = subst (λ s. AreUsable (setup_at s task).regions a.flash.now a.ram.now a.area.now a.second.now) (sym setup) usable in
    answered c.open_window.result k.openable (λ openable. c.open_window.ensures.given (usable_given (setup_of k) k.memory.regions task a.flash.now a.ram.now a.area.now a.second.now openable here))

pub invariant_of-self-clause-openable : goal.invariant_of-self-clause-openable
invariant_of-self-clause-openable g c =
    let k = c.area_touched-2.new.self in
    lendable_same k.memory.regions c.open_window.new.self.regions (map task_setup k.tasks.items) c.open_window.ensures.regions k.openable

pub invariant_of-self-clause-few : goal.invariant_of-self-clause-few
invariant_of-self-clause-few g c = c.area_touched-2.new.self.few

pub invariant_of-self-clause-all_lines : goal.invariant_of-self-clause-all_lines
invariant_of-self-clause-all_lines g c = c.area_touched-2.new.self.all_lines

pub invariant_of-self-clause-few_owners : goal.invariant_of-self-clause-few_owners
invariant_of-self-clause-few_owners g c = c.area_touched-2.new.self.few_owners

pub invariant_of-self-clause-many : goal.invariant_of-self-clause-many
invariant_of-self-clause-many g c = c.area_touched-2.new.self.many

pub invariant_of-self-clause-there : goal.invariant_of-self-clause-there
invariant_of-self-clause-there g c = c.area_touched-2.new.self.there

pub invariant_of-self-clause-order_is : goal.invariant_of-self-clause-order_is
invariant_of-self-clause-order_is g c = c.area_touched-2.new.self.order_is

pub invariant_of-self-clause-room : goal.invariant_of-self-clause-room
invariant_of-self-clause-room g c = c.area_touched-2.new.self.room

pub invariant_of-self-clause-ready_now : goal.invariant_of-self-clause-ready_now
invariant_of-self-clause-ready_now g c = c.area_touched-2.new.self.ready_now

pub invariant_of-self-clause-offered_now : goal.invariant_of-self-clause-offered_now
invariant_of-self-clause-offered_now g c = c.area_touched-2.new.self.offered_now

pub invariant_of-self-clause-timed_now : goal.invariant_of-self-clause-timed_now
invariant_of-self-clause-timed_now g c = c.area_touched-2.new.self.timed_now

pub invariant_of-self-clause-of_calls : goal.invariant_of-self-clause-of_calls
invariant_of-self-clause-of_calls g c = c.area_touched-2.new.self.of_calls
