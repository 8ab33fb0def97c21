use Rattle.std.proofs.Common.{ℕ, ◌%◌, sym, ◌∙◌, subst, arith}
use Rattle.run_script.specs.declared.events.Event.{Event}
use Rattle.task_table.specs.model.State.{Turn}
use Rattle.task_table.specs.model.Events.{ticked, interrupted, fed, driven}
use Rattle.task_table.proofs.model.Outside.{devices-ticked, aside-interrupted, aside-driven}
use Rattle.timer_irq.specs.Midway.{AreAsked}
use Rattle.board_core.specs.declared.machine.Machine.{Machine}
use Rattle.board_core.specs.Machine.{MachineStands}
use Rattle.board_model.specs.Turn.{happened}
use Rattle.board_core.proofs.Loading.{unloaded_stands}
use Rattle.board_core.proofs.Reaching.{AreFed, are_fed}
use Rattle.board_core.specs.Data.{boxed, data_of}
use Rattle.board_core.proofs.machine.Machine.happen.Goals as goal

pub returns-in-Tick-clause-stands : goal.returns-in-Tick-clause-stands
returns-in-Tick-clause-stands boxes c =
    let shown = boxed (λ p. (goal.Device-dyn boxes p).shown p.1) in
    λ g t st.
    let m : Machine _ _ = record c.save_context.new.self { space = record c.save_context.new.self.space { kernel = c.tick.new.k } } in
    let P : Event → Type 0 = λ event. MachineStands shown g m (happened g t event) in
    let h = c.save_context.ensures.holds g t st.holds in
    subst P (sym c.in-Tick.is) (unloaded_stands _ g m (ticked t) c.save_context.ensures.unloaded (c.tick.ensures.stands g t record { holds = h.kernel; sane = st.sane }) (h.devices ∙ sym (devices-ticked t)))

pub returns-in-Irq-clause-stands : goal.returns-in-Irq-clause-stands
returns-in-Irq-clause-stands boxes c =
    let shown = boxed (λ p. (goal.Device-dyn boxes p).shown p.1) in
    λ g t st.
    let m : Machine _ _ = record c.save_context.new.self { space = record c.save_context.new.self.space { kernel = c.interrupt.new.k } } in
    let P : Event → Type 0 = λ event. MachineStands shown g m (happened g t event) in
    let h = c.save_context.ensures.holds g t st.holds in
    subst P (sym c.in-Irq.is) (unloaded_stands _ g m (interrupted g c.in-Irq.line t) c.save_context.ensures.unloaded (c.interrupt.ensures.stands g t record { holds = h.kernel; sane = st.sane }) (h.devices ∙ sym (aside-interrupted g c.in-Irq.line t).devices))

pub returns-in-Feed-clause-stands : goal.returns-in-Feed-clause-stands
returns-in-Feed-clause-stands boxes c =
    let shown = boxed (λ p. (goal.Device-dyn boxes p).shown p.1) in
    λ g t st.
    let m : Machine _ _ = record c.save_context.new.self { space = record c.save_context.new.self.space { kernel = c.drive.new.k; devices = c.feed-fed.new.self } } in
    let P : Event → Type 0 = λ event. MachineStands shown g m (happened g t event) in
    let h = c.save_context.ensures.holds g t st.holds in
    let byte : ℕ = c.in-Feed.byte in
    let u : Turn = fed c.in-Feed.device (byte % 256) t in
    let are : AreFed g c.note.new.self (data_of shown c.feed-fed.new.self) u = are_fed g c.save_context.new.self.space.kernel c.note.new.self _ _ t _ c.in-Feed.device byte _ h.kernel h.devices st.sane c.from.ensures (omega arith) c.feed-fed.ensures.after c.feed-fed.ensures.told (c.note.ensures.holds g) in
    let asked : AreAsked g u c.deref.result.now = subst (AreAsked g u) (sym c.deref.ensures.0) (c.asked-asked.ensures g u are.stands.holds are.devices) in
    subst P (sym c.in-Feed.is) (unloaded_stands _ g m (driven g u) c.save_context.ensures.unloaded (c.drive.ensures.stands g u are.stands asked) (are.devices ∙ sym (aside-driven g u).devices))

pub drive-requires-clause-stood : goal.drive-requires-clause-stood
drive-requires-clause-stood boxes c =
    let shown = boxed (λ p. (goal.Device-dyn boxes p).shown p.1) in
    let g = c.requires.stands.0 in
    let t = c.requires.stands.1 in
    let st = c.requires.stands.2 in
    let h = c.save_context.ensures.holds g t st.holds in
    let byte : ℕ = c.in-Feed.byte in
    let u : Turn = fed c.in-Feed.device (byte % 256) t in
    let are : AreFed g c.note.new.self (data_of shown c.feed-fed.new.self) u = are_fed g c.save_context.new.self.space.kernel c.note.new.self _ _ t _ c.in-Feed.device byte _ h.kernel h.devices st.sane c.from.ensures (omega arith) c.feed-fed.ensures.after c.feed-fed.ensures.told (c.note.ensures.holds g) in
    (g, u, are.stands)

pub tick-requires-clause-small : goal.tick-requires-clause-small
tick-requires-clause-small boxes c =
    let st = c.requires.stands.2 in
    let h = c.save_context.ensures.holds c.requires.stands.0 c.requires.stands.1 st.holds in
    let now = h.kernel.now in
    omega (arith, now, c.requires.stands.3)

pub interrupt-requires-clause-stood : goal.interrupt-requires-clause-stood
interrupt-requires-clause-stood boxes c =
    let st = c.requires.stands.2 in
    let h = c.save_context.ensures.holds c.requires.stands.0 c.requires.stands.1 st.holds in
    (c.requires.stands.0, c.requires.stands.1, record { holds = h.kernel; sane = st.sane })
