use Rattle.std.proofs.Common.{Option, sym, ◌∙◌, subst}
use Rattle.run_script.specs.declared.events.Event.{Event}
use Rattle.board_model.specs.Turn.{happened_next}
use Rattle.board_core.specs.Data.{boxed}
use Rattle.board_core.specs.Machine.{MachineStands}
use Rattle.board_core.proofs.machine.Machine.happen_at.Goals as goal

pub returns-in-Some-clause-stands : goal.returns-in-Some-clause-stands
returns-in-Some-clause-stands boxes c =
    let shown = boxed (λ p. (goal.Device-dyn boxes p).shown p.1) in
    λ g t st.
    let P : Option Event → Type 0 = λ o. MachineStands shown g c.happen.new.self (happened_next g o t) in
    subst P (sym c.in-Some.is ∙ c.event_from.ensures.event) (c.happen.ensures.stands g t st)
