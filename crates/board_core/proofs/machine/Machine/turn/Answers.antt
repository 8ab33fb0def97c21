use Rattle.std.proofs.Common.{◌≡◌, ◌<◌, ℕ, Option, length, sym, ◌∙◌, ap, arith, subst}
use Rattle.task_table.specs.model.Reading.{register}
use Rattle.task_table.proofs.model.Sanity.{sane-current}
use Rattle.board_model.specs.declared.outcomes.Turned.TheVariants.{Ran}
use Rattle.board_core.specs.Machine.{IsReady, MachineHolds}
use Rattle.board_model.specs.Turn.{turn_of, turned_of, stepped, with_current}
use Rattle.board_model.proofs.TurnChains.{chosen_is, sane-ran}
use Rattle.board_core.proofs.Loading.{below, loaded_register, register_current}
use Rattle.board_core.specs.Data.{boxed}
use Rattle.board_core.proofs.machine.Machine.turn.Goals as goal

pub load_context-requires : goal.load_context-requires
load_context-requires boxes c =
    let g = c.requires.next.0 in
    let t = c.requires.next.1 in
    let n = c.requires.next.2 in
    let is = chosen_is t.state c.in-Some.task n.stands.sane (sym n.is ∙ c.in-Some.is) in
    below _ _ g c.args.self.now.space _ t c.in-Some.task n.stands.holds is.inside

pub step-requires : goal.step-requires
step-requires boxes c =
    let g = c.requires.next.0 in
    let t = c.requires.next.1 in
    let n = c.requires.next.2 in
    let is = chosen_is t.state c.in-Some.task n.stands.sane (sym n.is ∙ c.in-Some.is) in
    record {
      ready = (g, with_current c.in-Some.task t, record { loaded = c.load_context.ensures.loaded; holds = c.load_context.ensures.holds g t n.stands.holds is.ready; sane = sane-current c.in-Some.task t n.stands.sane is.inside }, c.requires.next.3);
      room = omega (arith, c.requires.room, c.load_context.ensures.count);
    }

pub note_task-requires-clause-there : goal.note_task-requires-clause-there
note_task-requires-clause-there boxes c =
    let shown = boxed (λ p. (goal.Device-dyn boxes p).shown p.1) in
    let g = c.requires.next.0 in
    let t = c.requires.next.1 in
    let n = c.requires.next.2 in
    let task = c.in-Some.task in
    let is = chosen_is t.state task n.stands.sane (sym n.is ∙ c.in-Some.is) in
    let ready : IsReady shown g c.load_context.new.self (with_current task t) = record { loaded = c.load_context.ensures.loaded; holds = c.load_context.ensures.holds g t n.stands.holds is.ready; sane = sane-current task t n.stands.sane is.inside } in
    let u = stepped c.args.level g task (with_current task t) in
    let sane = sane-ran c.args.level task t n.stands.sane is in
    let before = n.stands.sane.steady.as_many in
    let many = sane.steady.as_many in
    let there = is.inside in
    let inside : task < length u.state.tasks = omega (arith, before, many, there) in
    below _ _ g c.step.new.self.space _ u task (c.step.ensures.holds g (with_current task t) ready) inside

pub overflow_cast-result : goal.overflow_cast-result
overflow_cast-result boxes c =
    let g = c.requires.next.0 in
    let t = c.requires.next.1 in
    let n = c.requires.next.2 in
    let is = chosen_is t.state c.in-Some.task n.stands.sane (sym n.is ∙ c.in-Some.is) in
    let there = below _ _ g c.args.self.now.space _ t c.in-Some.task n.stands.holds is.inside in
    let few = c.args.self.now.space.kernel.few in
    omega (arith, there, few)

pub returns-in-Some-clause-holds : goal.returns-in-Some-clause-holds
returns-in-Some-clause-holds boxes c =
    let shown = boxed (λ p. (goal.Device-dyn boxes p).shown p.1) in
    λ g t n.
    let task = c.in-Some.task in
    let is = chosen_is t.state task n.stands.sane (sym n.is ∙ c.in-Some.is) in
    let ready : IsReady shown g c.load_context.new.self (with_current task t) = record { loaded = c.load_context.ensures.loaded; holds = c.load_context.ensures.holds g t n.stands.holds is.ready; sane = sane-current task t n.stands.sane is.inside } in
    let P : Option ℕ → Type 0 = λ o. MachineHolds shown g c.note_task.new.self (turn_of c.args.level g o t) in
    subst P (sym c.in-Some.is) (c.note_task.ensures.holds g _ (c.step.ensures.holds g (with_current task t) ready))

pub returns-in-Some-clause-turned : goal.returns-in-Some-clause-turned
returns-in-Some-clause-turned boxes c = λ g t n.
    let task = c.in-Some.task in
    let is = chosen_is t.state task n.stands.sane (sym n.is ∙ c.in-Some.is) in
    let loaded = c.load_context.ensures.holds g t n.stands.holds is.ready in
    let at : c.get-at.result ≡ register t.state task 15 = c.get-at.ensures ∙ loaded_register _ 15 g _ _ (with_current task t) loaded is.inside ∙ register_current t task in
    ap (Ran task) at ∙ ap (turned_of t.state) (sym c.in-Some.is)
