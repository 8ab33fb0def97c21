use Rattle.std.proofs.Common.{◌≡◌, ap, sym, ◌∙◌}
use Rattle.task_table.specs.model.Reading.{call_of}
use Rattle.task_table.specs.model.Effects.{closed, noted}
use Rattle.task_table.specs.kept.Holds.{kept_call}
use Rattle.task_table.specs.declared.slot.OpenCall.{OpenCall}
use Rattle.task_table.proofs.kept.Steps as steps
use Rattle.task_table.proofs.model.Changes.{timers_same, task_at-without_call, same_but-without_call, closed_none}
use Rattle.task_table.proofs.kernel.Kernel.close.Goals as goal

pub returns-in-Some-clause-holds : goal.returns-in-Some-clause-holds
unfolding closed noted
returns-in-Some-clause-holds c = λ g t h.
    let i = c.args.client in
    let kept = c.slot-slot.ensures g t h in
    let call = steps.some_mapped kept_call (call_of t.state i) _ (sym (steps.call_kept t.state i _ kept) ∙ sym c.in-Some.ensures) in
    let number : call.0.number ≡ c.in-Some.call.number = ap (λ (x : OpenCall). x.number) call.2 in
    let next = c.set_slot.ensures.holds g t _ h (steps.kept_no_call t.state i call.0 _ kept call.1) (same_but-without_call t.state i) (timers_same _ _ i (task_at-without_call t.state i i)) in
    rw (call.1, number) (c.note.ensures.holds g _ next)

pub returns-in_default-clause-holds : goal.returns-in_default-clause-holds
returns-in_default-clause-holds c = λ g t h.
    let none = steps.none_mapped kept_call (call_of t.state c.args.client) (sym (steps.call_kept t.state c.args.client _ (c.slot-slot.ensures g t h)) ∙ sym c.in_default.ensures) in
    rw (closed_none c.args.client c.args.ending t none) h
