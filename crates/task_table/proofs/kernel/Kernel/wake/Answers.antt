use Rattle.std.proofs.Common.{◌≡◌, ap, sym, ◌∙◌}
use Rattle.std.proofs.lemmas.Bool.{ne_eqb}
use Rattle.task_table.specs.model.Reading.{listen_of}
use Rattle.task_table.specs.model.Effects.{woken}
use Rattle.task_table.specs.kept.Holds.{kept_listen}
use Rattle.task_table.specs.declared.slot.Listening.{Listening}
use Rattle.task_table.proofs.kept.Steps as steps
use Rattle.task_table.proofs.kernel.Kernel.wake.Goals as goal

pub returns-then-under-ne0-clause-holds : goal.returns-then-under-ne0-clause-holds
unfolding woken
returns-then-under-ne0-clause-holds c = λ g t h.
    let l = steps.some_mapped kept_listen (listen_of t.state c.args.task) _ (sym (steps.listen_kept t.state c.args.task _ (c.slot.ensures g t h)) ∙ sym c.in-Some.ensures) in
    let mask : l.0.mask ≡ c.in-Some.listening.mask = ap (λ (x : Listening). x.mask) l.2 in
    let h1 = c.stop_listening.ensures.holds g t h in
    let h2 = c.clear_bits.ensures.holds g _ h1 in
    let h3 = c.give.ensures.holds g _ h2 in
    let h4 = c.note_return.ensures.holds g _ h3 in
    rw (l.1, mask, ← c.posted_bits.ensures g t h, ne_eqb _ _ c.if-under-ne0.true) h4

pub returns-else-under-ne0-clause-holds : goal.returns-else-under-ne0-clause-holds
unfolding woken
returns-else-under-ne0-clause-holds c = λ g t h.
    let l = steps.some_mapped kept_listen (listen_of t.state c.args.task) _ (sym (steps.listen_kept t.state c.args.task _ (c.slot.ensures g t h)) ∙ sym c.in-Some.ensures) in
    let mask : l.0.mask ≡ c.in-Some.listening.mask = ap (λ (x : Listening). x.mask) l.2 in
    rw (l.1, mask, ← c.posted_bits.ensures g t h, c.if-under-ne0.false) h

pub returns-in_default-clause-holds : goal.returns-in_default-clause-holds
unfolding woken
returns-in_default-clause-holds c = λ g t h.
    rw (steps.none_mapped kept_listen (listen_of t.state c.args.task) (sym (steps.listen_kept t.state c.args.task _ (c.slot.ensures g t h)) ∙ sym c.in_default.ensures)) h
