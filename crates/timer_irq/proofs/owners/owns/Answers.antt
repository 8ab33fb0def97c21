use Rattle.std.proofs.Common.{sym, ◌∙◌, ap}
use Rattle.std.specs.List.{list_any}
use Rattle.task_table.specs.kept.Parts.{line_setup}
use Rattle.task_table.specs.model.Rows.{owns_with}
use Rattle.timer_irq.proofs.Lines.{any_mapped}
use Rattle.timer_irq.proofs.owners.owns.Goals as goal

pub returns : goal.returns
returns c = λ g t h.
    let p = owns_with c.args.caller c.args.bits in
    c.has_owner.ensures ∙ sym (any_mapped line_setup p c.owners.result.now) ∙ ap (list_any p) (c.owners.ensures.holds g t h)
