use Rattle.std.proofs.Common.{ap, ◌∙◌}
use Rattle.std.specs.Prelude.{slice_get}
use Rattle.std.specs.Option.{option_map}
use Rattle.task_table.specs.model.State.{LineSetup}
use Rattle.std.proofs.Common.{List}
use Rattle.task_table.specs.kept.Parts.{line_setup}
use Rattle.timer_irq.proofs.Lines.{get_mapped}
use Rattle.timer_irq.proofs.owners.owner_at.Goals as goal

pub returns : goal.returns
returns c = λ g t h.
    ap (option_map line_setup) c.item.ensures ∙ get_mapped line_setup c.owners.result.now c.args.i ∙ ap (λ (xs : List LineSetup). slice_get xs c.args.i) (c.owners.ensures.holds g t h)
