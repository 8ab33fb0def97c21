use Rattle.std.proofs.Common.{ap, ◌∙◌}
use Rattle.region_check.specs.Rights.{first_bad}
use Rattle.task_table.specs.model.Reading.{bad_byte}
use Rattle.task_table.proofs.kernel.Kernel.bad_byte.Goals as goal

pub returns : goal.returns
unfolding bad_byte
returns c = λ g t h.
    c.may_range.ensures.value ∙ ap (λ rs. first_bad rs c.args.right c.args.base c.args.len) (c.regions.ensures.holds g t h)
