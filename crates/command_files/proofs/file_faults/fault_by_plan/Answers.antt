use Rattle.std.proofs.Common.{sym, subst, ◌++◌, codes}
use Rattle.std.specs.Prelude.{decimal}
use Rattle.image_build.specs.Building.{LacksRoom}
use Rattle.command_files.specs.FileFaults.{IsFaultFor}
use Rattle.command_files.proofs.Refusals.{lacks_flash, lacks_ram}
use Rattle.command_files.proofs.file_faults.fault_by_plan.Goals as goal

pub returns-in-Flash : goal.returns-in-Flash
returns-in-Flash c = λ app h.
    let n = c.in-Flash.needed in
    subst (λ r. IsFaultFor r c.refused_at.result) (sym (lacks_flash app n (subst (LacksRoom app) c.in-Flash.is h)))
    (c.refused_at.ensures (codes "flash:" ++ decimal n) c.format.ensures.ok)

pub returns-in-Ram : goal.returns-in-Ram
returns-in-Ram c = λ app h.
    let n = c.in-Ram.needed in
    subst (λ r. IsFaultFor r c.refused_at-in-Ram.result) (sym (lacks_ram app n (subst (LacksRoom app) c.in-Ram.is h)))
    (c.refused_at-in-Ram.ensures (codes "ram:" ++ decimal n) c.format-in-Ram.ensures.ok)
