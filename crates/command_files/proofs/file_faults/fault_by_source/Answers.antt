use Rattle.std.proofs.Common.{sym, subst}
use Rattle.image_build.specs.Building.{RefusesSource}
use Rattle.command_files.specs.FileFaults.{IsFaultFor}
use Rattle.command_files.proofs.Refusals.{source_by_cause, source_too_long}
use Rattle.command_files.proofs.file_faults.fault_by_source.Goals as goal

pub returns-in-Source : goal.returns-in-Source
returns-in-Source c = λ app i source le h.
    subst (λ r. IsFaultFor r c.refused_at_number.result) (sym (source_by_cause app i source _ c.in-Source.cause c.in-Source.line le (subst (RefusesSource app i source) c.in-Source.is h)))
    c.refused_at_number.ensures

pub returns-in-Code : goal.returns-in-Code
returns-in-Code c = λ app i source le h.
    subst (λ r. IsFaultFor r c.refused_at_number-in-Code.result) (sym (source_too_long app i source _ c.in-Code.length le (subst (RefusesSource app i source) c.in-Code.is h)))
    c.refused_at_number-in-Code.ensures
