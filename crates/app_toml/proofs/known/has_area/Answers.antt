use Rattle.std.proofs.Common.{◌∙◌, ap, subst, sym}
use Rattle.app_toml.specs.Crossed.{is_among}
use Rattle.app_toml.specs.Known.{IsKept}
use Rattle.app_toml.proofs.Gathered.{no_areas}
use Rattle.app_toml.proofs.known.has_area.Goals as goal

pub returns-in-Some : goal.returns-in-Some
returns-in-Some c = λ tasks keeps.
    c.is_known.ensures ∙ (subst (λ o. IsKept o c.args.task.now tasks) (sym c.in-Some.ensures.value) (keeps c.args.task.now)).1.areas c.args.area.now

pub returns-in-None : goal.returns-in-None
returns-in-None c = λ tasks keeps.
    sym (ap (is_among c.args.area.now) (no_areas c.args.task.now tasks
    (subst (λ o. IsKept o c.args.task.now tasks) (sym c.in-None.ensures.value) (keeps c.args.task.now))))
