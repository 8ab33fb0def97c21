use Rattle.std.proofs.Common.{◌≡◌, ◌∙◌, None, subst, sym}
use Rattle.image_format.specs.declared.records.ImageForm.{ImageForm}
use Rattle.image_format.specs.declared.records.ImageForm.TheVariants.{First}
use Rattle.image_format.specs.Steps.{header_size, tasks_from}
use Rattle.image_format.proofs.Named.{no_names_left}
use Rattle.image_format.proofs.names.check_names.Goals as goal

pub returns-in-First : goal.returns-in-First
returns-in-First c =
    let ts = c.args.tasks.now in
    let each : tasks_from First 0 20 ts ≡ None = subst (λ (f : ImageForm). tasks_from f 0 (header_size f) ts ≡ None) c.in-First.is c.requires.each in
    c.check_left.ensures ∙ sym (no_names_left _ 0 20 ts c.args.names.now each)
