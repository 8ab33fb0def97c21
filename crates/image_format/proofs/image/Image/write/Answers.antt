use Rattle.std.proofs.Common.{◌∙◌, ap, inr, sym}
use Rattle.std.proofs.lemmas.Result.{IfOk-weaker}
use Rattle.image_format.specs.Images.{records_in}
use Rattle.image_format.specs.ImageData.{image_or_fault, pictured}
use Rattle.image_format.specs.Records.{bytes_of}
use Rattle.image_format.proofs.Again.{plain_second, reads_again}
use Rattle.image_format.proofs.Shape.{second_again}
use Rattle.image_format.proofs.image.Image.write.Goals as goal

pub returns-clause-exact : goal.returns-clause-exact
returns-clause-exact c =
    let i = c.args.self.now in
    IfOk-weaker c.bytes_of.result _ _ (λ v e. e ∙ ap bytes_of (sym (second_again (records_in i) i.second i.accepted))) c.bytes_of.ensures

pub returns-clause-spells : goal.returns-clause-spells
returns-clause-spells c =
    let i = c.args.self.now in
    IfOk-weaker c.bytes_of.result _ _ (λ v e. inr (e ∙ ap bytes_of (sym (second_again (records_in i) i.second i.accepted)))) c.bytes_of.ensures

pub returns-clause-reads_back : goal.returns-clause-reads_back
returns-clause-reads_back c =
    let i = c.args.self.now in
    IfOk-weaker c.bytes_of.result _ _ (λ v e. ap image_or_fault e ∙ ap pictured (reads_again (records_in i) i.accepted (plain_second i.header i.second))) c.bytes_of.ensures
