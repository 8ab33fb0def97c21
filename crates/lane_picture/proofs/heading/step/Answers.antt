use Rattle.std.proofs.Common.{◌≡◌, ℕ, ◌*◌, ◌∙◌, ap, leb, rules, sym}
use Rattle.std.specs.Prelude.{Option, unwrap_or, find}
use borrow.Author.Tests.{tests}
use Rattle.std.proofs.lemmas.Iterator.{YieldsList-from_slice}
use Rattle.std.proofs.lemmas.Iterator.Adapters.{option_map_id}
use Rattle.std.proofs.lemmas.Iterator.Consumers.{YieldsList-from_copied}
use Rattle.std.proofs.lemmas.Iterator.Search.{find_from_yields_List}
use Rattle.lane_picture.specs.Drawing.{steps}
use Rattle.lane_picture.proofs.heading.step.Goals as goal

pub returns : goal.returns
returns c =
    let test = λ (s : ℕ). leb c.args.turns (10 * s) in
    let found : c.find.result ≡ find test steps =
    sym (option_map_id _) ∙ find_from_yields_List test _ _ c.find.result c.find.ensures.ran (YieldsList-from_copied (YieldsList-from_slice steps cc)) (λ x b q k. search (rules, tests)) in
    c.unwrap_or.ensures ∙ ap (λ (o : Option ℕ). unwrap_or o 500000000) found
