use Rattle.std.proofs.Common.{◌∙◌, ◌≤◌, ℕ, List, refl, subst, sym}
use Rattle.std.specs.List.{All}
use Rattle.app_toml.specs.Held.{app_of}
use Rattle.image_build.proofs.Planning.{all_flash}
use Rattle.image_build.proofs.layout.flash_plan.Goals as goal

pub planned-requires-clause-sizes : goal.planned-requires-clause-sizes
planned-requires-clause-sizes c =
    subst (λ (xs : List ℕ). All (λ s. (1 ≤ s) × (s ≤ 1048576)) xs) (sym (c.as_slice.ensures.value ∙ c.in_ok-sizes.ensures)) (all_flash (app_of c.args.app.now) c.facts.ensures)

pub planned-requires-clause-whole : goal.planned-requires-clause-whole
planned-requires-clause-whole c = (128, refl)
