-- Whom the listing of an image names shares nothing.
use Rattle.std.proofs.Common.{◌≡◌, ◌≢◌, ◌<◌, ℕ, zero, suc, true, List, [], ◌∷◌, Contains, length, cond, get_or, refl, sym, subst, ◌∙◌, ap, arith, eq-eqb}
use Rattle.std.proofs.lemmas.Bool.{ne_eqb}
use Rattle.std.proofs.lemmas.List.{length-map}
use Rattle.std.proofs.Math.ListN.{get_or-map}
use Rattle.region_check.specs.declared.Region.{Region}
use Rattle.region_check.specs.Rights.{is_alone}
use Rattle.region_check.proofs.Sharing as sharing
use Rattle.image_format.specs.Facts.{Facts}
use Rattle.image_format.specs.Loners.{regions_by_task, own_regions, regions_beside, is_loner, loners}
use Rattle.image_format.specs.ImageData.{ImageData, ImageTask, no_task, regions_in}
use Rattle.image_format.proofs.Ranges.{all_of, kept_is}
use Rattle.task_table.specs.model.State.{TaskSetup}
use Rattle.task_table.specs.model.Reading.{setup_at}
use Rattle.board_model.specs.Loners.{IsLoner}
use Rattle.board_core.specs.Opened.{setup_of_image, setup_of_task}
use Rattle.board_core.proofs.Opens.{setup_is}

-- who has a region is there
there : (xs : List ImageTask) (j : ℕ) (q : Region) → Contains (get_or xs j no_task).regions q → j < length xs
there [] j q here = absurd (omega (arith, here.1))
there (x ∷ xs) zero q here = omega arith
there (x ∷ xs) (suc j) q here = let lt = there xs j q here in omega arith

module _ (p : ImageData) (i : ℕ) (facts : Facts p) (named : Contains (loners p) i) where
  abbrev tasks : List (List Region)
  tasks = regions_by_task p

  passes : (i < length p.tasks) × (is_loner tasks i ≡ true)
  passes = kept_is (is_loner tasks) (length p.tasks) i named

  own_is : (j : ℕ) → own_regions tasks j ≡ regions_in p j
  own_is j = get_or-map (λ (t : ImageTask). t.regions) p.tasks j no_task

  set_up : (j : ℕ) → (setup_at (setup_of_image p) j).regions ≡ regions_in p j
  set_up j = ap (λ (x : TaskSetup). x.regions) (setup_is p j)

  alone_beside : (j : ℕ) → j < length p.tasks → is_alone (own_regions tasks i) (regions_beside tasks i j) ≡ true
  alone_beside j lt = all_of (λ k. is_alone (own_regions tasks i) (regions_beside tasks i k)) (length tasks) j passes.1 (subst (λ n. j < n) (sym (length-map p.tasks (λ (t : ImageTask). t.regions))) lt)

  alone_itself : is_alone (regions_in p i) [] ≡ true
  alone_itself = ap (λ rs. is_alone rs []) (sym (own_is i)) ∙ ap (λ b. is_alone (own_regions tasks i) (cond b [] (own_regions tasks i))) (sym (eq-eqb i i refl)) ∙ alone_beside i passes.0

  alone_other : (j : ℕ) → j ≢ i → j < length p.tasks → is_alone (regions_in p i) (regions_in p j) ≡ true
  alone_other j other lt = ap (λ rs. is_alone rs (regions_in p j)) (sym (own_is i)) ∙ ap (is_alone (own_regions tasks i)) (sym (own_is j)) ∙ ap (λ b. is_alone (own_regions tasks i) (cond b [] (own_regions tasks j))) (sym (ne_eqb j i other)) ∙ alone_beside j lt

  pub listed_loner : IsLoner (setup_of_image p) i
  listed_loner = record {
    there = subst (λ n. i < n) (sym (length-map p.tasks setup_of_task)) passes.0;
    no_device = λ r here. sharing.no_device (regions_in p i) [] alone_itself r (subst (λ rs. Contains rs r) (set_up i) here);
    apart = λ j other r q here yonder.
        let mine = subst (λ rs. Contains rs r) (set_up i) here in
        let others = subst (λ rs. Contains rs q) (set_up j) yonder in
        sharing.apart (regions_in p i) (regions_in p j) (alone_other j other (there p.tasks j q others)) r q mine others (facts.regions.apart i j r q mine others);
  }
