-- The owner of an interrupt line, looked for in the order of the image.
use Rattle.std.proofs.Common.{◌≡◌, ◌∙◌, ℕ, suc, ◌+◌, ◌<◌, eqb, Bool, true, false, cond, List, length, drop, get_or, map, Option, Some, arith, ap, drop-cons}
use Rattle.std.specs.Prelude.{find}
use Rattle.task_table.specs.declared.start.LineStart.{LineStart}
use Rattle.task_table.specs.kept.Parts.{line_setup}
use Rattle.task_table.specs.model.State.{LineSetup}

abbrev pub owner_in : ℕ → List LineStart → Option LineSetup
owner_in line owners = find (λ (l : LineSetup). eqb l.line line) (map line_setup owners)

module _ (line i : ℕ) (owners : List LineStart) (d : LineStart) (lt : i < length owners) where
  step : (b : Bool) → eqb (get_or owners i d).line line ≡ b → owner_in line (drop i owners) ≡ cond b (Some (line_setup (get_or owners i d))) (owner_in line (drop (suc i) owners))
  step b e = ap (owner_in line) (drop-cons owners i d lt) ∙ ap (λ (c : Bool). cond c (Some (line_setup (get_or owners i d))) (owner_in line (drop (suc i) owners))) e

  pub another : eqb (get_or owners i d).line line ≡ false → owner_in line (drop i owners) ≡ owner_in line (drop (i + 1) owners)
  another e = let next : suc i ≡ i + 1 = omega arith in step false e ∙ ap (λ n. owner_in line (drop n owners)) next

  pub its_owner : eqb (get_or owners i d).line line ≡ true → owner_in line (drop i owners) ≡ Some (line_setup (get_or owners i d))
  its_owner e = step true e
