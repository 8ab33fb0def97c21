-- Which arrival times are late.
use Rattle.std.proofs.Common.{◌≡◌, ◌∙◌, ℕ, ◌+◌, ◌<◌, ◌≤◌, Bool, true, false, List, take, length, ap}
use Rattle.std.specs.Prelude.{◌||◌, nat_le, slice_get, Option, Some}
use Rattle.std.proofs.lemmas.Bool.{le-leb, lt-leb}
use Rattle.std.proofs.lemmas.List.Folds.{list_any_at, list_any_more}
use Rattle.std.proofs.lemmas.Option.{get_or_from_slice_get}
use Rattle.run_script.specs.Scripts.{Listed}
use Rattle.sweep_core.specs.Swept.{is_late}

pub one_is_late : (arrival : List Listed) (time limit place : ℕ) (d : Listed) → place < length arrival → slice_get arrival place ≡ Some d → limit ≤ time + d.0 → is_late arrival time limit ≡ true
one_is_late arrival time limit place d lt is le =
    list_any_at (λ (e : Listed). nat_le limit (time + e.0)) arrival place d lt
    (ap (λ (e : Listed). nat_le limit (time + e.0)) (get_or_from_slice_get arrival place d d is) ∙ le-leb limit (time + d.0) le)

pub not_late_yet : (arrival : List Listed) (time limit place : ℕ) (d : Listed) → is_late (take place arrival) time limit ≡ false → place < length arrival → slice_get arrival place ≡ Some d → time + d.0 < limit →
    is_late (take (place + 1) arrival) time limit ≡ false
not_late_yet arrival time limit place d none lt is early =
    list_any_more (λ (e : Listed). nat_le limit (time + e.0)) arrival place d lt
    ∙ (λ i. none i || nat_le limit (time + (get_or_from_slice_get arrival place d d is i).0))
    ∙ lt-leb limit (time + d.0) early
