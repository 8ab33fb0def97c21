-- The text of a sweep: the line of the run without the arrival, and those of the arrival times.
use Rattle.std.proofs.Common.{◌≡◌, ◌∙◌, ℕ, ◌-◌, ◌≤◌, false, List, [], ◌++◌, Option, sym, ap, subst, arith}
use Rattle.std.specs.Prelude.{Result}
use Rattle.std.specs.Io.KnownBytes.{Appends}
use Rattle.std.proofs.lemmas.List.{append-nil}
use Rattle.outside_io.specs.Outside.{AppendsFront, Pushes}
use Rattle.outside_io.proofs.Pushing.{front_wider, pushes_more}
use Rattle.board_model.specs.Script.{Scenario}
use Rattle.sweep_core.specs.Comparing.{Comparison}
use Rattle.sweep_core.specs.Outcomes.{outcome}
use Rattle.sweep_core.specs.Swept.{Asking, base_line, base_run, lines, makes_difference, outcome_at, sweep_text, times_text}
use Rattle.sweep_core.proofs.Differences.{makes_is, none_compared_yet}

module _ (x : Scenario) (a : Asking) (base : List ℕ) (is : base ≡ outcome a.mem (base_run x a)) where
  whole : base_line base ++ times_text x a ≡ sweep_text x a
  unfolding sweep_text
  whole = ap (λ (b : List ℕ). base_line b ++ times_text x a) is

  -- the push of the first line fails
  pub base_failed : (w w' : Option (List ℕ)) → AppendsFront w w' (base_line base) → AppendsFront w w' (sweep_text x a)
  base_failed w w' failed = subst (λ (t : List ℕ). AppendsFront w w' t) whole (front_wider w w' (base_line base) (times_text x a) failed)

  -- no arrival time is asked for
  pub only_base : (w w' : Option (List ℕ)) → a.to ≤ a.from → Appends w w' (base_line base) → Appends w w' (sweep_text x a)
  only_base w w' le pushed =
      let none : a.to - a.from ≡ 0 = omega (arith, le) in
      let nothing : times_text x a ≡ [] = ap (λ n. lines (outcome_at x a) (outcome a.mem (base_run x a)) a.from n) none in
      subst (λ (t : List ℕ). Appends w w' t) (sym (append-nil (base_line base)) ∙ ap (λ (l : List ℕ). base_line base ++ l) (sym nothing) ∙ whole) pushed

  pub then_times : {T E : Type 0} (w w' w'' : Option (List ℕ)) (r : Result T E) → Appends w w' (base_line base) → Pushes w' w'' (times_text x a) r → Pushes w w'' (sweep_text x a) r
  then_times w w' w'' r first rest = subst (λ (t : List ℕ). Pushes w w'' t r) whole (pushes_more w w' w'' (base_line base) (times_text x a) r first rest)

-- the lines of the arrival times, beside a run without the arrival that was told
module _ (x : Scenario) (a : Asking) (base : List ℕ) (w w' : Option (List ℕ)) (is : base ≡ outcome a.mem (base_run x a)) where
  pub times_failed : AppendsFront w w' (lines (outcome_at x a) base a.from (a.to - a.from)) → AppendsFront w w' (times_text x a)
  times_failed failed = subst (λ (b : List ℕ). AppendsFront w w' (lines (outcome_at x a) b a.from (a.to - a.from))) is failed

  pub times_done : Appends w w' (lines (outcome_at x a) base a.from (a.to - a.from)) → Appends w w' (times_text x a)
  times_done done = subst (λ (b : List ℕ). Appends w w' (lines (outcome_at x a) b a.from (a.to - a.from))) is done

pub none_differs : (x : Scenario) (a : Asking) → a.to ≤ a.from → false ≡ makes_difference x a
none_differs x a le =
    let none : 0 ≡ a.to - a.from = omega (arith, le) in
    sym (ap (λ (c : Comparison). c.found) (none_compared_yet x a)) ∙ makes_is x a 0 none
