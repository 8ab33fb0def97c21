-- The run of one arrival time: its outcome, and its comparison with those before.
use Rattle.std.proofs.Common.{◌≡◌, ◌∙◌, ℕ, ◌+◌, ◌-◌, ◌≤◌, Bool, true, false, cond, not, codes, sym, ap, arith}
use Rattle.std.specs.Prelude.{◌&&◌, ◌||◌, nat_lt}
use Rattle.arrayvec.specs.ArrayString.{ArrayString}
use Rattle.board_model.specs.Laid.{may_be_laid}
use Rattle.board_model.specs.Script.{Scenario}
use Rattle.sweep_core.specs.declared.comparing.Compared.{Compared}
use Rattle.sweep_core.specs.declared.told.Told.{Told}
use Rattle.sweep_core.specs.Comparing.{Comparison, compared_of, compared_times, nothing_compared, with_outcome, with_time}
use Rattle.sweep_core.specs.Outcomes.{outcome}
use Rattle.sweep_core.specs.Swept.{Asking, arrival_run, base_run, is_late_at, is_worse, makes_difference, outcome_at}
use Rattle.sweep_core.specs.Sweeping.{IsLooked}
use Rattle.sweep_core.specs.Told.{IsTold, is_worse_told}
use Rattle.sweep_core.proofs.Differences.{makes_is, none_compared_yet, one_compared}

-- not all of the arrival comes within the bound
pub late_looked : (x : Scenario) (a : Asking) (time : ℕ) (base : Told) (c : Compared) (o : ArrayString) → is_late_at a time ≡ true → o.bytes ≡ codes "late" → IsLooked x a time base c c o
late_looked x a time base c o late is = record {
  words = is ∙ sym (ap (λ (b : Bool). cond b (codes "late") (cond (may_be_laid x.script a.arrival time) (outcome a.mem (arrival_run x a time)) (codes "full"))) late);
  compared = λ told. sym (ap (λ (b : Bool). cond (not b && may_be_laid x.script a.arrival time) (with_outcome (compared_of c) (is_worse (base_run x a) (arrival_run x a time)) (outcome_at x a time)) (compared_of c)) late);
}

-- with no script
pub not_looked : (x : Scenario) (a : Asking) (time : ℕ) (base : Told) (c : Compared) (o : ArrayString) → is_late_at a time ≡ false → may_be_laid x.script a.arrival time ≡ false →
    o.bytes ≡ codes "full" → IsLooked x a time base c c o
not_looked x a time base c o early none is = record {
  words = is ∙ sym (λ i. cond (early i) (codes "late") (cond (none i) (outcome a.mem (arrival_run x a time)) (codes "full")));
  compared = λ told. sym (λ i. cond (not (early i) && none i) (with_outcome (compared_of c) (is_worse (base_run x a) (arrival_run x a time)) (outcome_at x a time)) (compared_of c));
}

worse_so : (x : Scenario) (a : Asking) (time : ℕ) (base t : Told) → IsTold a.mem (base_run x a) base → IsTold a.mem (arrival_run x a time) t → is_worse_told base t ≡ is_worse (base_run x a) (arrival_run x a time)
worse_so x a time base t b h = λ i. nat_lt (b.faults i) (h.faults i) || (h.by_supervisor i && not (b.by_supervisor i))

pub looked : (x : Scenario) (a : Asking) (time : ℕ) (base t : Told) (old new : Compared) → is_late_at a time ≡ false → may_be_laid x.script a.arrival time ≡ true → IsTold a.mem (arrival_run x a time) t →
    compared_of new ≡ with_outcome (compared_of old) (is_worse_told base t) t.words.bytes → IsLooked x a time base old new t.words
looked x a time base t old new early made h added =
    let words : t.words.bytes ≡ outcome_at x a time = h.words ∙ sym (λ i. cond (early i) (codes "late") (cond (made i) (outcome a.mem (arrival_run x a time)) (codes "full"))) in
    record {
      words = words;
      compared = λ told.
          added
          ∙ (λ i. with_outcome (compared_of old) (worse_so x a time base t told h i) (words i))
          ∙ sym (λ i. cond (not (early i) && made i) (with_outcome (compared_of old) (is_worse (base_run x a) (arrival_run x a time)) (outcome_at x a time)) (compared_of old));
    }

-- ---- those up to an arrival time

pub compared_first : (x : Scenario) (a : Asking) (c : Comparison) → c ≡ nothing_compared → c ≡ compared_times x a (a.from - a.from)
compared_first x a c is =
    let none : a.from - a.from ≡ 0 = omega arith in
    is ∙ sym (none_compared_yet x a) ∙ ap (compared_times x a) (sym none)

pub compared_next : (x : Scenario) (a : Asking) (c c' : Comparison) (time : ℕ) → a.from ≤ time → c ≡ compared_times x a (time - a.from) → c' ≡ with_time x a c time → c' ≡ compared_times x a (time + 1 - a.from)
compared_next x a c c' time le is next =
    let n : ℕ = time - a.from in
    let more : time + 1 - a.from ≡ n + 1 = omega arith in
    let there : a.from + n ≡ time = omega arith in
    next ∙ (λ i. with_time x a (is i) (sym there i)) ∙ sym (one_compared x a n) ∙ ap (compared_times x a) (sym more)

-- all of them
pub found_is : (x : Scenario) (a : Asking) (c : Comparison) (n : ℕ) → c ≡ compared_times x a n → n ≡ a.to - a.from → c.found ≡ makes_difference x a
found_is x a c n is all = ap (λ (k : Comparison). k.found) is ∙ makes_is x a n all
