use Rattle.std.proofs.Common.{◌≡◌, ◌∙◌, ◌+◌, ◌++◌, ◌∷◌, [], zero, suc, ℕ, List, Option, None, refl, ap, arith, length}
use Rattle.std.proofs.lemmas.List.{length_push}
use Rattle.task_table.specs.kept.Entries.{kept_at}
use Rattle.task_table.specs.declared.entry.KeptEntry.{KeptEntry}
use Rattle.task_table.proofs.entry.no_entries.Goals as goal

-- adding None to a list that has only None
none_pushed : (xs : List (Option KeptEntry)) → ((i : ℕ) → kept_at xs i ≡ None) → (i : ℕ) → kept_at (xs ++ None ∷ []) i ≡ None
none_pushed [] none zero = refl
none_pushed [] none (suc i) = refl
none_pushed (x ∷ xs) none zero = none 0
none_pushed (x ∷ xs) none (suc i) = none_pushed xs (λ j. none (suc j)) i

pub loop-init : goal.loop-init
loop-init c = record { count = ap length c.new-entries.ensures.items; none = λ i. ap (λ (es : List (Option KeptEntry)). kept_at es i) c.new-entries.ensures.items }

pub loop-preserved : goal.loop-preserved
loop-preserved c =
    let pushed = c.in_ok-push.ensures.items in
    let so_far = c.loop.invariant in
    record {
      count = ap length pushed ∙ length_push c.loop.entries.items None ∙ ap (λ n. n + 1) so_far.count;
      none = λ i. ap (λ (es : List (Option KeptEntry)). kept_at es i) pushed ∙ none_pushed c.loop.entries.items so_far.none i;
    }

pub returns-clause-count : goal.returns-clause-count
returns-clause-count c = omega (arith, c.loop.invariant.count, c.loop-test.false, c.loop.auto.counter-end)

pub returns-clause-none : goal.returns-clause-none
returns-clause-none c = c.loop.invariant.none
