use Rattle.std.proofs.Common.{◌≡◌, ◌∙◌, ℕ, refl, subst, add-one, arith}
use Rattle.board_core.specs.Data.{boxed}
use Rattle.board_core.specs.Stands.{Holds}
use Rattle.snapshot.specs.Loaded.{with_lines}
use Rattle.snapshot.proofs.loading.set_lines.Goals as goal

pub loop-k-init : goal.loop-k-init
unfolding with_lines
loop-k-init g c = record { holds = λ x s h. h; count = refl }

pub loop-k-preserved : goal.loop-k-preserved
unfolding with_lines
loop-k-preserved g c = record {
  holds = λ x s h. rw add-one (c.set_irq_line.ensures.holds x _ (c.loop-k.invariant.holds x s h));
  count = c.set_irq_line.ensures.count ∙ c.loop-k.invariant.count;
}

pub returns-clause-holds : goal.returns-clause-holds
returns-clause-holds g c =
    let shown = boxed (λ p. (goal.Device-dyn g p).shown p.1) in
    let last : c.loop-k.k ≡ 64 = omega arith in
    λ x s h.
    let P : ℕ → Type 0 = λ n. Holds shown x c.loop-k.board record s { lines = with_lines c.args.bytes.now n s.lines } in
    subst P last (c.loop-k.invariant.holds x s h)

pub returns-clause-count : goal.returns-clause-count
returns-clause-count g c = c.loop-k.invariant.count
