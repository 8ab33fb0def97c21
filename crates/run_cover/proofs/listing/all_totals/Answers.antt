use Rattle.std.proofs.Common.{◌≡◌, ◌+◌, ◌*◌, ◌^◌, ◌∙◌, ℕ, sym, subst, arith}
use Rattle.run_cover.specs.declared.totals.Totals.{Totals}
use Rattle.run_cover.specs.Covered.{covered}
use Rattle.run_cover.specs.Text.{all_totals, base_totals}
use Rattle.run_cover.specs.Totals.{AreAtMost, added, no_totals}
use Rattle.run_cover.proofs.Adding.{fold_range, wider, most_added}
use Rattle.run_cover.proofs.listing.all_totals.Goals as goal

pub loop-i-init : goal.loop-i-init
unfolding all_totals
loop-i-init g c = record { is = λ x s st. c.none-totals.ensures.is; few = c.none-totals.ensures.few }

pub added-totals-requires-clause-mine : goal.added-totals-requires-clause-mine
added-totals-requires-clause-mine g c = wider (1048576 * c.loop-i.i) (2 ^ 62) _ (omega (arith, c.loop-i-test.true)) c.loop-i.invariant.few

pub added-totals-requires-clause-theirs : goal.added-totals-requires-clause-theirs
added-totals-requires-clause-theirs g c = wider 1048576 (2 ^ 62) _ (omega arith) c.base_totals.ensures.few

pub loop-i-preserved : goal.loop-i-preserved
unfolding all_totals
loop-i-preserved g c = record {
  is = λ x s st.
      c.added-totals.ensures ∙ (λ i. added (c.loop-i.invariant.is x s st i) (c.base_totals.ensures.is x s st i))
      ∙ sym (fold_range (λ (t : Totals) (i : ℕ). added t (base_totals x.setup (covered s.memory c.args.cover.now) i)) no_totals c.loop-i.i);
  few = subst (λ (t : Totals). AreAtMost (1048576 * (c.loop-i.i + 1)) t) (sym c.added-totals.ensures) (most_added (1048576 * c.loop-i.i) 1048576 _ _ _ (omega arith) c.loop-i.invariant.few c.base_totals.ensures.few);
}

pub returns : goal.returns
returns g c = λ x s st.
    let all : c.loop-i.i ≡ 5120 = omega (arith, c.loop-i.auto.i-end, c.loop-i-test.false) in
    subst (λ (n : ℕ). c.loop-i.totals ≡ all_totals x.setup (covered s.memory c.args.cover.now) n) all (c.loop-i.invariant.is x s st)
