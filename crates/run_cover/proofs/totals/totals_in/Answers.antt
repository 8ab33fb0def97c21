use Rattle.std.proofs.Common.{◌≡◌, ◌+◌, ◌*◌, ◌^◌, ◌∙◌, ℕ, sym, subst, arith}
use Rattle.run_cover.specs.declared.totals.Totals.{Totals}
use Rattle.run_cover.specs.Covered.{covered}
use Rattle.run_cover.specs.Totals.{AreAtMost, added, no_totals, totals_at, totals_in}
use Rattle.run_cover.proofs.Adding.{fold_range, wider, most_added}
use Rattle.run_cover.proofs.totals.totals_in.Goals as goal

pub loop-j-init : goal.loop-j-init
unfolding totals_in
loop-j-init g c = record { is = λ x s st. c.none-totals.ensures.is; few = c.none-totals.ensures.few }

pub added-totals-requires-clause-mine : goal.added-totals-requires-clause-mine
added-totals-requires-clause-mine g c = wider (2 * c.loop-j.j) (2 ^ 62) _ (omega (arith, c.loop-j-test.true)) c.loop-j.invariant.few

pub added-totals-requires-clause-theirs : goal.added-totals-requires-clause-theirs
added-totals-requires-clause-theirs g c = wider 2 (2 ^ 62) _ (omega arith) c.totals_at.ensures.few

pub loop-j-preserved : goal.loop-j-preserved
unfolding totals_in
loop-j-preserved g c = record {
  is = λ x s st.
      let v = covered s.memory c.args.cover.now in
      let j = c.loop-j.j in
      c.added-totals.ensures ∙ (λ i. added (c.loop-j.invariant.is x s st i) (c.totals_at.ensures.is x s st i))
      ∙ sym (fold_range (λ (t : Totals) (i : ℕ). added t (totals_at v (c.args.base + 2 * i))) no_totals j);
  few = subst (λ (t : Totals). AreAtMost (2 * (c.loop-j.j + 1)) t) (sym c.added-totals.ensures) (most_added (2 * c.loop-j.j) 2 _ _ _ (omega arith) c.loop-j.invariant.few c.totals_at.ensures.few);
}

pub returns-clause-is : goal.returns-clause-is
returns-clause-is g c = λ x s st.
    let all : c.loop-j.j ≡ c.args.count = omega (arith, c.loop-j.auto.j-end, c.loop-j-test.false) in
    subst (λ (n : ℕ). c.loop-j.totals ≡ totals_in (covered s.memory c.args.cover.now) c.args.base n) all (c.loop-j.invariant.is x s st)

pub returns-clause-few : goal.returns-clause-few
returns-clause-few g c =
    let all : c.loop-j.j ≡ c.args.count = omega (arith, c.loop-j.auto.j-end, c.loop-j-test.false) in
    subst (λ (n : ℕ). AreAtMost (2 * n) c.loop-j.totals) all c.loop-j.invariant.few
