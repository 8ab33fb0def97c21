use Rattle.std.proofs.Common.{◌≡◌, ◌∙◌, ◌+◌, ◌-◌, ◌*◌, ◌<◌, ℕ, suc, false, arith, refl, sym, subst, nat_le}
use Rattle.std.proofs.lemmas.Bool.Decides.{nat_tests}
use Rattle.mem_plan.specs.Sizes.{doubled}
use Rattle.mem_plan.proofs.sizes.rounded.Goals as goal

not_yet : (p size : ℕ) → p < size → nat_le size p ≡ false
not_yet p size h = grind (arith, nat_tests)

doubled_step : (j k p q size v : ℕ) → j ≡ suc k → q ≡ 2 * p → p < size → doubled j p size ≡ v → doubled k q size ≡ v
doubled_step j k p q size v is twice below e =
    let f : doubled (suc k) p size ≡ v = subst (λ (x : ℕ). doubled x p size ≡ v) is e in
    rw (twice) (sym (rw (not_yet p size below) refl) ∙ f)

pub loop-i-preserved : goal.loop-i-preserved
loop-i-preserved c = doubled_step (12 - c.loop-i.i) (12 - (c.loop-i.i + 1)) c.loop-i.power (c.loop-i.power * 2) c.args.size _
    (omega (arith, c.loop-i-test.true)) (omega arith) (omega (arith, c.if-size-power.false)) c.loop-i.invariant
