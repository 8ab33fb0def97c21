use Rattle.std.proofs.Common.{◌≡◌, ◌<◌, ◌+◌, ◌*◌, ◌∙◌, ℕ, false, subst, sym, arith}
use Rattle.run_cover.specs.Text.{is_taken_up}
use Rattle.run_cover.specs.Covered.{covered}
use Rattle.run_cover.proofs.Resting.{rest_is, none_more}
use Rattle.run_cover.proofs.listing.rest_len.Goals as goal

pub loop-i-init : goal.loop-i-init
loop-i-init g c = λ x s st j lt. absurd (omega (arith, lt))

pub loop-i-preserved : goal.loop-i-preserved
loop-i-preserved g c = λ x s st. none_more (covered s.memory c.args.cover.now) c.args.addr c.loop-i.i (c.loop-i.invariant x s st) (sym (c.is_taken_up.ensures x s st) ∙ c.if-is_taken_up.false)

pub returns-then-is_taken_up-clause-len : goal.returns-then-is_taken_up-clause-len
returns-then-is_taken_up-clause-len g c = λ x s st.
    rest_is (covered s.memory c.args.cover.now) c.args.addr c.args.most c.loop-i.i (omega (arith, c.loop-i-test.true)) (c.loop-i.invariant x s st) (λ lt. sym (c.is_taken_up.ensures x s st) ∙ c.if-is_taken_up.true)

pub returns-clause-len : goal.returns-clause-len
returns-clause-len g c = λ x s st.
    let all : c.loop-i.i ≡ c.args.most = omega (arith, c.loop-i.auto.i-end, c.loop-i-test.false) in
    let v = covered s.memory c.args.cover.now in
    rest_is v c.args.addr c.args.most c.args.most (omega arith)
    (subst (λ (n : ℕ). (j : ℕ) → j < n → is_taken_up v (c.args.addr + 2 * j) ≡ false) all (c.loop-i.invariant x s st))
    (λ lt. absurd (omega (arith, lt)))
