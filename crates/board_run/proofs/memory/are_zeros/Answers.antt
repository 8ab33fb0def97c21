use Rattle.std.proofs.Common.{◌≡◌, ◌∙◌, ◌-◌, ◌+◌, ℕ, suc, true, false, refl, sym, ap, arith}
use Rattle.std.proofs.lemmas.Bool.Decides.{nat_tests}
use Rattle.std.specs.List.{list_all, range_with_len}
use Rattle.board_run.specs.MemoryText.{are_zeros, is_zero}
use Rattle.board_run.proofs.MemoryLines.{range_true, range_false}
use Rattle.board_run.proofs.memory.are_zeros.Goals as goal

pub loop-k-init : goal.loop-k-init
unfolding are_zeros
loop-k-init boxes c = λ x s st. refl

pub returns-then-byte_at-ne0 : goal.returns-then-byte_at-ne0
returns-then-byte_at-ne0 boxes c = λ x s st.
    let k = c.loop-k.k in
    let is = c.byte_at.ensures x s st in
    let no : is_zero s.memory c.args.addr k ≡ false = rw (← is) (grind (arith, nat_tests, c.if-byte_at-ne0.true)) in
    let more : 16 - k ≡ suc (15 - k) = omega (arith, c.loop-k-test.true) in
    sym (range_false (is_zero s.memory c.args.addr) k (16 - k) (15 - k) more no) ∙ c.loop-k.invariant x s st

pub loop-k-preserved : goal.loop-k-preserved
loop-k-preserved boxes c = λ x s st.
    let k = c.loop-k.k in
    let is = c.byte_at.ensures x s st in
    let yes : is_zero s.memory c.args.addr k ≡ true = rw (← is) (grind (arith, nat_tests, c.if-byte_at-ne0.false)) in
    let left = 16 - (k + 1) in
    let more : 16 - k ≡ suc left = omega (arith, c.loop-k-test.true) in
    sym (range_true (is_zero s.memory c.args.addr) k (16 - k) left more yes) ∙ c.loop-k.invariant x s st

pub returns : goal.returns
returns boxes c = λ x s st.
    let k = c.loop-k.k in
    let none : 16 - k ≡ 0 = omega (arith, c.loop-k-test.false) in
    sym (ap (λ (n : ℕ). list_all (is_zero s.memory c.args.addr) (range_with_len k n)) none) ∙ c.loop-k.invariant x s st
