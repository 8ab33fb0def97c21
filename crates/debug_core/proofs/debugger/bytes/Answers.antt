use Rattle.std.proofs.Common.{◌≡◌, ◌+◌, sym, subst, arith}
use Rattle.debug_core.proofs.Bytes.{AreRead, all_read, none_read, one_read}
use Rattle.debug_core.proofs.debugger.bytes.Goals as goal

pub loop-k-preserved : goal.loop-k-preserved
loop-k-preserved boxes c = record {
  count = omega (arith, c.push.ensures.len, c.loop-k.invariant.count);
  read = λ x s st.
      let k = c.loop-k.k in
      subst (AreRead s.memory c.args.at (k + 1)) (sym c.push.ensures.items)
      (one_read s.memory c.args.at k c.in-Some.byte c.loop-k.bytes.items (c.loop-k.invariant.read x s st) (c.in-Some.ensures x s st));
}

pub returns-in-None : goal.returns-in-None
returns-in-None boxes c = λ x s st. none_read s.memory c.args.at c.args.len c.loop-k.k c.loop-k-test.true (c.in-None.ensures x s st)

pub returns : goal.returns
returns boxes c = λ x s st.
    let last : c.loop-k.k ≡ c.args.len = omega (arith, c.loop-k.auto.k-end, c.loop-k-test.false) in
    all_read s.memory c.args.at c.args.len c.loop-k.bytes.items (subst (λ n. AreRead s.memory c.args.at n c.loop-k.bytes.items) last (c.loop-k.invariant.read x s st))
