use Rattle.std.proofs.Common.{◌≡◌, ◌+◌, ◌-◌}
use Rattle.insn_vectors.specs.Flat.{first_bad}
use Rattle.insn_vectors.proofs.memory.first_bad.Given as goal

abbrev pub invariant-loop-k : goal.invariant-loop-k
invariant-loop-k l = first_bad l.regions (l.a + l.k) (l.n - l.k) l.right ≡ first_bad l.regions l.a l.n l.right
