use Rattle.std.proofs.Common.{◌≡◌, length}
use Rattle.kernel_tests.proofs.banks.fill.Given as goal

abbrev pub invariant-loop-k : goal.invariant-loop-k
invariant-loop-k l = length l.memory.bytes.ram ≡ 1280
