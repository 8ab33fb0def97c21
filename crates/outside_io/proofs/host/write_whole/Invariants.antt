use Rattle.std.proofs.Common.{◌≡◌, ◌++◌, List, ℕ, length}
use Rattle.std.specs.Io.KnownBytes.{Appends}
use Rattle.outside_io.proofs.host.write_whole.Given as goal

abbrev pub invariant-writes : goal.invariant-writes
invariant-writes g l = (front : List ℕ) × (l.bytes ≡ front ++ l.rest) × Appends (g.W.Write.contents l.fn.out) (g.W.Write.contents l.out) front

abbrev pub decreases-writes : goal.decreases-writes
decreases-writes g l = length l.rest
