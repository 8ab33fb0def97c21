use Rattle.std.proofs.Common.{◌≡◌, drop}
use Rattle.insn_vectors.specs.Flat.{with_bytes}
use Rattle.insn_vectors.specs.Played.{banks_of}
use Rattle.insn_vectors.proofs.memory.Memory.fill_all.Given as goal

abbrev pub invariant-loop-pair : goal.invariant-loop-pair
invariant-loop-pair l = record {
  banks : with_bytes (banks_of l.self) (drop l.pair-index l.bytes) ≡ with_bytes (banks_of l.fn.self) l.bytes;
  regions : l.self.regions ≡ l.fn.self.regions;
}
