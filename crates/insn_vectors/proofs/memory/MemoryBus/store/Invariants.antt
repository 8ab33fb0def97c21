use Rattle.std.proofs.Common.{◌≡◌, ◌/◌, ◌^◌, length}
use Rattle.insn_vectors.specs.Flat.{IsStored}
use Rattle.insn_vectors.proofs.memory.MemoryBus.store.Given as goal

abbrev pub invariant-loop-k : goal.invariant-loop-k
invariant-loop-k l = record {
  rest : l.rest ≡ l.value / 256 ^ l.k;
  done : IsStored l.fn.self.ram.items l.addr l.k l.value l.self.ram.items;
  size : length l.self.ram.items ≡ length l.fn.self.ram.items;
  flash : l.self.flash ≡ l.fn.self.flash;
  regions : l.self.regions ≡ l.fn.self.regions;
}
