use Rattle.std.proofs.Common.{ap, ◌∙◌, ℕ, ◌/◌, ◌%◌}
use Rattle.insn_vectors.proofs.Stored.{stored_more, rest_more}
use Rattle.insn_vectors.proofs.memory.MemoryBus.store.Goals as goal

pub loop-k-preserved : goal.loop-k-preserved
loop-k-preserved c = record {
  rest = ap (λ (i : ℕ). i / 256) c.loop-k.invariant.rest ∙ rest_more c.args.value c.loop-k.k;
  done = stored_more c.args.self.now.ram.items c.loop-k.self.ram.items c.put.new.self.ram.items c.args.addr c.loop-k.k c.args.value (c.loop-k.rest % 256) c.loop-k.invariant.done c.loop-k.invariant.size (ap (λ (i : ℕ). i % 256) c.loop-k.invariant.rest) c.put.ensures.put;
  size = c.put.ensures.size ∙ c.loop-k.invariant.size;
  flash = c.put.ensures.flash ∙ c.loop-k.invariant.flash;
  regions = c.put.ensures.regions ∙ c.loop-k.invariant.regions;
}
