use Rattle.std.proofs.Common.{◌∙◌, sym}
use Rattle.region_check.specs.declared.Right.TheVariants as rights
use Rattle.thumb_exec.proofs.Lowest.{transfers_none}
use Rattle.thumb_exec.proofs.Transfers.{aligned_on, allowed_first, allowed_rest, stores_rest, stores_none}
use Rattle.thumb_exec.proofs.several.store_words.Goals as goal

pub store_word-requires-clause-allowed : goal.store_word-requires-clause-allowed
store_word-requires-clause-allowed g c = c.loop-rest.invariant.kept _ _ _ ∙ allowed_first (g.B.Bus.refuses c.args.bus.now) rights.Write c.split_lowest-k.result.0 c.loop-rest.at _ _ (c.split_lowest-k.ensures.first c.loop-rest.at) c.loop-rest.invariant.allowed

pub loop-rest-preserved : goal.loop-rest-preserved
loop-rest-preserved g c = record {
  aligned = aligned_on c.loop-rest.at c.loop-rest.invariant.aligned;
  kept = λ a n r. c.store_word.ensures.kept a n r ∙ c.loop-rest.invariant.kept a n r;
  allowed = allowed_rest (g.B.Bus.refuses c.args.bus.now) rights.Write c.split_lowest-k.result.0 c.loop-rest.at _ _ (c.split_lowest-k.ensures.first c.loop-rest.at) c.loop-rest.invariant.allowed;
  rest = λ s more. c.loop-rest.invariant.rest s (stores_rest g.B.Bus.stored g.B.Bus.took c.args.regs.now c.split_lowest-k.result.0 c.loop-rest.at _ _ c.loop-rest.bus c.store_word.new.bus s (c.split_lowest-k.ensures.first c.loop-rest.at) (rw (sym c.get.ensures) c.store_word.ensures.done) more);
}

pub returns : goal.returns
returns g c = c.loop-rest.invariant.rest _ (stores_none g.B.Bus.stored g.B.Bus.took c.args.regs.now _ c.loop-rest.bus (transfers_none c.loop-rest.rest c.loop-rest.at c.loop-rest-test.false))
