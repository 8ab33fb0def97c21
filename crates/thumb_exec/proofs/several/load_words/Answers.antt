use Rattle.std.proofs.Common.{◌∙◌, sym, ap}
use Rattle.region_check.specs.declared.Right.TheVariants as rights
use Rattle.thumb_exec.specs.Effect.{loaded_all}
use Rattle.thumb_exec.proofs.Lowest.{transfers_none}
use Rattle.thumb_exec.proofs.Transfers.{aligned_on, allowed_first, allowed_rest, loaded_rest, loaded_none}
use Rattle.thumb_exec.proofs.several.load_words.Goals as goal

pub load_word-requires-clause-allowed : goal.load_word-requires-clause-allowed
load_word-requires-clause-allowed g c = allowed_first (g.B.Bus.refuses c.args.bus.now) rights.Read c.split_lowest-k.result.0 c.loop-rest.at _ _ (c.split_lowest-k.ensures.first c.loop-rest.at) c.loop-rest.invariant.allowed

pub loop-rest-preserved : goal.loop-rest-preserved
loop-rest-preserved g c = rw (c.set.ensures, c.load_word.ensures) record {
  aligned = aligned_on c.loop-rest.at c.loop-rest.invariant.aligned;
  allowed = allowed_rest (g.B.Bus.refuses c.args.bus.now) rights.Read c.split_lowest-k.result.0 c.loop-rest.at _ _ (c.split_lowest-k.ensures.first c.loop-rest.at) c.loop-rest.invariant.allowed;
  rest = sym (loaded_rest (g.B.Bus.holds c.args.bus.now) c.loop-rest.regs c.split_lowest-k.result.0 c.loop-rest.at _ _ (c.split_lowest-k.ensures.first c.loop-rest.at)) ∙ c.loop-rest.invariant.rest;
}

pub returns : goal.returns
returns g c = sym (ap (loaded_all (g.B.Bus.holds c.args.bus.now) c.loop-rest.regs) (transfers_none c.loop-rest.rest c.loop-rest.at c.loop-rest-test.false) ∙ loaded_none (g.B.Bus.holds c.args.bus.now) c.loop-rest.regs) ∙ c.loop-rest.invariant.rest
