use Rattle.std.proofs.Common.{◌∙◌, sym, ap, arith, ◌<◌, subst}
use Rattle.thumb_exec.specs.Effect.{first_refused}
use Rattle.thumb_exec.proofs.Lowest.{transfers_none}
use Rattle.thumb_exec.proofs.Transfers.{aligned_on, refused_first, refused_rest, refused_none, given_all}
use Rattle.thumb_exec.proofs.several.refused.Goals as goal

pub returns-then-gives : goal.returns-then-gives
returns-then-gives g c = sym (given_all (g.B.Bus.refuses c.args.bus.now) c.args.right c.args.mask c.args.addr (omega arith) (λ i h. c.gives.ensures c.if-gives.true i (subst (λ n. i < n) (sym c.count_of.ensures.value) h)))

pub returns-in-Some : goal.returns-in-Some
returns-in-Some g c = sym (refused_first (g.B.Bus.refuses c.args.bus.now) c.args.right c.split_lowest-others.result.0 c.loop-rest.at c.in-Some.byte _ _ (c.split_lowest-others.ensures.first c.loop-rest.at) (sym c.allows.ensures ∙ c.in-Some.is)) ∙ c.loop-rest.invariant.rest

pub loop-rest-preserved : goal.loop-rest-preserved
loop-rest-preserved g c = record {
  aligned = aligned_on c.loop-rest.at c.loop-rest.invariant.aligned;
  rest = sym (refused_rest (g.B.Bus.refuses c.args.bus.now) c.args.right c.split_lowest-others.result.0 c.loop-rest.at _ _ (c.split_lowest-others.ensures.first c.loop-rest.at) (sym c.allows.ensures ∙ c.in_default.is)) ∙ c.loop-rest.invariant.rest;
}

pub returns : goal.returns
returns g c = sym (ap (first_refused (g.B.Bus.refuses c.args.bus.now) c.args.right) (transfers_none c.loop-rest.rest c.loop-rest.at c.loop-rest-test.false) ∙ refused_none (g.B.Bus.refuses c.args.bus.now) c.args.right) ∙ c.loop-rest.invariant.rest
