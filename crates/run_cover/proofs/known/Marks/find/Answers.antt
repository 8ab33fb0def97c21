use Rattle.std.proofs.Common.{◌∙◌, arith}
use Rattle.run_cover.specs.Counted.{count_of}
use Rattle.run_cover.proofs.Marking.{same_known}
use Rattle.run_cover.proofs.Knowing.{begin, go_on, arrive}
use Rattle.run_cover.proofs.known.Marks.find.Goals as goal

pub loop-addr-init : goal.loop-addr-init
loop-addr-init g c = record { marks = c.enter_all.ensures.marks; known = λ x s st. begin x.setup s.memory (count_of c.args.counts.now) _ _ c.begin_all.ensures (c.enter_all.ensures.entered x s st) }

pub loop-addr-preserved : goal.loop-addr-preserved
loop-addr-preserved g c = record {
  marks = c.follow.ensures.marks;
  known = λ x s st. go_on x.setup s.memory (count_of c.args.counts.now) _ _ _ c.in-Some.addr (c.loop-addr.invariant.known x s st) c.in-Some.ensures (c.follow.ensures.followed x s st);
}

pub follow-requires-clause-known : goal.follow-requires-clause-known
follow-requires-clause-known g c = same_known _ _ c.in-Some.addr c.in-Some.ensures.known ∙ c.in-Some.ensures.place

pub loop-addr-smaller : goal.loop-addr-smaller
loop-addr-smaller g c =
    let one = c.in-Some.ensures.less in
    let more = c.follow.ensures.less in
    omega (arith, one, more)

pub returns : goal.returns
returns g c = λ x s st. arrive x.setup s.memory (count_of c.args.counts.now) _ _ (c.loop-addr.invariant.known x s st) c.in_default.ensures
