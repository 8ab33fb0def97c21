use Rattle.std.proofs.Common.{◌∙◌, List, length, map, None, ap, arith}
use Rattle.std.proofs.lemmas.List.{take_all}
use Rattle.run_question.specs.declared.question.Stated.{Stated}
use Rattle.explore_core.specs.Watching.{judged, unjudged}
use Rattle.explore_core.specs.declared.watch.Watched.{Watched}
use Rattle.explore_core.proofs.Watched.{made_more, long_more}
use Rattle.explore_core.proofs.watch.Watch.open.Goals as goal

pub loop-one-preserved : goal.loop-one-preserved
loop-one-preserved c = record {
  made = ap (λ (l : List Watched). map judged l) c.in_ok-push.ensures.items ∙ made_more c.args.stated.now c.loop-one.properties.items c.loop-one.one-index c.one-item.result None c.loop-one-test.true c.one-item.is c.loop-one.invariant.made;
  long = ap (λ (l : List Watched). length l) c.in_ok-push.ensures.items ∙ long_more c.loop-one.properties.items _ c.loop-one.one-index c.loop-one.invariant.long;
}

pub invariant_of-result : goal.invariant_of-result
invariant_of-result c = record { few = omega (arith, c.loop-one.invariant.long, c.loop-one.auto.one-index-end, c.requires) }

pub returns : goal.returns
returns c = c.loop-one.invariant.made ∙ ap (λ l. map (λ (p : Stated). unjudged p.property) l) (take_all c.loop-one.one-index c.args.stated.now c.loop-one-test.false)
