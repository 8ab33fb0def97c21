use Rattle.std.proofs.Common.{◌≡◌, map, take, length}
use Rattle.run_question.specs.declared.question.Stated.{Stated}
use Rattle.explore_core.specs.Watching.{judged, unjudged}
use Rattle.explore_core.proofs.watch.Watch.open.Given as goal

abbrev pub invariant-loop-one : goal.invariant-loop-one
invariant-loop-one l = record {
  made : map judged l.properties.items ≡ map (λ (p : Stated). unjudged p.property) (take l.one-index l.stated);
  long : length l.properties.items ≡ l.one-index;
}
