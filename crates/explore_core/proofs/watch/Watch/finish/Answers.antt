use Rattle.std.proofs.Common.{◌∙◌, ◌≡◌, List, length, map, ap, subst, sym, arith}
use Rattle.std.specs.List.{All}
use Rattle.std.proofs.lemmas.List.{with_items_is}
use Rattle.explore_core.specs.declared.watch.Watched.{Watched}
use Rattle.explore_core.specs.There.{AreThere}
use Rattle.explore_core.specs.Watching.{finished_in, judged}
use Rattle.explore_core.proofs.Watched.{finished_as, there_in}
use Rattle.explore_core.proofs.watch.Watch.finish.Goals as goal

pub returns : goal.returns
returns g c = λ x s st all.
    let items = c.args.self.now.properties.items in
    let value = c.as_mut_slice.ensures.value in
    let new = c.judge_end.new.watched in
    let there = subst (λ (l : List Watched). All (λ (w : Watched). AreThere w.property s) l) (sym value) (there_in s items all) in
    let is : new ≡ map (finished_in c.args.end s) items = c.judge_end.ensures x s st there ∙ ap (λ (l : List Watched). map (finished_in c.args.end s) l) value in
    let long : length new ≡ c.args.self.now.properties.len = omega (arith, c.judge_end.auto.watched, c.as_mut_slice.ensures.len) in
    ap (λ (l : List Watched). map judged l) (with_items_is c.args.self.now.properties new long ∙ is) ∙ finished_as c.args.end s items
