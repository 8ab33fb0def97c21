use Rattle.std.proofs.Common.{◌∙◌, List, ap}
use Rattle.std.specs.List.{list_any}
use Rattle.explore_core.specs.declared.watch.Watched.{Watched}
use Rattle.explore_core.specs.Watching.{is_open}
use Rattle.explore_core.proofs.Watched.{any_judged}
use Rattle.explore_core.proofs.watch.Watch.is_open.Goals as goal

pub returns : goal.returns
returns c = c.any_open.ensures ∙ ap (λ (l : List Watched). list_any (λ (w : Watched). is_open w.verdict) l) c.as_slice.ensures.value ∙ any_judged c.args.self.now.properties.items
