use Rattle.std.proofs.Common.{◌∙◌}
use Rattle.std.specs.BTreeMap.{get_by_text}
use Rattle.app_toml.proofs.Gathered.{kept_is}
use Rattle.app_toml.proofs.known.is_kept.Goals as goal

pub returns : goal.returns
returns c = λ tasks keeps.
    c.contains_key.ensures ∙ kept_is (get_by_text c.args.kept.now c.args.task.now) c.args.task.now tasks (keeps c.args.task.now)
