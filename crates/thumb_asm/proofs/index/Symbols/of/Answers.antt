use Rattle.std.specs.BTreeMap.{get_by_text}
use Rattle.thumb_asm.specs.Passes.{names_of}
use Rattle.thumb_asm.proofs.Labels.{same_env}
use Rattle.thumb_asm.proofs.index.Symbols.of.Goals as goal

pub returns : goal.returns
returns c = same_env (get_by_text c.in_ok-values.values) (names_of c.args.symbols.now) c.in_ok-values.ensures
