use Rattle.std.proofs.Common.{rules}
use Rattle.image_build.proofs.Finding.{ram_three}
use Rattle.image_build.proofs.symbols.push_ram.Goals as goal

pub returns : goal.returns
returns c = ram_three _ _ _ _ _ _ _ _ (search rules) c.in_ok-push.ensures c.in_ok-push-2.ensures c.in_ok-push-3.ensures
