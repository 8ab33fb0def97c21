use Rattle.kernel_abi.specs.Devices.{after_load}
use Rattle.board_core.proofs.Members.{changed_shows}
use Rattle.board_core.proofs.list.Devices.take.Goals as goal

pub returns : goal.returns
returns g c = changed_shows _ _ _ _ _ (λ d. after_load d c.args.off) c.requires.there c.index_mut.ensures.value c.take_from.ensures
