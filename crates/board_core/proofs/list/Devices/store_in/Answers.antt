use Rattle.kernel_abi.specs.Devices.{after_store}
use Rattle.board_core.proofs.Members.{changed_shows}
use Rattle.board_core.proofs.list.Devices.store_in.Goals as goal

pub returns-clause-stored : goal.returns-clause-stored
returns-clause-stored g c = changed_shows _ _ _ _ _ (λ d. after_store d c.args.off) c.requires.there c.index_mut.ensures.value c.store_to.ensures.stored
