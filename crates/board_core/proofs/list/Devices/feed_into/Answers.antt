use Rattle.kernel_abi.specs.Devices.{after_input}
use Rattle.board_core.proofs.Members.{changed_shows}
use Rattle.board_core.proofs.list.Devices.feed_into.Goals as goal

pub returns-clause-after : goal.returns-clause-after
returns-clause-after g c = changed_shows _ _ _ _ _ (λ d. after_input d c.args.byte) c.requires.there c.index_mut.ensures.value c.feed_to.ensures.after
