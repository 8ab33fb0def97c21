use Rattle.std.proofs.Common.{subst}
use Rattle.kernel_abi.specs.Devices.{DeviceData, IsSettable}
use Rattle.board_core.proofs.Members.{member_shows, changed_shows}
use Rattle.board_core.proofs.list.Devices.set.Goals as goal

pub set_to-requires : goal.set_to-requires
set_to-requires g c =
    let P : DeviceData → Type 0 = λ d. IsSettable d.kind c.args.count c.args.queue.now in
    subst P (member_shows _ _ _ _ c.requires.there c.index_mut.ensures.value) c.requires.fits

pub returns : goal.returns
returns g c = changed_shows _ _ _ _ _ (λ d. record d { count = c.args.count; queue = c.args.queue.now }) c.requires.there c.index_mut.ensures.value c.set_to.ensures
