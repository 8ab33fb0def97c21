use Rattle.std.proofs.Common.{Some}
use Rattle.mem_banks.proofs.Halves.{without_areas}
use Rattle.mem_banks.proofs.window.open_usual.Goals as goal

pub returns : goal.returns
returns g c =
    let a = c.args in
    let left = c.open_in_order.new in
    without_areas g.B.WindowUser.did a.banks.now left.banks a.flash (Some a.ram) a.user.now left.user c.new-none.result.items left.area.items c.new-no_second.result.items left.second.items c.new-none.ensures.items c.new-no_second.ensures.items c.open_in_order.ensures
